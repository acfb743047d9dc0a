-- A record with new numbers has its other fields as they are.
use Rattle.std.proofs.Common.{◌≡◌, ℕ, zero, suc, ◌<◌, ◌≤◌, ◌==◌, Bool, true, false, List, [], ◌∷◌, length, get_or, inl, inr, refl, sym, ◌∙◌, arith}
use Rattle.std.specs.Prelude.{if◌then◌else◌, slice_index}
use Rattle.std.proofs.lemmas.Bool.{cases_lt}
use Rattle.btf_raw.specs.KindNumbers.{ARRAY, FUNC_PROTO, DATASEC}
use Rattle.btf_raw.specs.Kinds.{has_target, is_struct}
use Rattle.btf_raw.specs.Frames.{name_word, info_word, third_word, kind, flag, vlen}
use Rattle.btf_types.specs.Reading.{tabulate}
use Rattle.btf_types.proofs.Lists.{length-tabulate, get_or-tabulate}
use Rattle.bpf_object.specs.TypeOrder.{is_type_word, renewed_word, renewed_frame}

no_choice : (a b c d : Bool) (x y z u : Bool) → x ≡ false → y ≡ false → z ≡ false → u ≡ false
    → (if a then x else if b then y else if c then z else if d then u else false) ≡ false
no_choice true b c d x y z u p q r o = p
no_choice false true c d x y z u p q r o = q
no_choice false false true d x y z u p q r o = r
no_choice false false false true x y z u p q r o = o
no_choice false false false false x y z u p q r o = refl

-- name_off and info are no types
pub no_type_0 : (k : ℕ) → is_type_word k 0 ≡ false
no_type_0 k = no_choice (k == ARRAY) (is_struct k) (k == FUNC_PROTO) (k == DATASEC) false false false false refl refl refl refl

pub no_type_1 : (k : ℕ) → is_type_word k 1 ≡ false
no_type_1 k = no_choice (k == ARRAY) (is_struct k) (k == FUNC_PROTO) (k == DATASEC) false false false false refl refl refl refl

pub past_end : (xs : List ℕ) (j : ℕ) → length xs ≤ j → get_or xs j 0 ≡ 0
past_end [] j le = refl
past_end (x ∷ xs) zero le = absurd (omega (arith, le))
past_end (x ∷ xs) (suc j) le = past_end xs j (omega (arith, le))

module _ (new : ℕ → ℕ) (f : List ℕ) where
  pub renewed_length : length (renewed_frame new f) ≡ length f
  renewed_length = length-tabulate (renewed_word new f) (length f)

  pub renewed_at : (j : ℕ) → j < length f → slice_index (renewed_frame new f) j ≡ renewed_word new f j
  renewed_at j lt = get_or-tabulate (renewed_word new f) (length f) j 0 lt

  -- a field that is no type
  pub renewed_other : (j : ℕ) → is_type_word (kind f) j ≡ false → slice_index (renewed_frame new f) j ≡ slice_index f j
  renewed_other j other = elim (cases_lt j (length f)) [
    | inl lt ↦ renewed_at j lt ∙ rw other refl
    | inr le ↦ past_end (renewed_frame new f) j (omega (arith, le, renewed_length)) ∙ sym (past_end f j (omega (arith, le)))
  ]

  -- a field that is one
  pub renewed_type : (j : ℕ) → is_type_word (kind f) j ≡ true → j < length f → slice_index (renewed_frame new f) j ≡ new (slice_index f j)
  renewed_type j is lt = renewed_at j lt ∙ rw is refl

  pub renewed_name : name_word (renewed_frame new f) ≡ name_word f
  renewed_name = renewed_other 0 (no_type_0 (kind f))

  pub renewed_info : info_word (renewed_frame new f) ≡ info_word f
  renewed_info = renewed_other 1 (no_type_1 (kind f))

  pub renewed_kind : kind (renewed_frame new f) ≡ kind f
  renewed_kind = rw renewed_info refl

  pub renewed_flag : flag (renewed_frame new f) ≡ flag f
  renewed_flag = rw renewed_info refl

  pub renewed_vlen : vlen (renewed_frame new f) ≡ vlen f
  renewed_vlen = rw renewed_info refl

  -- the third field, if 0 stays
  pub renewed_third : new 0 ≡ 0 → third_word (renewed_frame new f) ≡ (if has_target (kind f) then new (third_word f) else third_word f)
  renewed_third none = elim (cases_lt 2 (length f)) [
    | inl lt ↦ renewed_at 2 lt
    | inr le ↦
        past_end (renewed_frame new f) 2 (omega (arith, le, renewed_length))
        ∙ rw (past_end f 2 (omega (arith, le)), none) (sym (both_same (has_target (kind f)) 0))
  ]
    where
      both_same : (b : Bool) (z : ℕ) → (if b then z else z) ≡ z
      both_same true z = refl
      both_same false z = refl

-- if all numbers stay, the record does
pub words_again : (f : List ℕ) (g : ℕ → ℕ) (n : ℕ) → ((j : ℕ) → g j ≡ get_or f j 0) → n ≡ length f → tabulate g n ≡ f
words_again f g n same whole =
    same_list (tabulate g n) f (length-tabulate g n ∙ whole)
    (λ i lt. get_or-tabulate g n i 0 (omega (arith, lt, length-tabulate g n)) ∙ same i)
  where
    same_list : (xs ys : List ℕ) → length xs ≡ length ys → ((i : ℕ) → i < length xs → get_or xs i 0 ≡ get_or ys i 0) → xs ≡ ys
    same_list [] [] same each = refl
    same_list [] (y ∷ ys) same each = absurd (omega (arith, same))
    same_list (x ∷ xs) [] same each = absurd (omega (arith, same))
    same_list (x ∷ xs) (y ∷ ys) same each =
        let first : x ≡ y = each 0 (omega arith) in
        let rest : xs ≡ ys = same_list xs ys (omega (arith, same)) (λ i lt. each (suc i) (omega (arith, lt))) in
        cc

either : (b : Bool) (x y : ℕ) → x ≡ y → (if b then x else y) ≡ y
either true x y e = e
either false x y e = refl

pub renewed_same : (new : ℕ → ℕ) (f : List ℕ) → ((t : ℕ) → new t ≡ t) → renewed_frame new f ≡ f
renewed_same new f same =
    words_again f (renewed_word new f) (length f) (λ j. either (is_type_word (kind f) j) (new (slice_index f j)) (slice_index f j) (same (slice_index f j))) refl
