-- The comparison of records with the types of a table.
use Rattle.std.proofs.Common.{◌≡◌, ◌<◌, ◌≤◌, ◌+◌, ◌++◌, ◌∙◌, ℕ, Some, List, [], ◌∷◌, length, take, drop, get_or, sym, ap, subst, inl, inr, arith, length-append}
use Rattle.std.specs.Prelude.{slice_get, slice_index}
use Rattle.std.specs.List.{AllZip}
use Rattle.std.proofs.Math.Seq.{get_or-append_seam}
use Rattle.std.proofs.lemmas.List.{take_more, take_all, length-take, length-drop, get_or-take, get_or-drop}
use Rattle.std.proofs.lemmas.Option.{get_or_from_slice_get}
use Rattle.bpf_text.proofs.InsnLemmas.ZipLemmas.{zip_push}
use Rattle.btf_types.proofs.Lists.{zip_at}
use Rattle.bpfcanon_c.specs.BtfSaying.{IsNamed}
use Rattle.bpfcanon_c.proofs.BtfRows.{more_at}

-- ---- names

-- a name that isn't empty is at an offset
pub record Stands (strings : List ℕ) (at : ℕ) (name : List ℕ) : Type 0 where
  pub inside : at + length name < length strings
  pub nul : slice_index strings (at + length name) ≡ 0

pub named_stands : (strings : List ℕ) (at : ℕ) (name : List ℕ) → 0 < length name → IsNamed strings at name → Stands strings at name
named_stands strings at name some (inl e) = absurd (omega (arith, ap length e))
named_stands strings at name some (inr e) =
    let n = length name in
    let rest = drop at strings in
    record {
      inside = omega (arith, ap length e, length-append name (0 ∷ []), length-take (n + 1) rest, length-drop at strings);
      nul =
          sym (get_or-drop at strings n 0) ∙ sym (get_or-take (n + 1) rest n 0 (omega arith)) ∙ ap (λ (t : List ℕ). get_or t n 0) e ∙ get_or-append_seam name 0 [] 0;
    }

-- ---- one item or one type more

pub zip_next : {A B : Type 0} (R : A → B → Type 0) (xs : List A) (ys : List B) (k : ℕ) (d : A) (y : B) → k < length xs → k < length ys → slice_get ys k ≡ Some y
    → AllZip R (take k xs) (take k ys) → R (get_or xs k d) y → AllZip R (take (k + 1) xs) (take (k + 1) ys)
zip_next R xs ys k d y low high is zip more =
    subst (λ (t : List _). AllZip R t (take (k + 1) ys)) (sym (take_more xs k d low))
    (subst (λ (t : List _). AllZip R (take k xs ++ get_or xs k d ∷ []) t) (sym (more_at ys k y high is)) (zip_push R (take k xs) (take k ys) (get_or xs k d) y zip more))

pub zip_here : {A B : Type 0} (R : A → B → Type 0) (xs : List A) (ys : List B) (k : ℕ) (d : A) (y : B) → k < length xs → slice_get ys k ≡ Some y → AllZip R xs ys → R (get_or xs k d) y
zip_here R xs ys k d y low is zip = subst (λ (b : _). R (get_or xs k d) b) (get_or_from_slice_get ys k y y is) (zip_at R xs ys k d y zip low)

pub zip_whole : {A B : Type 0} (R : A → B → Type 0) (xs : List A) (ys : List B) (k : ℕ) → length xs ≤ k → length ys ≤ k → AllZip R (take k xs) (take k ys) → AllZip R xs ys
zip_whole R xs ys k low high zip = subst (λ (t : List _). AllZip R t ys) (take_all k xs low) (subst (λ (t : List _). AllZip R (take k xs) t) (take_all k ys high) zip)
