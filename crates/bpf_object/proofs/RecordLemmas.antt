-- The names of a record and of its items are inside the strings, and what its kind_flag means.
use Rattle.std.proofs.Common.{◌≡◌, ◌≢◌, ℕ, ◌+◌, ◌*◌, ◌<◌, ◌==◌, ◌&&◌, Bool, true, false, not, List, length, inl, inr, refl, sym, ap, subst, ◌∙◌, arith}
use Rattle.std.specs.Prelude.{slice_index, if◌then◌else◌}
use Rattle.std.proofs.lemmas.Bool.{cases_Bool, ne_eqb}
use Rattle.std.proofs.lemmas.Bool.Decides.{nat_tests}
use Rattle.btf_raw.specs.{Kinds.is_struct, Kinds.item_words, Kinds.has_item_names}
use Rattle.btf_raw.specs.Frames.{IsFrame, kind, vlen, flag, name_word}
use Rattle.btf_raw.proofs.Texts.{TextAt-inside}
use Rattle.btf_types.specs.{Reading.item_total, checks.FieldFaults.width, checks.FieldFaults.HasBitFields, checks.RecordFaults.BitFieldsAre}
use Rattle.btf_types.specs.tables.OffsetWords.{ReadsRecord}
use Rattle.btf_types.proofs.{CheckLemmas.RoleSteps.struct_size, CheckLemmas.RoleSteps.named_words, FaultlessLemmas.FaultlessWords.item_ends, FaultlessLemmas.FaultlessWords.room}
use Rattle.bpf_object.specs.{Types.item_name, Types.named_items, Types.is_flagged, Lines.any_of}
use Rattle.bpf_object.proofs.TestLemmas.{any_found, any_none}

pub name_inside : (strings f : List ℕ) → ReadsRecord strings f → name_word f < length strings
name_inside strings f reads = TextAt-inside strings (name_word f) _ reads.name.text

-- ---- items

-- an item with a name
pub record HasItem (f : List ℕ) (k : ℕ) : Type 0 where
  pub has : has_item_names (kind f) ≡ true
  pub low : k < vlen f

pub item_there : (f : List ℕ) (k : ℕ) → k < named_items f → HasItem f k
item_there f k low = split (has_item_names (kind f)) refl low
  where
    split : (b : Bool) → has_item_names (kind f) ≡ b → k < (if b then vlen f else 0) → HasItem f k
    split true has h = record { has = has; low = h }
    split false has h = absurd (omega (arith, h))

pub item_inside : (f : List ℕ) (k : ℕ) → IsFrame f → k < named_items f → item_name f k < length f
item_inside f k frame low =
    let item = item_there f k low in
    let ends = item_ends (item_words (kind f)) k (vlen f) 0 item.low (named_words (kind f) item.has) in
    omega (arith, room f frame, ends)

all_items : (f : List ℕ) → 0 < item_words (kind f) → item_total f ≡ vlen f
all_items f some =
    let other : (item_words (kind f) == 0) ≡ false = ne_eqb (item_words (kind f)) 0 (λ e. omega (arith, e, some)) in
    rw other refl

pub item_name_inside : (strings f : List ℕ) (k : ℕ) → ReadsRecord strings f → k < named_items f → slice_index f (item_name f k) < length strings
item_name_inside strings f k reads low =
    let item = item_there f k low in
    let total = all_items f (named_words (kind f) item.has) in
    TextAt-inside strings _ _ (reads.item_names k (omega (arith, item.low, total)) item.has).text

-- ---- kind_flag

pub some_width : (f : List ℕ) → is_struct (kind f) ≡ true → HasBitFields f → any_of (vlen f) (λ k. not (width f (5 + 3 * k) == 0)) ≡ true
some_width f struct h =
    let size = struct_size (kind f) struct in
    let k = h.1.1 in
    let place = rw size at h.1.2.1 in
    let at : h.0 ≡ 5 + 3 * k = omega (arith, place) in
    let wide : width f (5 + 3 * k) ≢ 0 = subst (λ (j : ℕ). width f j ≢ 0) at h.2 in
    any_found (vlen f) k (λ i. not (width f (5 + 3 * i) == 0)) h.1.2.0 (ap not (ne_eqb (width f (5 + 3 * k)) 0 wide))

not_equal : (a b : ℕ) → (a == b) ≡ false → a ≢ b
not_equal a b h e = let same : (a == b) ≡ true = grind (arith, nat_tests) in cc

no_width : (f : List ℕ) (k : ℕ) → is_struct (kind f) ≡ true → BitFieldsAre f false → k < vlen f → not (width f (5 + 3 * k) == 0) ≡ false
no_width f k struct are low =
    elim (cases_Bool (width f (5 + 3 * k) == 0)) [
      | inl none ↦ ap not none
      | inr some ↦
          let size = struct_size (kind f) struct in
          let at : 5 + 3 * k ≡ 3 + item_words (kind f) * k + 2 = rw size (omega arith) in
          let h : HasBitFields f = (5 + 3 * k, (struct, k, (low, at)), not_equal _ 0 some) in
          let told = are.none h in
          cc
    ]

-- whether a struct or union has bit-fields
widths_told : (f : List ℕ) (b : Bool) → is_struct (kind f) ≡ true → BitFieldsAre f b → b ≡ any_of (vlen f) (λ k. not (width f (5 + 3 * k) == 0))
widths_told f true struct are = sym (some_width f struct (are.some refl))
widths_told f false struct are = sym (any_none (vlen f) (λ k. not (width f (5 + 3 * k) == 0)) (λ k lt. no_width f k struct are lt))

last_of_three : (x y z : Bool) → x ≡ true → y ≡ false → (x && (not y && z)) ≡ z
last_of_three x y z p q = rw (p, q) refl

pub flagged_is : (f : List ℕ) (b : Bool) → is_struct (kind f) ≡ true → flag f ≢ 0 → BitFieldsAre f b → not b ≡ is_flagged f
flagged_is f b struct set are = ap not (widths_told f b struct are) ∙ sym (last_of_three (is_struct (kind f)) (flag f == 0) _ struct (ne_eqb (flag f) 0 set))
