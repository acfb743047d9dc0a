-- The groups of a part of .BTF.ext, read back where they are written.
use Rattle.std.proofs.Common.{◌≡◌, ℕ, zero, suc, ◌+◌, ◌*◌, ◌%◌, ◌^◌, ◌<◌, ◌≤◌, ◌==◌, ◌&&◌, ◌||◌, Bool, true, false, cond, List, [], ◌∷◌, ◌++◌, length, get_or, refl, sym, ap, subst, ◌∙◌, length-append, arith}
use Rattle.std.specs.Prelude.{nat_lt, nat_le}
use Rattle.std.specs.List.{All, AllZip, flat_map}
use Rattle.std.proofs.lemmas.Bool.{and_from, or_left, or_right, ne_eqb}
use Rattle.std.proofs.lemmas.Bool.Decides.{nat_tests}
use Rattle.std.proofs.lemmas.List.Elements.{All-head, All-tail}
use Rattle.bpf_words.specs.Words.{word32}
use Rattle.bpf_words.proofs.WordLemmas.{length-word32}
use Rattle.bpf_elf.specs.Names.{is_section_name}
use Rattle.bpf_elf.specs.Rules.{AllHold}
use Rattle.bpf_elf.proofs.RuleLemmas.{both_hold}
use Rattle.bpf_object.specs.declared.extension.Part.{Part}
use Rattle.bpf_object.specs.Objects.{Group}
use Rattle.bpf_object.specs.Canonical.{group_bytes, part_bytes}
use Rattle.bpf_object.specs.Extension.{Section, word, part_offset, part_len, part_start, part_end, group_name, group_count, record_offset, record_size, next_group, groups_from, groups, form_rules, group_rules, groups_rules, part_rules}
use Rattle.bpf_object.proofs.{ReadBackTests.equal_test, ReadBackTests.less_test, ReadBackTests.most_test}
use Rattle.bpf_object.proofs.ReadBackRows.{rows, flat_map_rows, row_here}
use Rattle.bpf_object.proofs.ReadBackWords.{HasBytes, has_same, has_at, has_first, has_rest, has_inside, read_32}

-- a group whose fields fit
pub record FitsGroup {R : Type 0} (place : List ℕ → ℕ) (gr : Group R) : Type 0 where
  pub name : place gr.section < 2 ^ 32
  pub few : length gr.records < 2 ^ 32

-- a group with records, and with the name of a section
pub record IsNamed {R : Type 0} (place : List ℕ → ℕ) (strings : List ℕ) (gr : Group R) : Type 0 where
  pub some : 0 < length gr.records
  pub named : is_section_name strings (place gr.section) ≡ true

-- a part of records of one size, with its names at these offsets
module _ {R : Type 0} (x : Section) (p : Part) (place : List ℕ → ℕ) (bytes : R → List ℕ) (size : (r : R) → length (bytes r) ≡ record_size p) (d : R) where
  abbrev pub written : Group R → List ℕ
  written gr = group_bytes x.order place bytes gr

  -- a group is at an offset of the section, inside the part
  pub record IsGroupAt (gr : Group R) (g : ℕ) : Type 0 where
    pub name : group_name x g ≡ place gr.section
    pub count : group_count x g ≡ length gr.records
    pub within : next_group x p g ≤ part_end x p
    pub rows : (k : ℕ) → k < length gr.records → HasBytes x.bytes (record_offset p g k) (bytes (get_or gr.records k d))

  records_length : (rs : List R) → length (flat_map bytes rs) ≡ record_size p * length rs
  records_length [] = omega arith
  records_length (r ∷ rs) = let one = size r in omega (arith, length-append (bytes r) (flat_map bytes rs), one, records_length rs)

  pub group_length : (gr : Group R) → length (written gr) ≡ 8 + record_size p * length gr.records
  group_length gr =
      let first = word32 x.order (place gr.section) in
      let second = word32 x.order (length gr.records) in
      omega (
        arith,
        length-append (first ++ second) (flat_map bytes gr.records),
        length-append first second,
        length-word32 x.order (place gr.section),
        length-word32 x.order (length gr.records),
        records_length gr.records,
      )

  group_there : (gr : Group R) (g : ℕ) → HasBytes x.bytes g (written gr) → FitsGroup place gr → g + length (written gr) ≤ part_end x p → IsGroupAt gr g
  group_there gr g h fits inside =
      let first = word32 x.order (place gr.section) in
      let second = word32 x.order (length gr.records) in
      let rest = flat_map bytes gr.records in
      let head : HasBytes x.bytes g (first ++ second) = has_first x.bytes g (first ++ second) rest h in
      let head_size : length (first ++ second) ≡ 8 =
      omega (arith, length-append first second, length-word32 x.order (place gr.section), length-word32 x.order (length gr.records)) in
      let count : group_count x g ≡ length gr.records =
      read_32 x.order x.bytes (g + 4) (length gr.records) (has_rest x.bytes g 4 first second head (length-word32 x.order (place gr.section))) fits.few in
      let row = λ (k : ℕ). bytes (get_or gr.records k d) in
      let all : HasBytes x.bytes (g + 8) (rows row (length gr.records)) =
      has_same x.bytes (g + 8) rest (rows row (length gr.records)) (has_rest x.bytes g 8 (first ++ second) rest h head_size) (flat_map_rows bytes gr.records d) in
      record {
        name = read_32 x.order x.bytes g (place gr.section) (has_first x.bytes g first second head) fits.name;
        count = count;
        within = omega (arith, inside, group_length gr, ap (λ (k : ℕ). record_offset p g k) count);
        rows = λ k lt. row_here x.bytes (g + 8) row (record_size p) (length gr.records) k (λ i. size (get_or gr.records i d)) lt all;
      }

  -- ---- all groups

  more_length : (gr : Group R) (grs : List (Group R)) → length (flat_map written (gr ∷ grs)) ≡ length (written gr) + length (flat_map written grs)
  more_length gr grs = length-append (written gr) (flat_map written grs)

  next_is : (gr : Group R) (g : ℕ) → IsGroupAt gr g → next_group x p g ≡ g + length (written gr)
  next_is gr g here = ap (λ (k : ℕ). record_offset p g k) here.count ∙ omega (arith, group_length gr)

  pub groups_there : (n : ℕ) (gr : Group R) (grs : List (Group R)) (g : ℕ) → HasBytes x.bytes g (flat_map written (gr ∷ grs)) → All (FitsGroup place) (gr ∷ grs)
      → part_end x p ≡ g + length (flat_map written (gr ∷ grs)) → length (flat_map written (gr ∷ grs)) ≤ n → AllZip IsGroupAt (gr ∷ grs) (groups_from x p n g)
  groups_there zero gr grs g h fits ends enough = absurd (omega (arith, enough, more_length gr grs, group_length gr))
  groups_there (suc n) gr [] g h fits ends enough =
      let here = group_there gr g (has_first x.bytes g (written gr) [] h) (All-head (FitsGroup place) gr [] fits) (omega (arith, ends, more_length gr [])) in
      let past : nat_lt (next_group x p g) (part_end x p) ≡ false = not_less (next_group x p g) (part_end x p) (omega (arith, ends, more_length gr [], next_is gr g here)) in
      (here, subst (λ (b : Bool). AllZip IsGroupAt [] (cond b (groups_from x p n (next_group x p g)) [])) (sym past) tt)
    where
      not_less : (a b : ℕ) → b ≤ a → nat_lt a b ≡ false
      not_less a b le = grind (arith, nat_tests)
  groups_there (suc n) gr (hr ∷ grs) g h fits ends enough =
      let long = more_length gr (hr ∷ grs) in
      let here = group_there gr g (has_first x.bytes g (written gr) (flat_map written (hr ∷ grs)) h) (All-head (FitsGroup place) gr (hr ∷ grs) fits) (omega (arith, ends, long)) in
      let next = next_is gr g here in
      let more : nat_lt (next_group x p g) (part_end x p) ≡ true =
      less_test (next_group x p g) (part_end x p) (omega (arith, ends, long, next, more_length hr grs, group_length hr)) in
      let after : HasBytes x.bytes (next_group x p g) (flat_map written (hr ∷ grs)) =
      has_at x.bytes (g + length (written gr)) (next_group x p g) (flat_map written (hr ∷ grs)) (has_rest x.bytes g (length (written gr)) (written gr) (flat_map written (hr ∷ grs)) h refl) (sym next) in
      let rest = groups_there n hr grs (next_group x p g) after (All-tail (FitsGroup place) gr (hr ∷ grs) fits) (omega (arith, ends, long, next)) (omega (arith, enough, long, group_length gr)) in
      (here, subst (λ (b : Bool). AllZip IsGroupAt (hr ∷ grs) (cond b (groups_from x p n (next_group x p g)) [])) (sym more) rest)

  -- ---- the rules on them

  group_kept : (gr : Group R) (g : ℕ) → IsGroupAt gr g → IsNamed place x.strings gr → AllHold (group_rules x p g)
  group_kept gr g here its =
      let some = its.some in
      let counted = here.count in
      let inside : (nat_le (next_group x p g) (part_end x p) && nat_lt 0 (group_count x g)) ≡ true =
      and_from (nat_le (next_group x p g) (part_end x p)) (nat_lt 0 (group_count x g)) (most_test (next_group x p g) (part_end x p) here.within)
      (less_test 0 (group_count x g) (omega (arith, some, counted))) in
      let named : is_section_name x.strings (group_name x g) ≡ true = ap (λ (k : ℕ). is_section_name x.strings k) here.name ∙ its.named in
      rw (inside, named) refl

  pub groups_kept : (gs : List (Group R)) (places : List ℕ) → AllZip IsGroupAt gs places → All (IsNamed place x.strings) gs → AllHold (groups_rules x p places)
  groups_kept [] [] there named = refl
  groups_kept [] (g ∷ places) there named = absurd there
  groups_kept (gr ∷ gs) [] there named = absurd there
  groups_kept (gr ∷ gs) (g ∷ places) there named =
      both_hold (group_rules x p g) (groups_rules x p places) (group_kept gr g there.0 (All-head (IsNamed place x.strings) gr gs named)) (groups_kept gs places there.1 (All-tail (IsNamed place x.strings) gr gs named))

  -- ---- a part

  -- the bytes of a part are at this offset, as the header says
  pub record IsPartAt (start : ℕ) (part : List ℕ) : Type 0 where
    pub start_is : part_start x p ≡ start
    pub len_is : part_len x p ≡ length part
    pub there : HasBytes x.bytes start part
    pub offset : part_offset x p % 4 ≡ 0

  abbrev pub part_of : List (Group R) → List ℕ
  part_of gs = part_bytes x.order (record_size p) written gs

  some_part : (gr : Group R) (grs : List (Group R)) → length (part_of (gr ∷ grs)) ≡ 4 + length (flat_map written (gr ∷ grs))
  some_part gr grs = omega (arith, length-append (word32 x.order (record_size p)) (flat_map written (gr ∷ grs)), length-word32 x.order (record_size p))

  pub groups_of_part : (gs : List (Group R)) (start : ℕ) → IsPartAt start (part_of gs) → All (FitsGroup place) gs → AllZip IsGroupAt gs (groups x p)
  groups_of_part [] start at fits =
      let none : (part_len x p == 0) ≡ true = equal_test (part_len x p) 0 at.len_is in
      subst (λ (b : Bool). AllZip IsGroupAt [] (cond b [] (groups_from x p (part_len x p) (part_start x p + 4)))) (sym none) tt
  groups_of_part (gr ∷ grs) start at fits =
      let begins = at.start_is in
      let len = at.len_is in
      let size_word = word32 x.order (record_size p) in
      let some : (part_len x p == 0) ≡ false =
      ne_eqb (part_len x p) 0 (λ e. omega (arith, e, len, some_part gr grs)) in
      let after : HasBytes x.bytes (part_start x p + 4) (flat_map written (gr ∷ grs)) =
      has_at x.bytes (start + 4) (part_start x p + 4) (flat_map written (gr ∷ grs))
      (has_rest x.bytes start 4 size_word (flat_map written (gr ∷ grs)) at.there (length-word32 x.order (record_size p))) (omega (arith, begins)) in
      let all = groups_there (part_len x p) gr grs (part_start x p + 4) after fits (omega (arith, len, some_part gr grs)) (omega (arith, len, some_part gr grs)) in
      subst (λ (b : Bool). AllZip IsGroupAt (gr ∷ grs) (cond b [] (groups_from x p (part_len x p) (part_start x p + 4)))) (sym some) all

  -- ---- lengths are multiples of 4

  module _ (q : ℕ) (quarter : record_size p ≡ 4 * q) where
    quarters : (gs : List (Group R)) → (m : ℕ) × (length (flat_map written gs) ≡ 4 * m)
    quarters [] = (0, refl)
    quarters (gr ∷ gs) =
        let rest = quarters gs in
        (2 + q * length gr.records + rest.0, omega (arith, more_length gr gs, group_length gr, ap (λ (z : ℕ). z * length gr.records) quarter, rest.1))

    pub part_quarter : (gs : List (Group R)) → length (part_of gs) % 4 ≡ 0
    part_quarter [] = refl
    part_quarter (gr ∷ grs) = let all = quarters (gr ∷ grs) in omega (arith, some_part gr grs, all.1)

    size_there : (gs : List (Group R)) (start : ℕ) → IsPartAt start (part_of gs) → record_size p < 2 ^ 32 → (part_len x p == 0 || word x (part_start x p) == record_size p) ≡ true
    size_there [] start at small = or_left (part_len x p == 0) (word x (part_start x p) == record_size p) (equal_test (part_len x p) 0 at.len_is)
    size_there (gr ∷ grs) start at small =
        let size_word = word32 x.order (record_size p) in
        or_right (part_len x p == 0) (word x (part_start x p) == record_size p)
        (equal_test (word x (part_start x p)) (record_size p)
        (ap (λ (i : ℕ). word x i) at.start_is ∙ read_32 x.order x.bytes start (record_size p) (has_first x.bytes start size_word (flat_map written (gr ∷ grs)) at.there) small))

    pub form_kept : (gs : List (Group R)) (start : ℕ) → IsPartAt start (part_of gs) → record_size p < 2 ^ 32 → AllHold (form_rules x p)
    form_kept gs start at small =
        let begins = at.start_is in
        let len = at.len_is in
        let ends : nat_le (part_end x p) (length x.bytes) ≡ true =
        most_test (part_end x p) (length x.bytes) (omega (arith, begins, len, has_inside x.bytes start (part_of gs) at.there)) in
        let whole : (part_offset x p % 4 == 0 && part_len x p % 4 == 0) ≡ true =
        and_from (part_offset x p % 4 == 0) (part_len x p % 4 == 0) (equal_test (part_offset x p % 4) 0 at.offset)
        (equal_test (part_len x p % 4) 0 (ap (λ (n : ℕ). n % 4) len ∙ part_quarter gs)) in
        let inside : (nat_le (part_end x p) (length x.bytes) && (part_offset x p % 4 == 0 && part_len x p % 4 == 0)) ≡ true =
        and_from (nat_le (part_end x p) (length x.bytes)) (part_offset x p % 4 == 0 && part_len x p % 4 == 0) ends whole in
        rw (inside, size_there gs start at small) refl

    pub part_kept : (gs : List (Group R)) (start : ℕ) → IsPartAt start (part_of gs) → record_size p < 2 ^ 32 → All (FitsGroup place) gs → All (IsNamed place x.strings) gs → AllHold (part_rules x p)
    part_kept gs start at small fits named =
        both_hold (form_rules x p) (groups_rules x p (groups x p)) (form_kept gs start at small) (groups_kept gs (groups x p) (groups_of_part gs start at fits) named)
