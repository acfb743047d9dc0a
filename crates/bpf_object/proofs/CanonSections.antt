-- A canonical file keeps the rules on its sections.
use Rattle.std.proofs.Common.{◌≡◌, ℕ, zero, suc, ◌+◌, ◌-◌, ◌<◌, ◌≤◌, ◌⊎◌, ◌==◌, ◌&&◌, ◌||◌, Bool, true, false, not, List, Option, Some, None, length, if◌then◌else◌, inl, inr, refl, sym, ap, subst, ◌∙◌, arith}
use Rattle.std.specs.Prelude.{nat_lt, nat_le, is_some}
use Rattle.std.proofs.lemmas.Bool.{cases_lt, cases_Bool, eqb-true, and_from, or_left, or_right, Decides.nat_tests}
use Rattle.bpf_elf.specs.declared.kinds.Kind.{Kind}
use Rattle.bpf_elf.specs.declared.kinds.Kind.TheVariants.{Data, Relocations, Symbols, Types, Extension, Dropped}
use Rattle.bpf_elf.specs.Names.{is_closed, string_at, is_section_name, NAME_LIMIT}
use Rattle.bpf_elf.specs.Kinds.{SHT_STRTAB, SHT_REL, kind_of, if_fits, is_kind, is_single}
use Rattle.bpf_elf.specs.Sections.{is_table_name}
use Rattle.bpf_elf.proofs.RuleLemmas.{first_of_none, first_of_found}
use Rattle.bpf_elf.proofs.KindLemmas.{none_is}
use Rattle.btf_raw.specs.Names.{IsWithoutNul}
use Rattle.bpf_object.specs.File.{WrittenSection}
use Rattle.bpf_object.specs.Objects.{KeptSection, Object}
use Rattle.bpf_object.specs.Canonical.{symtab_number, written_section}
use Rattle.bpf_object.proofs.ReadBackTests.{less_test, most_test}
use Rattle.bpf_object.proofs.ReadBackKinds.{written_name, written_kind, written_section as written_section_of, is_found, is_written_again}
use Rattle.bpf_object.proofs.ReadBackSectionRules.{AreSections, target_test, is_written_target}
use Rattle.bpf_object.proofs.CanonValid.{section_of, kind_of_section, IsDataOf, IsValidData, IsValidTable, IsValidSection, ValidObject}
use Rattle.bpf_object.proofs.CanonNames.{name_table, new_name_offset, name_table_closed, IsNameOf, file_name_reads, file_name_inside, section_name_there}
use Rattle.bpf_object.proofs.CanonRows.{section_rows, row_count, symtab_row, kept_row, own_name, own_kind, own_count, IsOwnRow, row_count_is, own_row_is, strtab_is, own_apart, own_not_data, own_not_table}
use Rattle.bpf_object.proofs.CanonFields.{split_row}

-- ---- kinds

pub some_kind : (k : Kind) (o : Option Kind) → is_kind k o ≡ true → is_some o ≡ true
some_kind k (Some j) is = refl
some_kind k None is = absurd (no (is_kind k None) (none_is k) is)
  where
    no : (y : Bool) → y ≡ false → y ≡ true → ⊥
    no y f t = cc

-- code and data, or a table of relocations
pub data IsKept (o : Option Kind) : Type 0 where
  is_data : is_kind Data o ≡ true → IsKept o
  is_table : is_kind Relocations o ≡ true → IsKept o

-- one isn't the other
pub not_both : (o : Option Kind) → is_kind Data o ≡ true → is_kind Relocations o ≡ true → ⊥
not_both (Some Data) d r = cc
not_both _ d r = cc

pub not_table : (o : Option Kind) → is_kind Data o ≡ true → is_kind Relocations o ≡ false
not_table o is = elim (cases_Bool (is_kind Relocations o)) [ inl table ↦ absurd (not_both o is table) | inr other ↦ other ]

data_only : (k : Kind) (o : Option Kind) → is_kind Data o ≡ true → is_kind Data (Some k) ≡ false → is_kind k o ≡ false
data_only k None is other = none_is k
data_only Data (Some j) is other = absurd cc
data_only Relocations (Some Data) is other = refl
data_only Symbols (Some Data) is other = refl
data_only Types (Some Data) is other = refl
data_only Extension (Some Data) is other = refl
data_only Dropped (Some Data) is other = refl
data_only _ (Some _) is other = absurd cc

table_only : (k : Kind) (o : Option Kind) → is_kind Relocations o ≡ true → is_kind Relocations (Some k) ≡ false → is_kind k o ≡ false
table_only k None is other = none_is k
table_only Relocations (Some j) is other = absurd cc
table_only Data (Some Relocations) is other = refl
table_only Symbols (Some Relocations) is other = refl
table_only Types (Some Relocations) is other = refl
table_only Extension (Some Relocations) is other = refl
table_only Dropped (Some Relocations) is other = refl
table_only _ (Some _) is other = absurd cc

-- a kind that isn't kept
kept_other : (k : Kind) (o : Option Kind) → IsKept o → is_kind Data (Some k) ≡ false → is_kind Relocations (Some k) ≡ false → is_kind k o ≡ false
kept_other k o (is_data is) d r = data_only k o is d
kept_other k o (is_table is) d r = table_only k o is r

kept_some : (o : Option Kind) → IsKept o → is_some o ≡ true
kept_some o (is_data is) = some_kind Data o is
kept_some o (is_table is) = some_kind Relocations o is

many : (x y z : Bool) → x ≡ false → y ≡ false → z ≡ false → (x || y || z) ≡ false
many x y z a b c = rw (a, b, c) refl

kept_many : (o : Option Kind) → IsKept o → is_single o ≡ false
kept_many o kept =
    many (is_kind Symbols o) (is_kind Types o) (is_kind Extension o) (kept_other Symbols o kept refl refl) (kept_other Types o kept refl refl) (kept_other Extension o kept refl refl)

fits_no_data : (x y : Bool) → is_kind Data (if_fits x (if y then Dropped else Relocations)) ≡ false
fits_no_data true true = refl
fits_no_data true false = refl
fits_no_data false true = refl
fits_no_data false false = refl

-- code and data aren't of type SHT_REL
pub data_type : (type : ℕ) (name : List ℕ) (flags : ℕ) → is_kind Data (kind_of type name flags) ≡ true → (type == SHT_REL) ≡ false
unfolding kind_of
data_type type name flags is = elim (cases_Bool (type == SHT_REL)) [
  | inl same ↦
      let at : is_kind Data (kind_of SHT_REL name flags) ≡ true = subst (λ (t : ℕ). is_kind Data (kind_of t name flags) ≡ true) (eqb-true _ _ same) is in
      let no : is_kind Data (kind_of SHT_REL name flags) ≡ false = fits_no_data _ _ in
      absurd (both (is_kind Data (kind_of SHT_REL name flags)) no at)
  | inr other ↦ other
]
  where
    both : (y : Bool) → y ≡ false → y ≡ true → ⊥
    both y f t = cc

pub kept_kind : (x : Object) (s : KeptSection) → IsValidSection x s → IsKept (kind_of_section s)
kept_kind x s valid = elim valid.kept [ inl its ↦ is_data its.kind | inr its ↦ is_table its.kind ]

-- ---- names

-- a name that may be one of a section
pub record IsShortName (x : Object) (name : List ℕ) : Type 0 where
  pub there : IsNameOf x name
  pub without_nul : IsWithoutNul name
  pub short : length name ≤ 1024

section_name_test : (x : Object) (name : List ℕ) → IsShortName x name → is_section_name (name_table x) (new_name_offset x name) ≡ true
section_name_test x name its =
    let reads = file_name_reads x name its.there its.without_nul in
    and_from (nat_lt (new_name_offset x name) (length (name_table x))) (nat_le (length (string_at (name_table x) (new_name_offset x name))) NAME_LIMIT)
    (less_test (new_name_offset x name) (length (name_table x)) (file_name_inside x name its.there its.without_nul))
    (ap (λ (t : List ℕ). nat_le (length t) NAME_LIMIT) reads ∙ most_test (length name) NAME_LIMIT its.short)

last_is : (x : Object) → row_count x - 1 ≡ symtab_row x + 1
last_is x = omega (arith, row_count_is x)

pub last_content : (x : Object) → (section_rows x (row_count x - 1)).content ≡ name_table x
last_content x = ap (λ (i : ℕ). (section_rows x i).content) (last_is x) ∙ ap (λ (w : WrittenSection). w.content) (strtab_is x)

last_type : (x : Object) → (section_rows x (row_count x - 1)).type ≡ SHT_STRTAB
last_type x = ap (λ (i : ℕ). (section_rows x i).type) (last_is x) ∙ ap (λ (w : WrittenSection). w.type) (strtab_is x)

-- the name of a section
row_name : (x : Object) (i : ℕ) (name : List ℕ) → IsShortName x name → (section_rows x i).name_offset ≡ new_name_offset x name
    → written_name (section_rows x) (row_count x) (suc i) ≡ name
row_name x i name its at =
    ap (λ (t : List ℕ). string_at t (section_rows x i).name_offset) (last_content x) ∙ ap (λ (k : ℕ). string_at (name_table x) k) at
    ∙ file_name_reads x name its.there its.without_nul

row_named : (x : Object) (i : ℕ) (name : List ℕ) → IsShortName x name → (section_rows x i).name_offset ≡ new_name_offset x name
    → is_section_name (section_rows x (row_count x - 1)).content (section_rows x i).name_offset ≡ true
row_named x i name its at =
    ap (λ (t : List ℕ). is_section_name t (section_rows x i).name_offset) (last_content x) ∙ ap (λ (k : ℕ). is_section_name (name_table x) k) at
    ∙ section_name_test x name its

row_kind : (x : Object) (i : ℕ) (name : List ℕ) (type flags : ℕ) → written_name (section_rows x) (row_count x) (suc i) ≡ name → (section_rows x i).type ≡ type
    → (section_rows x i).flags ≡ flags → written_kind (section_rows x) (row_count x) (suc i) ≡ kind_of type name flags
row_kind x i name type flags named typed flagged =
    ap (λ (t : ℕ). kind_of t (written_name (section_rows x) (row_count x) (suc i)) (section_rows x i).flags) typed
    ∙ ap (λ (t : List ℕ). kind_of type t (section_rows x i).flags) named ∙ ap (λ (t : ℕ). kind_of type name t) flagged

-- ---- the sections that are written anew

module _ (x : Object) (k : ℕ) (lt : k < own_count x) where
  own : IsOwnRow x (section_rows x (length x.sections + k)) (own_name x k) (own_kind x k)
  own = own_row_is x k lt

  own_short : IsShortName x (own_name x k)
  own_short = record { there = own.there; without_nul = own.without_nul; short = own.name_short }

  pub own_kind_is : written_kind (section_rows x) (row_count x) (suc (length x.sections + k)) ≡ Some (own_kind x k)
  own_kind_is =
      let i = length x.sections + k in
      row_kind x i (own_name x k) (section_rows x i).type (section_rows x i).flags (row_name x i (own_name x k) own_short own.name_offset) refl refl ∙ own.kind_is

  own_named : is_section_name (section_rows x (row_count x - 1)).content (section_rows x (length x.sections + k)).name_offset ≡ true
  own_named = row_named x (length x.sections + k) (own_name x k) own_short own.name_offset

  own_type : ((section_rows x (length x.sections + k)).type == SHT_REL) ≡ false
  own_type = let type = own.type in grind (arith, nat_tests)

-- ---- the sections that are kept

module _ (x : Object) (valid : ValidObject x) (i : ℕ) (lt : i < length x.sections) where
  kept : section_rows x i ≡ written_section x.order (new_name_offset x) (symtab_number x) (section_of x i)
  kept = kept_row x i lt

  kept_short : IsShortName x (section_of x i).name
  kept_short = record { there = section_name_there x i lt; without_nul = (valid.sections i lt).name; short = (valid.sections i lt).name_short }

  pub kept_name_is : written_name (section_rows x) (row_count x) (suc i) ≡ (section_of x i).name
  kept_name_is = row_name x i (section_of x i).name kept_short (ap (λ (w : WrittenSection). w.name_offset) kept)

  pub kept_kind_is : written_kind (section_rows x) (row_count x) (suc i) ≡ kind_of_section (section_of x i)
  kept_kind_is =
      row_kind x i (section_of x i).name (section_of x i).type (section_of x i).flags kept_name_is (ap (λ (w : WrittenSection). w.type) kept) (ap (λ (w : WrittenSection). w.flags) kept)

  kept_named : is_section_name (section_rows x (row_count x - 1)).content (section_rows x i).name_offset ≡ true
  kept_named = row_named x i (section_of x i).name kept_short (ap (λ (w : WrittenSection). w.name_offset) kept)

  pub row_is_kept : IsKept (written_kind (section_rows x) (row_count x) (suc i))
  row_is_kept = subst IsKept (sym kept_kind_is) (kept_kind x (section_of x i) (valid.sections i lt))

-- ---- at most one section of a kind

-- no row before one that is written anew has its kind
pub kind_before : (x : Object) → ValidObject x → (k : ℕ) → k < own_count x → (j : ℕ) → j < suc (length x.sections + k)
    → is_kind (own_kind x k) (written_kind (section_rows x) (row_count x) j) ≡ false
kind_before x valid k lt zero below = none_is (own_kind x k)
kind_before x valid k lt (suc j) below = elim (cases_lt j (length x.sections)) [
  | inl first ↦ kept_other (own_kind x k) (written_kind (section_rows x) (row_count x) (suc j)) (row_is_kept x valid j first) (own_not_data x k) (own_not_table x k)
  | inr from ↦
      let q = j - length x.sections in
      let at : length x.sections + q ≡ j = omega (arith, from) in
      let there : q < own_count x = omega (arith, lt, below, from) in
      subst (λ (m : ℕ). is_kind (own_kind x k) (written_kind (section_rows x) (row_count x) (suc m)) ≡ false) at
      (ap (λ (o : Option Kind). is_kind (own_kind x k) o) (own_kind_is x q there) ∙ own_apart x q k (omega (arith, below, from)) lt)
]

same_kind : (k : Kind) → is_kind k (Some k) ≡ true
same_kind Data = refl
same_kind Relocations = refl
same_kind Symbols = refl
same_kind Types = refl
same_kind Extension = refl
same_kind Dropped = refl

-- one that is written anew is the first section of its kind
pub own_found : (x : Object) → ValidObject x → (k : ℕ) → k < own_count x → (w : Kind) → own_kind x k ≡ w
    → written_section_of (section_rows x) (row_count x) w (row_count x + 1) ≡ suc (length x.sections + k)
own_found x valid k lt w is =
    let here : is_kind (own_kind x k) (written_kind (section_rows x) (row_count x) (suc (length x.sections + k))) ≡ true =
    ap (λ (o : Option Kind). is_kind (own_kind x k) o) (own_kind_is x k lt) ∙ same_kind (own_kind x k) in
    ap (λ (v : Kind). written_section_of (section_rows x) (row_count x) v (row_count x + 1)) (sym is)
    ∙ first_of_found (row_count x + 1) (suc (length x.sections + k)) (λ j. is_kind (own_kind x k) (written_kind (section_rows x) (row_count x) j))
    (omega (arith, lt, row_count_is x)) (kind_before x valid k lt) here (omega arith)

-- no section has a kind that is neither kept nor that of one that is written anew
pub none_found : (x : Object) → ValidObject x → (w : Kind) → is_kind Data (Some w) ≡ false → is_kind Relocations (Some w) ≡ false
    → ((k : ℕ) → is_kind w (Some (own_kind x k)) ≡ false) → written_section_of (section_rows x) (row_count x) w (row_count x + 1) ≡ 0
none_found x valid w code table own = first_of_none (row_count x + 1) (λ j. is_kind w (written_kind (section_rows x) (row_count x) j)) other
  where
    other : (j : ℕ) → j < row_count x + 1 → is_kind w (written_kind (section_rows x) (row_count x) j) ≡ false
    other zero lt = none_is w
    other (suc j) lt = elim (split_row x j (omega (arith, lt))) [
      | inl first ↦ kept_other w (written_kind (section_rows x) (row_count x) (suc j)) (row_is_kept x valid j first) code table
      | inr its ↦
          subst (λ (m : ℕ). is_kind w (written_kind (section_rows x) (row_count x) (suc m)) ≡ false) its.2
          (ap (λ (o : Option Kind). is_kind w o) (own_kind_is x its.0 its.1) ∙ own its.0)
    ]

once_if : (o : Option Kind) (f : Kind → ℕ) (k : Kind) → o ≡ Some k → f k ≡ 0 → not (is_single o && is_found f o) ≡ true
once_if (Some j) f k is none = let same : f j ≡ 0 = ap (λ (o : Option Kind). elim o [ Some i ↦ f i | None ↦ f j ]) is ∙ none in at_most (is_single (Some j)) (f j) same
  where
    at_most : (y : Bool) (n : ℕ) → n ≡ 0 → not (y && nat_lt 0 n) ≡ true
    at_most true n e = rw e refl
    at_most false n e = refl
once_if None f k is none = refl

many_once : (y z : Bool) → y ≡ false → not (y && z) ≡ true
many_once y z e = rw e refl

module _ (x : Object) (valid : ValidObject x) where
  own_once : (k : ℕ) → k < own_count x
      → not (is_single (written_kind (section_rows x) (row_count x) (suc (length x.sections + k))) && is_written_again (section_rows x) (row_count x) (suc (length x.sections + k))) ≡ true
  own_once k lt =
      let i = suc (length x.sections + k) in
      once_if (written_kind (section_rows x) (row_count x) i) (λ w. written_section_of (section_rows x) (row_count x) w i) (own_kind x k) (own_kind_is x k lt)
      (first_of_none i (λ j. is_kind (own_kind x k) (written_kind (section_rows x) (row_count x) j)) (kind_before x valid k lt))

  kept_once : (i : ℕ) → i < length x.sections
      → not (is_single (written_kind (section_rows x) (row_count x) (suc i)) && is_written_again (section_rows x) (row_count x) (suc i)) ≡ true
  kept_once i lt =
      many_once (is_single (written_kind (section_rows x) (row_count x) (suc i))) (is_written_again (section_rows x) (row_count x) (suc i))
      (kept_many (written_kind (section_rows x) (row_count x) (suc i)) (row_is_kept x valid i lt))

  -- ---- the sections of tables of relocations

  -- the number of a section of code or data, in the file
  pub data_row : (number : ℕ) → IsDataOf x number → written_kind (section_rows x) (row_count x) number ≡ kind_of_section (section_of x (number - 1))
  data_row number its =
      let some = its.some in
      let there = its.there in
      let at : suc (number - 1) ≡ number = omega (arith, some) in
      subst (λ (m : ℕ). written_kind (section_rows x) (row_count x) m ≡ kind_of_section (section_of x (number - 1))) at (kept_kind_is x valid (number - 1) (omega (arith, some, there)))

  data_name : (number : ℕ) → IsDataOf x number → written_name (section_rows x) (row_count x) number ≡ (section_of x (number - 1)).name
  data_name number its =
      let some = its.some in
      let there = its.there in
      let at : suc (number - 1) ≡ number = omega (arith, some) in
      subst (λ (m : ℕ). written_name (section_rows x) (row_count x) m ≡ (section_of x (number - 1)).name) at (kept_name_is x valid (number - 1) (omega (arith, some, there)))

  pub data_row_there : (number : ℕ) → IsDataOf x number → is_kind Data (written_kind (section_rows x) (row_count x) number) ≡ true
  data_row_there number its = ap (λ (o : Option Kind). is_kind Data o) (data_row number its) ∙ its.is_data

  target_passes : (count target : ℕ) (n m : List ℕ) (k l : Option Kind) → 0 < target → target < count → is_table_name n m ≡ true → is_kind Data l ≡ true → target_test count target n m k l ≡ true
  target_passes count target n m k l some there named code =
      and_from (nat_lt 0 target && nat_lt target count) (is_table_name n m && (not (is_kind Relocations k) || is_kind Data l))
      (and_from (nat_lt 0 target) (nat_lt target count) (less_test 0 target some) (less_test target count there))
      (and_from (is_table_name n m) (not (is_kind Relocations k) || is_kind Data l) named (or_right (not (is_kind Relocations k)) (is_kind Data l) code))

  table_target : (i : ℕ) (lt : i < length x.sections) → IsValidTable x (section_of x i) → is_written_target (section_rows x) (row_count x) (suc i) (section_of x i).target ≡ true
  table_target i lt its =
      let target = (section_of x i).target in
      let there = its.target.there in
      let named : is_table_name (written_name (section_rows x) (row_count x) (suc i)) (written_name (section_rows x) (row_count x) target) ≡ true =
      ap (λ (t : List ℕ). is_table_name t (written_name (section_rows x) (row_count x) target)) (kept_name_is x valid i lt)
      ∙ ap (λ (t : List ℕ). is_table_name (section_of x i).name t) (data_name target its.target) ∙ its.target_name in
      target_passes (row_count x + 1) target (written_name (section_rows x) (row_count x) (suc i)) (written_name (section_rows x) (row_count x) target)
      (written_kind (section_rows x) (row_count x) (suc i)) (written_kind (section_rows x) (row_count x) target) its.target.some (omega (arith, there, row_count_is x)) named (data_row_there target its.target)

  other_target : (i : ℕ) (y : Bool) → ((section_rows x i).type == SHT_REL) ≡ false → (not ((section_rows x i).type == SHT_REL) || y) ≡ true
  other_target i y other = or_left (not ((section_rows x i).type == SHT_REL)) y (ap not other)

  kept_target : (i : ℕ) (lt : i < length x.sections) → IsValidData (section_of x i) ⊎ IsValidTable x (section_of x i)
      → (not ((section_rows x i).type == SHT_REL) || is_written_target (section_rows x) (row_count x) (suc i) (section_rows x i).info) ≡ true
  kept_target i lt (inl its) =
      other_target i (is_written_target (section_rows x) (row_count x) (suc i) (section_rows x i).info)
      (ap (λ (w : WrittenSection). w.type == SHT_REL) (kept_row x i lt) ∙ data_type (section_of x i).type (section_of x i).name (section_of x i).flags its.kind)
  kept_target i lt (inr its) =
      or_right (not ((section_rows x i).type == SHT_REL)) (is_written_target (section_rows x) (row_count x) (suc i) (section_rows x i).info)
      (ap (λ (w : WrittenSection). is_written_target (section_rows x) (row_count x) (suc i) w.info) (kept_row x i lt) ∙ table_target i lt its)

  -- ---- all rules

  pub are_sections : AreSections (section_rows x) (row_count x)
  are_sections = record {
    names_type = last_type x;
    names_closed = ap is_closed (last_content x) ∙ name_table_closed x;
    named = λ i lt. elim (split_row x i lt) [
      | inl first ↦ kept_named x valid i first
      | inr its ↦ subst (λ (m : ℕ). is_section_name (section_rows x (row_count x - 1)).content (section_rows x m).name_offset ≡ true) its.2 (own_named x its.0 its.1)
    ];
    known = λ i lt. elim (split_row x i lt) [
      | inl first ↦ kept_some (written_kind (section_rows x) (row_count x) (suc i)) (row_is_kept x valid i first)
      | inr its ↦ subst (λ (m : ℕ). is_some (written_kind (section_rows x) (row_count x) (suc m)) ≡ true) its.2 (ap is_some (own_kind_is x its.0 its.1))
    ];
    once = λ i lt. elim (split_row x i lt) [
      | inl first ↦ kept_once i first
      | inr its ↦ subst (λ (m : ℕ). not (is_single (written_kind (section_rows x) (row_count x) (suc m)) && is_written_again (section_rows x) (row_count x) (suc m)) ≡ true) its.2 (own_once its.0 its.1)
    ];
    targets = λ i lt. elim (split_row x i lt) [
      | inl first ↦ kept_target i first (valid.sections i first).kept
      | inr its ↦ subst (λ (m : ℕ). (not ((section_rows x m).type == SHT_REL) || is_written_target (section_rows x) (row_count x) (suc m) (section_rows x m).info) ≡ true) its.2
          (other_target (length x.sections + its.0) (is_written_target (section_rows x) (row_count x) (suc (length x.sections + its.0)) (section_rows x (length x.sections + its.0)).info) (own_type x its.0 its.1))
    ];
  }
