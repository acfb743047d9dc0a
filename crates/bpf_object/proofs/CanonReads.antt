-- The canonical file of an object denotes this object.
use Rattle.std.proofs.Common.{◌≡◌, ℕ, zero, suc, ◌+◌, ◌-◌, ◌<◌, ◌≤◌, ◌⊎◌, ◌==◌, ◌||◌, Bool, true, false, List, [], ◌++◌, Option, Some, length, get_or, if◌then◌else◌, inl, inr, refl, sym, ap, subst, ◌∙◌, append-nil, arith}
use Rattle.std.specs.List.{flat_map}
use Rattle.std.proofs.lemmas.Bool.{cases_lt, cases_Bool, or_left, or_right}
use Rattle.bpf_elf.specs.declared.kinds.Kind.{Kind}
use Rattle.bpf_elf.specs.declared.kinds.Kind.TheVariants.{Data, Relocations}
use Rattle.bpf_elf.specs.Numbers as number
use Rattle.bpf_elf.specs.Numbers.{order_of, flags_of}
use Rattle.bpf_elf.specs.Names.{string_at}
use Rattle.bpf_elf.specs.Kinds.{SHT_NOBITS, is_kind}
use Rattle.bpf_elf.specs.Sections.{content, kind, name}
use Rattle.bpf_elf.specs.Symbols.{symbol_count, symbol_strings, symbol_name, st_name, is_special, is_kept_symbol}
use Rattle.bpf_elf.specs.Relocations.{relocation_count}
use Rattle.bpf_elf.proofs.KindLemmas.{true_false}
use Rattle.bpf_object.specs.File.{WrittenSection, content_offset}
use Rattle.bpf_object.specs.Objects.{KeptRelocation, KeptSection, KeptSymbol, Object}
use Rattle.bpf_object.specs.Canonical.{row_bytes, canonical}
use Rattle.bpf_object.specs.Kept.{number_of, is_table, is_kept_section, section_number, symbol_section, symbol_number, kept_relocation, table_rows, kept_section, kept_symbol, kept_sections, kept_symbols}
use Rattle.bpf_object.specs.Denotes.{object_of}
use Rattle.bpf_object.proofs.ReadBackFile.{order_is, has_file_header, HasHeader, has_header}
use Rattle.bpf_object.proofs.ReadBackSections.{content_is}
use Rattle.bpf_object.proofs.ReadBackKinds.{written_kind, next, row_name, kind_is}
use Rattle.bpf_object.proofs.ReadBackTables.{HasSymbol, HasRelocation}
use Rattle.bpf_object.proofs.ReadBackSymbols.{count_of_symbols, symbol_is, symbol_strings_are}
use Rattle.bpf_object.proofs.ReadBackRelocations.{kept_symbol_is, count_of_relocations, relocation_is}
use Rattle.bpf_object.proofs.CanonValid.{section_of, symbol_of, relocation_of, nothing, no_symbol, no_relocation, kind_of_section, IsDataOf, IsValidData, IsValidTable, IsPlacedIn, ValidObject, IsSmall}
use Rattle.bpf_object.proofs.CanonNames.{name_table, new_name_offset, file_name_reads, symbol_name_there}
use Rattle.bpf_object.proofs.CanonRows.{section_rows, row_count, canonical_is, symtab_row, kept_row, own_kind, own_count, row_count_is, strtab_is, own_not_data, own_not_table}
use Rattle.bpf_object.proofs.CanonFields.{is_writable, table_bits}
use Rattle.bpf_object.proofs.CanonSections.{not_table, IsKept, is_data, is_table as kept_table, own_kind_is, kept_name_is, kept_kind_is, row_is_kept}
use Rattle.bpf_object.proofs.CanonSymbols.{symbol_at, are_symbols, are_relocations, row_kept}
use Rattle.bpf_object.proofs.CanonLists.{listed_is, number_all, number_after, number_stays}

-- ---- equal parts

same_section : (s t : KeptSection) → s.name ≡ t.name → s.type ≡ t.type → s.flags ≡ t.flags → s.address ≡ t.address → s.size ≡ t.size → s.alignment ≡ t.alignment
    → s.entry_size ≡ t.entry_size → s.content ≡ t.content → s.target ≡ t.target → s.relocations ≡ t.relocations → s ≡ t
same_section s t a b c d e f g h i j = λ k. record {
  name = a k;
  type = b k;
  flags = c k;
  address = d k;
  size = e k;
  alignment = f k;
  entry_size = g k;
  content = h k;
  target = i k;
  relocations = j k;
}

same_symbol : (s t : KeptSymbol) → s.name ≡ t.name → s.info ≡ t.info → s.other ≡ t.other → s.section ≡ t.section → s.value ≡ t.value → s.size ≡ t.size → s ≡ t
same_symbol s t a b c d e f = λ k. record { name = a k; info = b k; other = c k; section = d k; value = e k; size = f k }

same_relocation : (r q : KeptRelocation) → r.offset ≡ q.offset → r.symbol ≡ q.symbol → r.type ≡ q.type → r ≡ q
same_relocation r q a b c = λ k. record { offset = a k; symbol = b k; type = c k }

same_object : (x y : Object) → x.order ≡ y.order → x.flags ≡ y.flags → x.sections ≡ y.sections → x.symbols ≡ y.symbols → x.types ≡ y.types → x ≡ y
same_object x y a b c d e = λ k. record { order = a k; flags = b k; sections = c k; symbols = d k; types = e k }

kept_passes : (o : Option Kind) → IsKept o → (is_kind Data o || is_kind Relocations o) ≡ true
kept_passes o (is_data is) = or_left (is_kind Data o) (is_kind Relocations o) is
kept_passes o (kept_table is) = or_right (is_kind Data o) (is_kind Relocations o) is

neither_passes : (y z : Bool) → y ≡ false → z ≡ false → (y || z) ≡ false
neither_passes y z a b = rw (a, b) refl

module _ (x : Object) (valid : ValidObject x) (small : IsSmall x) where
  -- ---- the header

  pub order_back : order_of (canonical x) ≡ x.order
  order_back = order_is (canonical x) x.order x.flags (section_rows x) (row_count x) (canonical_is x)

  pub flags_back : flags_of (canonical x) ≡ x.flags
  flags_back = (has_file_header (canonical x) x.order x.flags (section_rows x) (row_count x) (canonical_is x) (is_writable x small valid)).flags

  pub count_back : number.count (canonical x) ≡ row_count x + 1
  count_back = (has_file_header (canonical x) x.order x.flags (section_rows x) (row_count x) (canonical_is x) (is_writable x small valid)).count

  -- ---- the numbers of sections

  pub kind_back : (i : ℕ) → i < row_count x + 1 → kind (canonical x) i ≡ written_kind (section_rows x) (row_count x) i
  kind_back i lt = kind_is (canonical x) x.order x.flags (section_rows x) (row_count x) (canonical_is x) (is_writable x small valid) i lt

  kept_back : (i : ℕ) → i < length x.sections → is_kept_section (canonical x) (suc i) ≡ true
  kept_back i lt =
      ap (λ (o : Option Kind). is_kind Data o || is_kind Relocations o) (kind_back (suc i) (omega (arith, lt, row_count_is x)))
      ∙ kept_passes (written_kind (section_rows x) (row_count x) (suc i)) (row_is_kept x valid i lt)

  own_back : (k : ℕ) → k < own_count x → is_kept_section (canonical x) (suc (length x.sections) + k) ≡ false
  own_back k lt =
      let at : suc (length x.sections) + k ≡ suc (length x.sections + k) = omega arith in
      ap (λ (i : ℕ). is_kept_section (canonical x) i) at
      ∙ ap (λ (o : Option Kind). is_kind Data o || is_kind Relocations o) (kind_back (suc (length x.sections + k)) (omega (arith, lt, row_count_is x)) ∙ own_kind_is x k lt)
      ∙ neither_passes (is_kind Data (Some (own_kind x k))) (is_kind Relocations (Some (own_kind x k))) (own_not_data x k) (own_not_table x k)

  -- the sections keep their numbers
  pub number_back : (i : ℕ) → i ≤ length x.sections → number_of (is_kept_section (canonical x)) (suc i) ≡ i
  number_back i le = number_after (is_kept_section (canonical x)) i refl (λ k lt. kept_back k (omega (arith, lt, le)))

  data_number : (number : ℕ) → IsDataOf x number → section_number (canonical x) number ≡ number
  data_number number its =
      let some = its.some in
      let there = its.there in
      let at : number ≡ suc (number - 1) = omega (arith, some) in
      ap (λ (i : ℕ). section_number (canonical x) i) at
      ∙ ap (λ (i : ℕ). 1 + i) (number_back (number - 1) (omega (arith, some, there))) ∙ omega (arith, some)

  all_numbers : number_of (is_kept_section (canonical x)) (number.count (canonical x)) ≡ length x.sections
  all_numbers =
      let at : number.count (canonical x) ≡ suc (length x.sections) + own_count x = omega (arith, count_back, row_count_is x) in
      ap (number_of (is_kept_section (canonical x))) at
      ∙ number_stays (is_kept_section (canonical x)) (suc (length x.sections)) (own_count x) own_back ∙ number_back (length x.sections) (omega arith)

  -- ---- the numbers of symbols

  symbol_count_back : symbol_count (canonical x) ≡ length x.symbols
  symbol_count_back =
      count_of_symbols (canonical x) x.order x.flags (section_rows x) (row_count x) (canonical_is x) (is_writable x small valid) (symtab_row x) (symtab_row x + 1) (symbol_at x)
      (length x.symbols) (are_symbols x valid small)

  symbol_kept_back : (j : ℕ) → j < length x.symbols → is_kept_symbol (canonical x) j ≡ true
  symbol_kept_back j lt =
      kept_symbol_is (canonical x) x.order x.flags (section_rows x) (row_count x) (canonical_is x) (is_writable x small valid) (symtab_row x) (symtab_row x + 1) (symbol_at x)
      (length x.symbols) (are_symbols x valid small) j lt (row_kept x valid small j lt)

  -- the symbols keep theirs
  symbol_number_back : (j : ℕ) → j ≤ length x.symbols → symbol_number (canonical x) j ≡ j
  symbol_number_back j le = number_all (is_kept_symbol (canonical x)) j (λ k lt. symbol_kept_back k (omega (arith, lt, le)))

  -- ---- symbols

  symbol_fields : (j : ℕ) → j < length x.symbols → (let s = symbol_of x j in HasSymbol (canonical x) j (new_name_offset x s.name) s.info s.other s.section s.value s.size)
  symbol_fields j lt =
      symbol_is (canonical x) x.order x.flags (section_rows x) (row_count x) (canonical_is x) (is_writable x small valid) (symtab_row x) (symtab_row x + 1) (symbol_at x)
      (length x.symbols) (are_symbols x valid small) j lt

  strings_back : symbol_strings (canonical x) ≡ name_table x
  strings_back =
      symbol_strings_are (canonical x) x.order x.flags (section_rows x) (row_count x) (canonical_is x) (is_writable x small valid) (symtab_row x) (symtab_row x + 1) (symbol_at x)
      (length x.symbols) (are_symbols x valid small) ∙ ap (λ (w : WrittenSection). w.content) (strtab_is x)

  symbol_name_back : (j : ℕ) → j < length x.symbols → symbol_name (canonical x) j ≡ (symbol_of x j).name
  symbol_name_back j lt =
      ap (λ (t : List ℕ). string_at t (st_name (canonical x) j)) strings_back ∙ ap (λ (k : ℕ). string_at (name_table x) k) (symbol_fields j lt).name_is
      ∙ file_name_reads x (symbol_of x j).name (symbol_name_there x j lt) (valid.symbols j lt).name

  section_back : (section : ℕ) → (is_special section ≡ true) ⊎ IsDataOf x section → symbol_section (canonical x) section ≡ section
  section_back section (inl special) = ap (λ (y : Bool). if y then section else section_number (canonical x) section) special
  section_back section (inr its) = elim (cases_Bool (is_special section)) [
    | inl special ↦ ap (λ (y : Bool). if y then section else section_number (canonical x) section) special
    | inr other ↦ ap (λ (y : Bool). if y then section else section_number (canonical x) section) other ∙ data_number section its
  ]

  offset_of_symbol : (s : KeptSymbol) → (is_special s.section ≡ true) ⊎ IsPlacedIn x s → (is_special s.section ≡ true) ⊎ IsDataOf x s.section
  offset_of_symbol s (inl special) = inl special
  offset_of_symbol s (inr its) = inr its.section

  symbol_back : (j : ℕ) → j < length x.symbols → kept_symbol (canonical x) j ≡ symbol_of x j
  symbol_back j lt =
      let its = symbol_fields j lt in
      same_symbol (kept_symbol (canonical x) j) (symbol_of x j) (symbol_name_back j lt) its.info_is its.other_is
      (ap (λ (i : ℕ). symbol_section (canonical x) i) its.shndx_is ∙ section_back (symbol_of x j).section (offset_of_symbol (symbol_of x j) (valid.symbols j lt).place))
      its.value_is its.size_is

  pub symbols_back : kept_symbols (canonical x) ≡ x.symbols
  symbols_back =
      listed_is (is_kept_symbol (canonical x)) (kept_symbol (canonical x)) (symbol_count (canonical x)) x.symbols no_symbol
      (ap (symbol_number (canonical x)) symbol_count_back ∙ symbol_number_back (length x.symbols) (omega arith))
      (λ j lt is.
      let below : j < length x.symbols = omega (arith, lt, symbol_count_back) in
      symbol_back j below ∙ ap (λ (k : ℕ). symbol_of x k) (sym (symbol_number_back j (omega (arith, below)))))

  -- ---- tables of relocations

  module _ (i : ℕ) (lt : i < length x.sections) (its : IsValidTable x (section_of x i)) where
    below : i < row_count x
    below = omega (arith, lt, row_count_is x)

    bits : ((section_rows x i).type == SHT_NOBITS) ≡ false
    bits = ap (λ (w : WrittenSection). w.type == SHT_NOBITS) (kept_row x i lt) ∙ table_bits x (section_of x i) its

    relocation_count_back : relocation_count (canonical x) (i + 1) ≡ length (section_of x i).relocations
    unfolding are_relocations
    relocation_count_back =
        count_of_relocations (canonical x) x.order x.flags (section_rows x) (row_count x) (canonical_is x) (is_writable x small valid) (symtab_row x) (symtab_row x + 1) (symbol_at x)
        (length x.symbols) (are_symbols x valid small) i below (are_relocations x valid small i lt its) bits

    relocation_back : (k : ℕ) → k < length (section_of x i).relocations → kept_relocation (canonical x) (i + 1) k ≡ relocation_of (section_of x i) k
    unfolding are_relocations
    relocation_back k there =
        let row = relocation_of (section_of x i) k in
        let fields : HasRelocation (canonical x) (i + 1) k row.offset row.symbol row.type =
        relocation_is (canonical x) x.order x.flags (section_rows x) (row_count x) (canonical_is x) (is_writable x small valid) (symtab_row x) (symtab_row x + 1) (symbol_at x)
        (length x.symbols) (are_symbols x valid small) i below (are_relocations x valid small i lt its) bits k there in
        let symbol = (its.rows k there).symbol in
        same_relocation (kept_relocation (canonical x) (i + 1) k) row fields.offset_is
        (ap (λ (j : ℕ). symbol_number (canonical x) j) fields.symbol_is ∙ symbol_number_back row.symbol (omega (arith, symbol))) fields.type_is

    rows_back : table_rows (canonical x) (i + 1) ≡ (section_of x i).relocations
    rows_back =
        let number = λ (k : ℕ). number_all (λ j. true) k (λ j below. refl) in
        listed_is (λ k. true) (kept_relocation (canonical x) (i + 1)) (relocation_count (canonical x) (i + 1)) (section_of x i).relocations no_relocation
        (number (relocation_count (canonical x) (i + 1)) ∙ relocation_count_back)
        (λ k there is.
        relocation_back k (omega (arith, there, relocation_count_back)) ∙ ap (λ (m : ℕ). relocation_of (section_of x i) m) (sym (number k)))

  -- ---- sections

  header_back : (i : ℕ) → i < length x.sections → HasHeader (canonical x) (i + 1) (section_rows x i) (content_offset (section_rows x) i)
  header_back i lt =
      has_header (canonical x) x.order x.flags (section_rows x) (row_count x) (canonical_is x) (is_writable x small valid) i (omega (arith, lt, row_count_is x))

  name_back : (i : ℕ) → i < length x.sections → name (canonical x) (i + 1) ≡ (section_of x i).name
  name_back i lt =
      ap (λ (k : ℕ). name (canonical x) k) (sym (next i))
      ∙ row_name (canonical x) x.order x.flags (section_rows x) (row_count x) (canonical_is x) (is_writable x small valid) (suc i) (omega (arith, lt, row_count_is x))
      ∙ kept_name_is x valid i lt

  section_kind_back : (i : ℕ) → i < length x.sections → kind (canonical x) (i + 1) ≡ kind_of_section (section_of x i)
  section_kind_back i lt =
      ap (λ (k : ℕ). kind (canonical x) k) (sym (next i)) ∙ kind_back (suc i) (omega (arith, lt, row_count_is x)) ∙ kept_kind_is x valid i lt

  content_back : (i : ℕ) → i < length x.sections → content (canonical x) (i + 1) ≡ (section_of x i).content ++ flat_map (row_bytes x.order) (section_of x i).relocations
  content_back i lt =
      content_is (canonical x) x.order x.flags (section_rows x) (row_count x) (canonical_is x) (is_writable x small valid) i (omega (arith, lt, row_count_is x))
      ∙ ap (λ (w : WrittenSection). w.content) (kept_row x i lt)

  -- what depends on whether it is a table
  pub record IsRest (i : ℕ) (s : KeptSection) : Type 0 where
    content_is : (if is_table (canonical x) i then [] else content (canonical x) i) ≡ s.content
    target_is : (if is_table (canonical x) i then section_number (canonical x) (number.info (canonical x) i) else 0) ≡ s.target
    rows_are : (if is_table (canonical x) i then table_rows (canonical x) i else []) ≡ s.relocations

  rest_of_data : (i : ℕ) → i < length x.sections → IsValidData (section_of x i) → IsRest (i + 1) (section_of x i)
  rest_of_data i lt its =
      let other : is_table (canonical x) (i + 1) ≡ false = ap (λ (o : Option Kind). is_kind Relocations o) (section_kind_back i lt) ∙ not_table (kind_of_section (section_of x i)) its.kind in
      record {
        content_is = ap (λ (y : Bool). if y then [] else content (canonical x) (i + 1)) other ∙ content_back i lt
            ∙ ap (λ (rs : List KeptRelocation). (section_of x i).content ++ flat_map (row_bytes x.order) rs) its.relocations ∙ append-nil (section_of x i).content;
        target_is = ap (λ (y : Bool). if y then section_number (canonical x) (number.info (canonical x) (i + 1)) else 0) other ∙ sym its.target;
        rows_are = ap (λ (y : Bool). if y then table_rows (canonical x) (i + 1) else []) other ∙ sym its.relocations;
      }

  rest_of_table : (i : ℕ) → i < length x.sections → IsValidTable x (section_of x i) → IsRest (i + 1) (section_of x i)
  rest_of_table i lt its =
      let here : is_table (canonical x) (i + 1) ≡ true = ap (λ (o : Option Kind). is_kind Relocations o) (section_kind_back i lt) ∙ its.kind in
      record {
        content_is = ap (λ (y : Bool). if y then [] else content (canonical x) (i + 1)) here ∙ sym its.content;
        target_is = ap (λ (y : Bool). if y then section_number (canonical x) (number.info (canonical x) (i + 1)) else 0) here
            ∙ ap (λ (k : ℕ). section_number (canonical x) k) ((header_back i lt).info ∙ ap (λ (w : WrittenSection). w.info) (kept_row x i lt)) ∙ data_number (section_of x i).target its.target;
        rows_are = ap (λ (y : Bool). if y then table_rows (canonical x) (i + 1) else []) here ∙ rows_back i lt its;
      }

  rest_back : (i : ℕ) → i < length x.sections → IsValidData (section_of x i) ⊎ IsValidTable x (section_of x i) → IsRest (i + 1) (section_of x i)
  rest_back i lt (inl its) = rest_of_data i lt its
  rest_back i lt (inr its) = rest_of_table i lt its

  section_is_back : (i : ℕ) → i < length x.sections → kept_section (canonical x) (suc i) ≡ section_of x i
  section_is_back i lt =
      let h = header_back i lt in
      let row = kept_row x i lt in
      let rest = rest_back i lt (valid.sections i lt).kept in
      ap (λ (k : ℕ). kept_section (canonical x) k) (next i)
      ∙ same_section (kept_section (canonical x) (i + 1)) (section_of x i) (name_back i lt) (h.type ∙ ap (λ (w : WrittenSection). w.type) row)
      (h.flags ∙ ap (λ (w : WrittenSection). w.flags) row) (h.address ∙ ap (λ (w : WrittenSection). w.address) row) (h.size ∙ ap (λ (w : WrittenSection). w.size) row)
      (h.alignment ∙ ap (λ (w : WrittenSection). w.alignment) row) (h.entry_size ∙ ap (λ (w : WrittenSection). w.entry_size) row) rest.content_is rest.target_is rest.rows_are

  -- a section that is kept is one of the first ones
  kept_first : (i : ℕ) → i < number.count (canonical x) → is_kept_section (canonical x) i ≡ true → kept_section (canonical x) i ≡ get_or x.sections (number_of (is_kept_section (canonical x)) i) nothing
  kept_first zero lt is = absurd (true_false (sym is))
  kept_first (suc i) lt is = elim (cases_lt i (length x.sections)) [
    | inl first ↦ section_is_back i first ∙ ap (λ (k : ℕ). section_of x k) (sym (number_back i (omega (arith, first))))
    | inr from ↦
        let q = i - length x.sections in
        let at : suc (length x.sections) + q ≡ suc i = omega (arith, from) in
        let no : is_kept_section (canonical x) (suc i) ≡ false =
        subst (λ (k : ℕ). is_kept_section (canonical x) k ≡ false) at (own_back q (omega (arith, lt, from, count_back, row_count_is x))) in
        absurd (true_false (sym is ∙ no))
  ]

  pub sections_back : kept_sections (canonical x) ≡ x.sections
  sections_back =
      listed_is (is_kept_section (canonical x)) (kept_section (canonical x)) (number.count (canonical x)) x.sections nothing all_numbers kept_first

  -- the object of the file
  pub object_back : object_of (canonical x) x.types ≡ x
  object_back = same_object (object_of (canonical x) x.types) x order_back flags_back sections_back symbols_back refl
