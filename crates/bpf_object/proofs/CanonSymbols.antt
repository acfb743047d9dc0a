-- A canonical file keeps the rules on its symbols and relocations, and so all rules.
use Rattle.std.proofs.Common.{◌≡◌, ℕ, suc, ◌+◌, ◌-◌, ◌<◌, ◌⊎◌, ◌==◌, ◌&&◌, ◌||◌, Bool, true, false, not, List, [], ◌++◌, Option, length, replicate, if◌then◌else◌, inl, inr, refl, sym, ap, subst, ◌∙◌, arith}
use Rattle.std.specs.Prelude.{nat_lt, nat_le}
use Rattle.std.specs.List.{flat_map}
use Rattle.std.proofs.lemmas.Bool.{and_from, or_left, or_right}
use Rattle.bpf_words.specs.declared.Order.{Order, TheVariants.Little, TheVariants.Big}
use Rattle.bpf_elf.specs.declared.kinds.Kind.{Kind}
use Rattle.bpf_elf.specs.declared.kinds.Kind.TheVariants.{Relocations, Symbols}
use Rattle.bpf_elf.specs.Names.{is_closed, string_at}
use Rattle.bpf_elf.specs.Kinds.{SHT_REL, is_kind}
use Rattle.bpf_elf.specs.Symbols.{is_special, is_local, is_file_name, is_label_name, is_code}
use Rattle.bpf_elf.specs.ElfRules.{IsElf}
use Rattle.bpf_elf.proofs.KindLemmas.{relocations_type, true_false}
use Rattle.bpf_object.specs.File.{WrittenSection}
use Rattle.bpf_object.specs.Objects.{KeptRelocation, KeptSymbol, Object}
use Rattle.bpf_object.specs.Canonical.{types_names, symbol_bytes, row_bytes, symtab_number, canonical}
use Rattle.bpf_object.proofs.ReadBackTests.{less_test, most_test}
use Rattle.bpf_object.proofs.ReadBackRows.{rows, flat_map_rows}
use Rattle.bpf_object.proofs.ReadBackKinds.{written_name, written_type, written_flags, written_kind}
use Rattle.bpf_object.proofs.ReadBackSymbols.{WrittenSymbol, SymbolFits, AreSymbols, row_of, written_size, is_written_data, is_written_loadable, has_written_section, is_written_within}
use Rattle.bpf_object.proofs.ReadBackRelocations.{WrittenRelocation, AreRelocations, written_symbol_name, is_written_label, is_written_kept, code_same, special_same, elf_holds}
use Rattle.bpf_object.proofs.CanonValid.{section_of, symbol_of, kind_of_section, relocation_of, no_symbol, no_relocation, IsDataOf, IsValidData, IsValidTable, IsPlacedIn, is_label_in, ValidObject, IsSmall}
use Rattle.bpf_object.proofs.CanonNames.{new_name_offset, name_table_closed, empty_name_offset, file_name_inside, file_name_reads, symbol_name_there}
use Rattle.bpf_object.proofs.CanonRows.{section_rows, row_count, canonical_is, symtab_row, kept_row, row_count_is, symtab_is, strtab_is, symtab_kind, own_not_table}
use Rattle.bpf_object.proofs.CanonFields.{split_row, table_short, symbols_short, is_writable}
use Rattle.bpf_object.proofs.CanonSections.{not_both, own_kind_is, kept_name_is, kept_kind_is, own_found, data_row_there, are_sections}

-- ---- symbols

abbrev pub symbol_row_of : Object → KeptSymbol → WrittenSymbol
symbol_row_of x s = record {
  name_offset = new_name_offset x s.name;
  info = s.info;
  other = s.other;
  section = s.section;
  value = s.value;
  size = s.size;
}

abbrev pub symbol_at : Object → ℕ → WrittenSymbol
symbol_at x j = symbol_row_of x (symbol_of x j)

first_symbol : (x : Object) (s : KeptSymbol) → s ≡ no_symbol → row_of x.order (symbol_row_of x s) ≡ replicate 24 0
first_symbol x s is =
    ap (λ (t : KeptSymbol). row_of x.order (symbol_row_of x t)) is ∙ zeros x.order (new_name_offset x []) (empty_name_offset x)
  where
    zeros : (o : Order) (p : ℕ) → p ≡ 0 → row_of o (record { name_offset = p; info = 0; other = 0; section = 0; value = 0; size = 0 }) ≡ replicate 24 0
    zeros Little p e = rw e refl
    zeros Big p e = rw e refl

abbrev pub relocation_row_of : KeptRelocation → WrittenRelocation
relocation_row_of r = record { offset = r.offset; symbol = r.symbol; type = r.type }

module _ (x : Object) (valid : ValidObject x) (small : IsSmall x) where
  symbol_fits : (j : ℕ) → j < length x.symbols → SymbolFits (symbol_at x j)
  symbol_fits j lt =
      let its = valid.symbols j lt in
      record {
        name_offset = omega (arith, file_name_inside x (symbol_of x j).name (symbol_name_there x j lt) its.name, table_short x small);
        section = its.section;
        value = its.value;
        size = its.size;
      }

  symbol_named : (j : ℕ) → j < length x.symbols → new_name_offset x (symbol_of x j).name < length (section_rows x (symtab_row x + 1)).content
  symbol_named j lt =
      omega (arith, file_name_inside x (symbol_of x j).name (symbol_name_there x j lt) (valid.symbols j lt).name, ap (λ (w : WrittenSection). length w.content) (strtab_is x))

  -- sh_size of a section of code or data
  data_size : (number : ℕ) → IsDataOf x number → written_size (section_rows x) number ≡ (section_of x (number - 1)).size
  data_size number its =
      let some = its.some in
      let there = its.there in
      let at : suc (number - 1) ≡ number = omega (arith, some) in
      subst (λ (m : ℕ). written_size (section_rows x) m ≡ (section_of x (number - 1)).size) at (ap (λ (w : WrittenSection). w.size) (kept_row x (number - 1) (omega (arith, some, there))))

  placed_section : (s : KeptSymbol) → (is_special s.section ≡ true) ⊎ IsPlacedIn x s → has_written_section (section_rows x) (row_count x) (symbol_row_of x s) ≡ true
  placed_section s (inl special) =
      or_left (is_special s.section) (nat_lt s.section (row_count x + 1) && (is_local s.info || is_written_data (section_rows x) (row_count x) s.section)) special
  placed_section s (inr its) =
      let there = its.section.there in
      let inside = is_written_data (section_rows x) (row_count x) s.section in
      or_right (is_special s.section) (nat_lt s.section (row_count x + 1) && (is_local s.info || inside))
      (and_from (nat_lt s.section (row_count x + 1)) (is_local s.info || inside) (less_test s.section (row_count x + 1) (omega (arith, there, row_count_is x)))
      (or_right (is_local s.info) inside (data_row_there x valid s.section its.section)))

  placed_within : (s : KeptSymbol) → (is_special s.section ≡ true) ⊎ IsPlacedIn x s → is_written_within (section_rows x) (row_count x) (symbol_row_of x s) ≡ true
  placed_within s (inl special) =
      or_left (is_special s.section) (not (is_written_data (section_rows x) (row_count x) s.section) || nat_le (s.value + s.size) (written_size (section_rows x) s.section)) special
  placed_within s (inr its) =
      let within = its.within in
      let outside = not (is_written_data (section_rows x) (row_count x) s.section) in
      or_right (is_special s.section) (outside || nat_le (s.value + s.size) (written_size (section_rows x) s.section))
      (or_right outside (nat_le (s.value + s.size) (written_size (section_rows x) s.section)) (most_test (s.value + s.size) (written_size (section_rows x) s.section) (omega (arith, within, data_size s.section its.section))))

  placed_loadable : (s : KeptSymbol) → (is_special s.section ≡ true) ⊎ IsPlacedIn x s → is_file_name s.info s.section ≡ false
      → is_written_loadable (section_rows x) (row_count x) (symbol_row_of x s) ≡ true
  placed_loadable s place not_file =
      let inside = is_written_data (section_rows x) (row_count x) s.section in
      and_from (is_special s.section || inside) (not (is_file_name s.info s.section))
      (elim place [
        | inl special ↦ or_left (is_special s.section) inside special
        | inr its ↦ or_right (is_special s.section) inside (data_row_there x valid s.section its.section)
      ])
      (ap not not_file)

  pub are_symbols : AreSymbols x.order (section_rows x) (row_count x) (symtab_row x) (symtab_row x + 1) (symbol_at x) (length x.symbols)
  are_symbols =
      let count = row_count_is x in
      record {
        section = own_found x valid (length (types_names x.types)) (omega arith) Symbols (symtab_kind x);
        table = ap (λ (w : WrittenSection). w.content) (symtab_is x) ∙ flat_map_rows (symbol_bytes x.order (new_name_offset x)) x.symbols no_symbol;
        entry_size = ap (λ (w : WrittenSection). w.entry_size) (symtab_is x);
        link = ap (λ (w : WrittenSection). w.link) (symtab_is x) ∙ omega arith;
        names_below = omega (arith, count);
        names_type = ap (λ (w : WrittenSection). w.type) (strtab_is x);
        names_closed = ap (λ (w : WrittenSection). is_closed w.content) (strtab_is x) ∙ name_table_closed x;
        some = valid.some;
        first = first_symbol x (symbol_of x 0) valid.first;
        fits = symbol_fits;
        named = symbol_named;
        sections = λ j lt. placed_section (symbol_of x j) (valid.symbols j lt).place;
        within = λ j lt. placed_within (symbol_of x j) (valid.symbols j lt).place;
        loadable = λ j lt. placed_loadable (symbol_of x j) (valid.symbols j lt).place (valid.symbols j lt).not_file;
      }

  -- each is kept again
  code_is : (s : KeptSymbol) → IsPlacedIn x s
      → is_code (written_type (section_rows x) s.section) (written_name (section_rows x) (row_count x) s.section) (written_flags (section_rows x) s.section)
      ≡ (let c = section_of x (s.section - 1) in is_code c.type c.name c.flags)
  code_is s its =
      let some = its.section.some in
      let there = its.section.there in
      let i = s.section - 1 in
      let at : suc i ≡ s.section = omega (arith, some) in
      let lt : i < length x.sections = omega (arith, some, there) in
      subst
      (λ (m : ℕ). is_code (written_type (section_rows x) m) (written_name (section_rows x) (row_count x) m) (written_flags (section_rows x) m)
      ≡ (let c = section_of x i in is_code c.type c.name c.flags))
      at
      (code_same _ _ _ _ _ _ (ap (λ (w : WrittenSection). w.type) (kept_row x i lt)) (kept_name_is x valid i lt) (ap (λ (w : WrittenSection). w.flags) (kept_row x i lt)))

  placed_label : (s : KeptSymbol) → (is_special s.section ≡ true) ⊎ IsPlacedIn x s
      → (is_label_name s.info s.other s.name
      && (not (is_special s.section) && is_code (written_type (section_rows x) s.section) (written_name (section_rows x) (row_count x) s.section) (written_flags (section_rows x) s.section)))
      ≡ is_label_in x s
  placed_label s (inl special) = special_same (is_label_name s.info s.other s.name) (is_special s.section) _ _ special
  placed_label s (inr its) = ap (λ (c : Bool). is_label_name s.info s.other s.name && (not (is_special s.section) && c)) (code_is s its)

  symbol_named_back : (j : ℕ) → j < length x.symbols → written_symbol_name (section_rows x) (symtab_row x + 1) (symbol_at x j) ≡ (symbol_of x j).name
  symbol_named_back j lt =
      let s = symbol_of x j in
      ap (λ (w : WrittenSection). string_at w.content (new_name_offset x s.name)) (strtab_is x)
      ∙ file_name_reads x s.name (symbol_name_there x j lt) (valid.symbols j lt).name

  row_label : (j : ℕ) → j < length x.symbols → is_written_label (section_rows x) (row_count x) (symtab_row x + 1) (symbol_at x j) ≡ is_label_in x (symbol_of x j)
  row_label j lt =
      let s = symbol_of x j in
      ap
      (λ (t : List ℕ). is_label_name s.info s.other t
      && (not (is_special s.section) && is_code (written_type (section_rows x) s.section) (written_name (section_rows x) (row_count x) s.section) (written_flags (section_rows x) s.section)))
      (symbol_named_back j lt)
      ∙ placed_label s (valid.symbols j lt).place

  pub row_kept : (j : ℕ) → j < length x.symbols → is_written_kept (section_rows x) (row_count x) (symtab_row x + 1) (symbol_at x j) ≡ true
  row_kept j lt =
      let its = valid.symbols j lt in
      and_from (is_written_loadable (section_rows x) (row_count x) (symbol_at x j)) (not (is_written_label (section_rows x) (row_count x) (symtab_row x + 1) (symbol_at x j)))
      (placed_loadable (symbol_of x j) its.place its.not_file)
      (ap not (row_label j lt ∙ its.not_label))

  -- ---- relocations

  pub table_link : (i : ℕ) → i < length x.sections → IsValidTable x (section_of x i) → (section_rows x i).link ≡ suc (symtab_row x)
  table_link i lt its =
      ap (λ (w : WrittenSection). w.link) (kept_row x i lt)
      ∙ ap (λ (t : ℕ). if t == SHT_REL then symtab_number x else 0) (relocations_type (section_of x i).type (section_of x i).name (section_of x i).flags its.kind)
      ∙ omega arith

  pub table_rows_are : (i : ℕ) → i < length x.sections → IsValidTable x (section_of x i)
      → (section_rows x i).content ≡ rows (λ k. row_bytes x.order (relocation_of (section_of x i) k)) (length (section_of x i).relocations)
  table_rows_are i lt its =
      ap (λ (w : WrittenSection). w.content) (kept_row x i lt)
      ∙ ap (λ (c : List ℕ). c ++ flat_map (row_bytes x.order) (section_of x i).relocations) its.content
      ∙ flat_map_rows (row_bytes x.order) (section_of x i).relocations no_relocation

  unfoldable pub are_relocations : (i : ℕ) → i < length x.sections → IsValidTable x (section_of x i)
      → AreRelocations x.order (section_rows x) (row_count x) (symtab_row x) (symtab_row x + 1) (symbol_at x) (length x.symbols) i
  are_relocations i lt its = record {
    count = length (section_of x i).relocations;
    relocation = λ k. relocation_row_of (relocation_of (section_of x i) k);
    table = table_rows_are i lt its;
    entry_size = ap (λ (w : WrittenSection). w.entry_size) (kept_row x i lt) ∙ its.entry_size;
    link = table_link i lt its;
    fits = λ k below. let row = its.rows k below in let symbol = row.symbol in record { offset = row.offset; symbol = omega (arith, symbol, symbols_short x small); type = row.type };
    there = λ k below. (its.rows k below).symbol;
    kept = λ k below. row_kept (relocation_of (section_of x i) k).symbol (its.rows k below).symbol;
  }

  kept_relocations : (i : ℕ) → i < length x.sections → is_kind Relocations (written_kind (section_rows x) (row_count x) (suc i)) ≡ true → IsValidData (section_of x i) ⊎ IsValidTable x (section_of x i)
      → AreRelocations x.order (section_rows x) (row_count x) (symtab_row x) (symtab_row x + 1) (symbol_at x) (length x.symbols) i
  kept_relocations i lt is (inl its) =
      absurd (not_both (kind_of_section (section_of x i)) its.kind (ap (λ (o : Option Kind). is_kind Relocations o) (sym (kept_kind_is x valid i lt)) ∙ is))
  kept_relocations i lt is (inr its) = are_relocations i lt its

  tables_are : (i : ℕ) → i < row_count x → is_kind Relocations (written_kind (section_rows x) (row_count x) (suc i)) ≡ true
      → AreRelocations x.order (section_rows x) (row_count x) (symtab_row x) (symtab_row x + 1) (symbol_at x) (length x.symbols) i
  tables_are i lt is = elim (split_row x i lt) [
    | inl first ↦ kept_relocations i first is (valid.sections i first).kept
    | inr own ↦
        let at : is_kind Relocations (written_kind (section_rows x) (row_count x) (suc (length x.sections + own.0))) ≡ true =
        subst (λ (m : ℕ). is_kind Relocations (written_kind (section_rows x) (row_count x) (suc m)) ≡ true) (sym own.2) is in
        let no : is_kind Relocations (written_kind (section_rows x) (row_count x) (suc (length x.sections + own.0))) ≡ false =
        ap (λ (o : Option Kind). is_kind Relocations o) (own_kind_is x own.0 own.1) ∙ own_not_table x own.0 in
        absurd (true_false (sym at ∙ no))
  ]

  -- the canonical file keeps all rules
  pub canonical_is_elf : IsElf (canonical x)
  canonical_is_elf =
      elf_holds (canonical x) x.order x.flags (section_rows x) (row_count x) (canonical_is x) (is_writable x small valid) (symtab_row x) (symtab_row x + 1) (symbol_at x)
      (length x.symbols) are_symbols (are_sections x valid) tables_are
