-- A written file keeps the rules on its relocations, and so all rules, if what was written does.
use Rattle.std.proofs.Common.{◌≡◌, ℕ, zero, suc, ◌+◌, ◌%◌, ◌^◌, ◌<◌, ◌==◌, ◌&&◌, ◌||◌, true, false, Bool, not, List, ◌++◌, Option, length, inl, inr, refl, sym, ap, subst, ◌∙◌, arith}
use Rattle.std.specs.Prelude.{nat_lt}
use Rattle.std.proofs.lemmas.Bool.{and_parts, and_from, or_cases}
use Rattle.bpf_words.specs.declared.Order.{Order}
use Rattle.bpf_elf.specs.declared.kinds.Kind.{Kind}
use Rattle.bpf_elf.specs.declared.kinds.Kind.TheVariants.{Relocations}
use Rattle.bpf_elf.specs.Rules.{AllHold, each}
use Rattle.bpf_elf.specs.Numbers as number
use Rattle.bpf_elf.specs.Kinds.{SHT_NOBITS, is_kind}
use Rattle.bpf_elf.specs.Names.{string_at}
use Rattle.bpf_elf.specs.Sections.{kind}
use Rattle.bpf_elf.specs.Symbols.{symbols, symbol_count, symbol_rules, symbol_table_rules, st_shndx, is_special, is_local, is_label_name, is_code, is_label_of, is_label, is_loadable, is_kept_symbol, symbol_name, st_name, st_info, st_other}
use Rattle.bpf_elf.specs.Relocations.{relocation_count, r_symbol, is_relocation_symbol, relocation_rules, form_rules, kept_table_rules, relocation_table_rules}
use Rattle.bpf_elf.specs.ElfRules.{head_rules, all_section_rules, all_symbol_rules, IsElf}
use Rattle.bpf_elf.proofs.{RuleLemmas.both_hold, KindLemmas.relocations_type}
use Rattle.bpf_object.specs.File.{WrittenSection, file_of}
use Rattle.bpf_object.proofs.ReadBackTests.{equal_test, less_test, test_below}
use Rattle.bpf_object.proofs.ReadBackFile.{IsWritable, order_is, has_file_header, has_header, has_zero_header}
use Rattle.bpf_object.proofs.ReadBackRules.{head_holds}
use Rattle.bpf_object.proofs.ReadBackRows.{rows}
use Rattle.bpf_object.proofs.ReadBackTables.{relocation_row, length-relocation_row, HasRelocation, has_relocation, size_of_rows, relocation_here, relocation_count_is}
use Rattle.bpf_object.proofs.ReadBackKinds.{written_name, written_type, written_flags, written_kind, all_hold, next, row_type, row_name, row_flags, kind_is}
use Rattle.bpf_object.proofs.ReadBackSectionRules.{AreSections, all_sections_hold}
use Rattle.bpf_object.proofs.ReadBackSymbols.{WrittenSymbol, AreSymbols, is_written_data, is_written_loadable, has_written_section, symbols_at, count_of_symbols, symbol_is, symbol_strings_are, loadable_is, symbol_table_holds, symbols_hold}

-- ---- what has to be written

-- a relocation, by the fields of its row
pub record WrittenRelocation : Type 0 where
  pub offset : ℕ
  pub symbol : ℕ
  pub type : ℕ

abbrev pub row_of_relocation : Order → WrittenRelocation → List ℕ
row_of_relocation o r = relocation_row o r.offset r.symbol r.type

pub record RelocationFits (r : WrittenRelocation) : Type 0 where
  pub offset : r.offset < 2 ^ 64
  pub symbol : r.symbol < 2 ^ 32
  pub type : r.type < 2 ^ 32

-- a symbol is a label, whose name is in another section
abbrev pub written_symbol_name : (ℕ → WrittenSection) → ℕ → WrittenSymbol → List ℕ
written_symbol_name s names x = string_at (s names).content x.name_offset

abbrev pub is_written_label : (ℕ → WrittenSection) → ℕ → ℕ → WrittenSymbol → Bool
is_written_label s n names x =
    is_label_name x.info x.other (written_symbol_name s names x)
    && (not (is_special x.section) && is_code (written_type s x.section) (written_name s n x.section) (written_flags s x.section))

-- a canonical file has the symbol
abbrev pub is_written_kept : (ℕ → WrittenSection) → ℕ → ℕ → WrittenSymbol → Bool
is_written_kept s n names x = is_written_loadable s n x && not (is_written_label s n names x)

-- the section i is a table of relocations by the first m symbols, which are in another section
pub record AreRelocations (o : Order) (s : ℕ → WrittenSection) (n place names : ℕ) (symbol : ℕ → WrittenSymbol) (m i : ℕ) : Type 0 where
  pub count : ℕ
  pub relocation : ℕ → WrittenRelocation
  pub table : (s i).content ≡ rows (λ k. row_of_relocation o (relocation k)) count
  pub entry_size : (s i).entry_size ≡ 16
  pub link : (s i).link ≡ suc place
  pub fits : (k : ℕ) → k < count → RelocationFits (relocation k)
  pub there : (k : ℕ) → k < count → (relocation k).symbol < m
  pub kept : (k : ℕ) → k < count → is_written_kept s n names (symbol (relocation k).symbol) ≡ true

-- ---- rules

-- rules that hold if a test passes
if_hold : (x : Bool) (b : List ℕ) (i : ℕ) → is_kind Relocations (kind b i) ≡ x → (x ≡ true → AllHold (kept_table_rules b i)) → AllHold (relocation_table_rules b i)
if_hold true b i e h = rw e (h refl)
if_hold false b i e h = rw e refl

form_hold : (b : List ℕ) (i : ℕ) → (number.size b i % 16 == 0) ≡ true → (number.entry_size b i == 16) ≡ true → (number.link b i == symbols b) ≡ true → AllHold (form_rules b i)
form_hold b i whole entry link = rw (whole, entry, link) refl

relocation_hold : (b : List ℕ) (i k : ℕ) → is_relocation_symbol b (r_symbol b i k) ≡ true → AllHold (relocation_rules b i k)
relocation_hold b i k h = rw h refl

-- the type, name and flags of a section
pub code_same : (t u f g : ℕ) (m n : List ℕ) → t ≡ u → m ≡ n → f ≡ g → is_code t m f ≡ is_code u n g
code_same t u f g m n types names flags = rw (types, names, flags) refl

-- a symbol in a special section is no label
pub special_same : (x y c d : Bool) → y ≡ true → (x && (not y && c)) ≡ (x && (not y && d))
special_same x y c d special = rw special refl

module _ (b : List ℕ) (o : Order) (flags : ℕ) (s : ℕ → WrittenSection) (n : ℕ) (is : b ≡ file_of o flags s n) (w : IsWritable flags s n)
    (place names : ℕ) (symbol : ℕ → WrittenSymbol) (m : ℕ) (t : AreSymbols o s n place names symbol m) where
  -- ---- the symbols that a canonical file has

  type_there : (i : ℕ) → i < n + 1 → number.type b i ≡ written_type s i
  type_there zero lt = (has_zero_header b o flags s n is w).type
  type_there (suc i) lt = row_type b o flags s n is w i (omega (arith, lt))

  flags_there : (i : ℕ) → i < n + 1 → number.flags b i ≡ written_flags s i
  flags_there zero lt = (has_zero_header b o flags s n is w).flags
  flags_there (suc i) lt = row_flags b o flags s n is w i (omega (arith, lt))

  label_there : (x : WrittenSymbol) (named : List ℕ) → has_written_section s n x ≡ true
      → is_label_of b x.info x.other x.section named
      ≡ (is_label_name x.info x.other named && (not (is_special x.section) && is_code (written_type s x.section) (written_name s n x.section) (written_flags s x.section)))
  label_there x named h =
      elim (or_cases (is_special x.section) (nat_lt x.section (n + 1) && (is_local x.info || is_written_data s n x.section)) h) [
        | inl special ↦ special_same (is_label_name x.info x.other named) (is_special x.section) _ _ special
        | inr its ↦
            let lt = test_below x.section (n + 1) (and_parts (nat_lt x.section (n + 1)) (is_local x.info || is_written_data s n x.section) its).0 in
            ap (λ (c : Bool). is_label_name x.info x.other named && (not (is_special x.section) && c))
            (code_same _ _ _ _ _ _ (type_there x.section lt) (row_name b o flags s n is w x.section lt) (flags_there x.section lt))
      ]

  label_is : (j : ℕ) → j < m → is_label b j ≡ is_written_label s n names (symbol j)
  label_is j lt =
      let its = symbol_is b o flags s n is w place names symbol m t j lt in
      let x = symbol j in
      let named : symbol_name b j ≡ written_symbol_name s names x =
      ap (λ (t : List ℕ). string_at t (st_name b j)) (symbol_strings_are b o flags s n is w place names symbol m t) ∙ ap (λ (k : ℕ). string_at (s names).content k) its.name_is in
      ap (λ (i : ℕ). is_label_of b i (st_other b j) (st_shndx b j) (symbol_name b j)) its.info_is
      ∙ ap (λ (i : ℕ). is_label_of b x.info i (st_shndx b j) (symbol_name b j)) its.other_is
      ∙ ap (λ (i : ℕ). is_label_of b x.info x.other i (symbol_name b j)) its.shndx_is ∙ ap (λ (t : List ℕ). is_label_of b x.info x.other x.section t) named
      ∙ label_there x (written_symbol_name s names x) (t.sections j lt)

  pub kept_symbol_is : (j : ℕ) → j < m → is_written_kept s n names (symbol j) ≡ true → is_kept_symbol b j ≡ true
  kept_symbol_is j lt kept =
      let parts = and_parts (is_written_loadable s n (symbol j)) (not (is_written_label s n names (symbol j))) kept in
      and_from (is_loadable b (st_info b j) (st_shndx b j)) (not (is_label b j)) (loadable_is b o flags s n is w place names symbol m t j lt)
      (ap not (label_is j lt) ∙ parts.1)

  relocation_symbol : (j : ℕ) → j < m → is_written_kept s n names (symbol j) ≡ true → is_relocation_symbol b j ≡ true
  relocation_symbol j lt kept =
      let count = count_of_symbols b o flags s n is w place names symbol m t in
      and_from (nat_lt j (symbol_count b)) (is_kept_symbol b j) (less_test j (symbol_count b) (omega (arith, lt, count))) (kept_symbol_is j lt kept)

  -- ---- a table of relocations

  module _ (i : ℕ) (below : i < n) (its : AreRelocations o s n place names symbol m i) (bits : ((s i).type == SHT_NOBITS) ≡ false) where
    each_length : (k : ℕ) → length (row_of_relocation o (its.relocation k)) ≡ 16
    each_length k = length-relocation_row o (its.relocation k).offset (its.relocation k).symbol (its.relocation k).type

    pub count_of_relocations : relocation_count b (i + 1) ≡ its.count
    count_of_relocations = relocation_count_is b o flags s n is w i below (λ k. row_of_relocation o (its.relocation k)) its.count each_length its.table bits

    pub relocation_is : (k : ℕ) → k < its.count → HasRelocation b (i + 1) k (its.relocation k).offset (its.relocation k).symbol (its.relocation k).type
    relocation_is k lt =
        let f = its.fits k lt in
        has_relocation b o (i + 1) k (its.relocation k).offset (its.relocation k).symbol (its.relocation k).type (order_is b o flags s n is) f.offset f.symbol f.type
        (relocation_here b o flags s n is w i below (λ k. row_of_relocation o (its.relocation k)) its.count each_length its.table k lt)

    form_holds : AllHold (form_rules b (i + 1))
    form_holds =
        let size = size_of_rows b o flags s n is w i below (λ k. row_of_relocation o (its.relocation k)) 16 its.count each_length its.table bits in
        let header = has_header b o flags s n is w i below in
        let whole : number.size b (i + 1) % 16 ≡ 0 = omega (arith, size) in
        form_hold b (i + 1) (equal_test (number.size b (i + 1) % 16) 0 whole) (equal_test (number.entry_size b (i + 1)) 16 (header.entry_size ∙ its.entry_size))
        (equal_test (number.link b (i + 1)) (symbols b) (header.link ∙ its.link ∙ next place ∙ sym (symbols_at b o flags s n is w place names symbol m t)))

    relocation_holds : (k : ℕ) → k < its.count → AllHold (relocation_rules b (i + 1) k)
    relocation_holds k lt =
        relocation_hold b (i + 1) k
        (ap (λ (j : ℕ). is_relocation_symbol b j) (relocation_is k lt).symbol_is ∙ relocation_symbol (its.relocation k).symbol (its.there k lt) (its.kept k lt))

    kept_table_holds : AllHold (kept_table_rules b (i + 1))
    kept_table_holds =
        both_hold (form_rules b (i + 1)) (each (relocation_count b (i + 1)) (relocation_rules b (i + 1))) form_holds
        (all_hold (relocation_count b (i + 1)) (relocation_rules b (i + 1)) (λ k lt. relocation_holds k (omega (arith, lt, count_of_relocations))))

  table_holds : (i : ℕ) → i < n → (is_kind Relocations (written_kind s n (suc i)) ≡ true → AreRelocations o s n place names symbol m i)
      → AllHold (relocation_table_rules b (suc i))
  table_holds i below its =
      let same : is_kind Relocations (kind b (suc i)) ≡ is_kind Relocations (written_kind s n (suc i)) = ap (λ (k : Option Kind). is_kind Relocations k) (kind_is b o flags s n is w (suc i) (omega (arith, below))) in
      if_hold (is_kind Relocations (written_kind s n (suc i))) b (suc i) same
      (λ kept.
      let bits : ((s i).type == SHT_NOBITS) ≡ false = ap (λ (k : ℕ). k == SHT_NOBITS) (relocations_type (s i).type _ (s i).flags kept) in
      subst (λ (k : ℕ). AllHold (kept_table_rules b k)) (sym (next i)) (kept_table_holds i below (its kept) bits))

  tables_hold : ((i : ℕ) → i < n → is_kind Relocations (written_kind s n (suc i)) ≡ true → AreRelocations o s n place names symbol m i)
      → AllHold (each (number.count b) (relocation_table_rules b))
  tables_hold its = all_hold (number.count b) (relocation_table_rules b) row
    where
      row : (i : ℕ) → i < number.count b → AllHold (relocation_table_rules b i)
      row zero lt = refl
      row (suc i) lt = let count = (has_file_header b o flags s n is w).count in table_holds i (omega (arith, lt, count)) (its i (omega (arith, lt, count)))

  -- ---- all rules

  pub elf_holds : AreSections s n → ((i : ℕ) → i < n → is_kind Relocations (written_kind s n (suc i)) ≡ true → AreRelocations o s n place names symbol m i) → IsElf b
  elf_holds sections its =
      both_hold (head_rules b) (all_section_rules b ++ all_symbol_rules b) (head_holds b o flags s n is w)
      (both_hold (all_section_rules b) (all_symbol_rules b) (all_sections_hold b o flags s n is w sections)
      (both_hold (symbol_table_rules b) (each (symbol_count b) (symbol_rules b) ++ each (number.count b) (relocation_table_rules b)) (symbol_table_holds b o flags s n is w place names symbol m t)
      (both_hold (each (symbol_count b) (symbol_rules b)) (each (number.count b) (relocation_table_rules b)) (symbols_hold b o flags s n is w place names symbol m t) (tables_hold its))))
