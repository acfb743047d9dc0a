-- A written file keeps the rules on its symbols, if what was written does.
use Rattle.std.proofs.Common.{◌≡◌, ℕ, zero, suc, ◌+◌, ◌*◌, ◌%◌, ◌^◌, ◌<◌, ◌==◌, ◌&&◌, ◌||◌, true, false, Bool, not, List, Option, length, replicate, inl, inr, refl, ap, ◌∙◌, arith}
use Rattle.std.specs.Prelude.{nat_lt, nat_le}
use Rattle.std.proofs.lemmas.Bool.{and_parts, and_from, or_cases, or_left, or_right}
use Rattle.bpf_words.specs.declared.Order.{Order}
use Rattle.bpf_elf.specs.declared.kinds.Kind.{Kind}
use Rattle.bpf_elf.specs.declared.kinds.Kind.TheVariants.{Data, Symbols}
use Rattle.bpf_elf.specs.Rules.{AllHold, each}
use Rattle.bpf_elf.specs.Numbers as number
use Rattle.bpf_elf.specs.Names.{is_closed}
use Rattle.bpf_elf.specs.Kinds.{SHT_STRTAB, SHT_NOBITS, is_kind}
use Rattle.bpf_elf.specs.Sections.{content, is_string_table, is_zero_at}
use Rattle.bpf_elf.specs.Symbols.{symbols, symbol_count, symbol_offset, symbol_strings, symbol_name, st_name, st_info, st_other, st_shndx, st_value, st_size, is_special, is_local, is_data, is_file_name, is_loadable, is_unread, is_droppable, has_section, is_within, symbol_table_rules, symbol_rules}
use Rattle.bpf_elf.proofs.{RuleLemmas.first_of_there, KindLemmas.symbols_type}
use Rattle.bpf_object.specs.File.{WrittenSection, file_of}
use Rattle.bpf_object.proofs.ReadBackTests.{equal_test, most_test, less_test, test_below}
use Rattle.bpf_object.proofs.ReadBackFile.{IsWritable, order_is, has_file_header, has_header, has_zero_header}
use Rattle.bpf_object.proofs.ReadBackWords.{HasBytes, has_at, has_same}
use Rattle.bpf_object.proofs.ReadBackSections.{content_is}
use Rattle.bpf_object.proofs.ReadBackRules.{string_table_is}
use Rattle.bpf_object.proofs.ReadBackRows.{rows, zeros_at}
use Rattle.bpf_object.proofs.ReadBackTables.{symbol_row, length-symbol_row, HasSymbol, has_symbol, size_of_rows, symbol_here, symbol_count_is}
use Rattle.bpf_object.proofs.ReadBackKinds.{written_kind, written_section, all_hold, next, kind_is, symbols_are}

-- ---- what has to be written

-- a symbol, by the fields of its row
pub record WrittenSymbol : Type 0 where
  pub name_offset : ℕ
  pub info : ℕ
  pub other : ℕ
  pub section : ℕ
  pub value : ℕ
  pub size : ℕ

abbrev pub row_of : Order → WrittenSymbol → List ℕ
row_of o x = symbol_row o x.name_offset x.info x.other x.section x.value x.size

-- they are in their ranges
pub record SymbolFits (x : WrittenSymbol) : Type 0 where
  pub name_offset : x.name_offset < 2 ^ 32
  pub section : x.section < 2 ^ 16
  pub value : x.value < 2 ^ 64
  pub size : x.size < 2 ^ 64

-- sh_size of a row of the table of section headers
abbrev pub written_size : (ℕ → WrittenSection) → ℕ → ℕ
written_size s zero = 0
written_size s (suc i) = (s i).size

-- what has_section and is_within test
abbrev section_test : ℕ → Bool → ℕ → ℕ → Bool
section_test count in_data info section = is_special section || (nat_lt section count && (is_local info || in_data))

abbrev within_test : Bool → ℕ → ℕ → ℕ → ℕ → Bool
within_test in_data size section value size_of = is_special section || (not in_data || nat_le (value + size_of) size)

abbrev pub is_written_data : (ℕ → WrittenSection) → ℕ → ℕ → Bool
is_written_data s n section = is_kind Data (written_kind s n section)

abbrev pub has_written_section : (ℕ → WrittenSection) → ℕ → WrittenSymbol → Bool
has_written_section s n x = section_test (n + 1) (is_written_data s n x.section) x.info x.section

abbrev pub is_written_within : (ℕ → WrittenSection) → ℕ → WrittenSymbol → Bool
is_written_within s n x = within_test (is_written_data s n x.section) (written_size s x.section) x.section x.value x.size

abbrev pub is_written_loadable : (ℕ → WrittenSection) → ℕ → WrittenSymbol → Bool
is_written_loadable s n x = (is_special x.section || is_written_data s n x.section) && not (is_file_name x.info x.section)

-- the section at an offset has m symbols, of which the first one is zero, and another section their names
pub record AreSymbols (o : Order) (s : ℕ → WrittenSection) (n place names : ℕ) (symbol : ℕ → WrittenSymbol) (m : ℕ) : Type 0 where
  pub section : written_section s n Symbols (n + 1) ≡ suc place
  pub table : (s place).content ≡ rows (λ j. row_of o (symbol j)) m
  pub entry_size : (s place).entry_size ≡ 24
  pub link : (s place).link ≡ suc names
  pub names_below : names < n
  pub names_type : (s names).type ≡ SHT_STRTAB
  pub names_closed : is_closed (s names).content ≡ true
  pub some : 0 < m
  pub first : row_of o (symbol 0) ≡ replicate 24 0
  pub fits : (j : ℕ) → j < m → SymbolFits (symbol j)
  pub named : (j : ℕ) → j < m → (symbol j).name_offset < length (s names).content
  pub sections : (j : ℕ) → j < m → has_written_section s n (symbol j) ≡ true
  pub within : (j : ℕ) → j < m → is_written_within s n (symbol j) ≡ true
  pub loadable : (j : ℕ) → j < m → is_written_loadable s n (symbol j) ≡ true

-- ---- tests

table_hold : (b : List ℕ) → nat_lt 0 (symbols b) ≡ true → (nat_le 24 (number.size b (symbols b)) && number.size b (symbols b) % 24 == 0) ≡ true
    → (number.entry_size b (symbols b) == 24) ≡ true → (nat_lt (number.link b (symbols b)) (number.count b) && is_string_table b (number.link b (symbols b))) ≡ true
    → is_zero_at b (number.offset b (symbols b)) 24 ≡ true → AllHold (symbol_table_rules b)
table_hold b there whole entry names first = rw (there, whole, entry, names, first) refl

symbol_hold : (b : List ℕ) (j : ℕ) → nat_lt (st_name b j) (length (symbol_strings b)) ≡ true → has_section b (st_info b j) (st_shndx b j) ≡ true
    → is_within b (st_shndx b j) (st_value b j) (st_size b j) ≡ true → is_droppable b j ≡ true → AllHold (symbol_rules b j)
symbol_hold b j named section within droppable = rw (named, section, within, droppable) refl

-- a test of a section that is special, or that is one of n + 1
loadable_same : (b : List ℕ) (s : ℕ → WrittenSection) (n : ℕ) (x : WrittenSymbol) → is_special x.section ≡ true → is_loadable b x.info x.section ≡ is_written_loadable s n x
loadable_same b s n x special = rw special refl

module _ (b : List ℕ) (o : Order) (flags : ℕ) (s : ℕ → WrittenSection) (n : ℕ) (is : b ≡ file_of o flags s n) (w : IsWritable flags s n)
    (place names : ℕ) (symbol : ℕ → WrittenSymbol) (m : ℕ) (t : AreSymbols o s n place names symbol m) where
  -- ---- the section with the symbols

  found : (suc place < n + 1) × (is_kind Symbols (written_kind s n (suc place)) ≡ true)
  found = first_of_there (n + 1) (suc place) (λ i. is_kind Symbols (written_kind s n i)) t.section (omega arith)

  below : place < n
  below = let lt = found.0 in omega (arith, lt)

  bits : ((s place).type == SHT_NOBITS) ≡ false
  bits = ap (λ (k : ℕ). k == SHT_NOBITS) (symbols_type (s place).type _ (s place).flags found.1)

  pub symbols_at : symbols b ≡ place + 1
  symbols_at = symbols_are b o flags s n is w ∙ t.section ∙ next place

  row_length : (j : ℕ) → length (row_of o (symbol j)) ≡ 24
  row_length j = length-symbol_row o (symbol j).name_offset (symbol j).info (symbol j).other (symbol j).section (symbol j).value (symbol j).size

  pub count_of_symbols : symbol_count b ≡ m
  count_of_symbols = symbol_count_is b o flags s n is w place below (λ j. row_of o (symbol j)) m row_length t.table symbols_at bits

  symbols_size : number.size b (symbols b) ≡ 24 * m
  symbols_size =
      ap (λ (i : ℕ). number.size b i) symbols_at
      ∙ size_of_rows b o flags s n is w place below (λ j. row_of o (symbol j)) 24 m row_length t.table bits

  -- the rows
  row_at : (j : ℕ) → j < m → HasBytes b (symbol_offset b j) (row_of o (symbol j))
  row_at j lt = symbol_here b o flags s n is w place below (λ j. row_of o (symbol j)) m row_length t.table symbols_at j lt

  pub symbol_is : (j : ℕ) → j < m → HasSymbol b j (symbol j).name_offset (symbol j).info (symbol j).other (symbol j).section (symbol j).value (symbol j).size
  symbol_is j lt =
      let f = t.fits j lt in
      has_symbol b o j (symbol j).name_offset (symbol j).info (symbol j).other (symbol j).section (symbol j).value (symbol j).size (order_is b o flags s n is) f.name_offset f.section f.value f.size (row_at j lt)

  -- and the names
  link_is : number.link b (symbols b) ≡ names + 1
  link_is =
      ap (λ (i : ℕ). number.link b i) symbols_at ∙ (has_header b o flags s n is w place below).link ∙ t.link ∙ next names

  pub symbol_strings_are : symbol_strings b ≡ (s names).content
  symbol_strings_are = ap (λ (i : ℕ). content b i) link_is ∙ content_is b o flags s n is w names t.names_below

  zero_row : is_zero_at b (number.offset b (symbols b)) 24 ≡ true
  zero_row =
      let at : HasBytes b (number.offset b (symbols b)) (row_of o (symbol 0)) = has_at b (symbol_offset b 0) (number.offset b (symbols b)) (row_of o (symbol 0)) (row_at 0 t.some) (omega arith) in
      zeros_at b (number.offset b (symbols b)) (replicate 24 0) refl (has_same b (number.offset b (symbols b)) (row_of o (symbol 0)) (replicate 24 0) at t.first)

  -- the rules on it
  pub symbol_table_holds : AllHold (symbol_table_rules b)
  symbol_table_holds =
      let some = t.some in
      let count = (has_file_header b o flags s n is w).count in
      let names_below = t.names_below in
      let whole : number.size b (symbols b) % 24 ≡ 0 = omega (arith, symbols_size) in
      let entry : number.entry_size b (symbols b) ≡ 24 = ap (λ (i : ℕ). number.entry_size b i) symbols_at ∙ (has_header b o flags s n is w place below).entry_size ∙ t.entry_size in
      let strings : is_string_table b (number.link b (symbols b)) ≡ true =
      ap (λ (i : ℕ). is_string_table b i) link_is ∙ string_table_is b o flags s n is w names t.names_below t.names_type t.names_closed in
      table_hold b (less_test 0 (symbols b) (omega (arith, symbols_at)))
      (and_from (nat_le 24 (number.size b (symbols b))) (number.size b (symbols b) % 24 == 0) (most_test 24 (number.size b (symbols b)) (omega (arith, symbols_size))) (equal_test (number.size b (symbols b) % 24) 0 whole))
      (equal_test (number.entry_size b (symbols b)) 24 entry)
      (and_from (nat_lt (number.link b (symbols b)) (number.count b)) (is_string_table b (number.link b (symbols b))) (less_test (number.link b (symbols b)) (number.count b) (omega (arith, link_is))) strings)
      zero_row

  -- ---- each symbol

  count_is : number.count b ≡ n + 1
  count_is = (has_file_header b o flags s n is w).count

  pub data_is : (i : ℕ) → i < n + 1 → is_data b i ≡ is_written_data s n i
  data_is i lt = ap (λ (k : Option Kind). is_kind Data k) (kind_is b o flags s n is w i lt)

  row_size : (i : ℕ) → i < n + 1 → number.size b i ≡ written_size s i
  row_size zero lt = (has_zero_header b o flags s n is w).size
  row_size (suc i) lt = ap (λ (k : ℕ). number.size b k) (next i) ∙ (has_header b o flags s n is w i (omega (arith, lt))).size

  section_there : (x : WrittenSymbol) → has_written_section s n x ≡ true → has_section b x.info x.section ≡ true
  section_there x h =
      let rest = nat_lt x.section (number.count b) && (is_local x.info || is_data b x.section) in
      elim (or_cases (is_special x.section) (nat_lt x.section (n + 1) && (is_local x.info || is_written_data s n x.section)) h) [
        | inl special ↦ or_left (is_special x.section) rest special
        | inr its ↦
            let lt = test_below x.section (n + 1) (and_parts (nat_lt x.section (n + 1)) (is_local x.info || is_written_data s n x.section) its).0 in
            let same : rest ≡ (nat_lt x.section (n + 1) && (is_local x.info || is_written_data s n x.section)) =
            ap (λ (c : ℕ). nat_lt x.section c && (is_local x.info || is_data b x.section)) count_is
            ∙ ap (λ (d : Bool). nat_lt x.section (n + 1) && (is_local x.info || d)) (data_is x.section lt) in
            or_right (is_special x.section) rest (same ∙ its)
      ]

  within_there : (x : WrittenSymbol) → has_written_section s n x ≡ true → is_written_within s n x ≡ true → is_within b x.section x.value x.size ≡ true
  within_there x h k =
      let rest = not (is_data b x.section) || nat_le (x.value + x.size) (number.size b x.section) in
      elim (or_cases (is_special x.section) (nat_lt x.section (n + 1) && (is_local x.info || is_written_data s n x.section)) h) [
        | inl special ↦ or_left (is_special x.section) rest special
        | inr its ↦
            let lt = test_below x.section (n + 1) (and_parts (nat_lt x.section (n + 1)) (is_local x.info || is_written_data s n x.section) its).0 in
            ap (λ (d : Bool). within_test d (number.size b x.section) x.section x.value x.size) (data_is x.section lt)
            ∙ ap (λ (z : ℕ). within_test (is_written_data s n x.section) z x.section x.value x.size) (row_size x.section lt) ∙ k
      ]

  loadable_there : (x : WrittenSymbol) → has_written_section s n x ≡ true → is_loadable b x.info x.section ≡ is_written_loadable s n x
  loadable_there x h =
      elim (or_cases (is_special x.section) (nat_lt x.section (n + 1) && (is_local x.info || is_written_data s n x.section)) h) [
        | inl special ↦ loadable_same b s n x special
        | inr its ↦
            let lt = test_below x.section (n + 1) (and_parts (nat_lt x.section (n + 1)) (is_local x.info || is_written_data s n x.section) its).0 in
            ap (λ (d : Bool). (is_special x.section || d) && not (is_file_name x.info x.section)) (data_is x.section lt)
      ]

  pub loadable_is : (j : ℕ) → j < m → is_loadable b (st_info b j) (st_shndx b j) ≡ true
  loadable_is j lt =
      let its = symbol_is j lt in
      ap (λ (i : ℕ). is_loadable b i (st_shndx b j)) its.info_is ∙ ap (λ (i : ℕ). is_loadable b (symbol j).info i) its.shndx_is
      ∙ loadable_there (symbol j) (t.sections j lt) ∙ t.loadable j lt

  symbol_holds : (j : ℕ) → j < m → AllHold (symbol_rules b j)
  symbol_holds j lt =
      let x = symbol j in
      let its = symbol_is j lt in
      let named = t.named j lt in
      let strings : length (symbol_strings b) ≡ length (s names).content = ap length symbol_strings_are in
      let name_at = its.name_is in
      symbol_hold b j (less_test (st_name b j) (length (symbol_strings b)) (omega (arith, named, strings, name_at)))
      (ap (λ (i : ℕ). has_section b i (st_shndx b j)) its.info_is ∙ ap (λ (i : ℕ). has_section b x.info i) its.shndx_is ∙ section_there x (t.sections j lt))
      (ap (λ (i : ℕ). is_within b i (st_value b j) (st_size b j)) its.shndx_is ∙ ap (λ (i : ℕ). is_within b x.section i (st_size b j)) its.value_is
      ∙ ap (λ (i : ℕ). is_within b x.section x.value i) its.size_is ∙ within_there x (t.sections j lt) (t.within j lt))
      (or_left (is_loadable b (st_info b j) (st_shndx b j)) (is_unread (st_info b j) (st_other b j) (st_value b j) (symbol_name b j)) (loadable_is j lt))

  pub symbols_hold : AllHold (each (symbol_count b) (symbol_rules b))
  symbols_hold = all_hold (symbol_count b) (symbol_rules b) (λ j lt. symbol_holds j (omega (arith, lt, count_of_symbols)))
