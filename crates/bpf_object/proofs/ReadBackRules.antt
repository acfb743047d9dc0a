-- A written file keeps the rules on its header, and those on the zero row and the names of sections.
use Rattle.std.proofs.Common.{◌≡◌, ℕ, ◌+◌, ◌-◌, ◌*◌, ◌<◌, ◌≤◌, ◌==◌, ◌&&◌, ◌||◌, true, List, length, refl, ap, ◌∙◌, arith}
use Rattle.std.specs.Prelude.{nat_lt, slice_index}
use Rattle.std.proofs.lemmas.Bool.{and_from}
use Rattle.bpf_words.specs.declared.Order.{Order, TheVariants.Little, TheVariants.Big}
use Rattle.bpf_words.specs.Words.{word32_at}
use Rattle.bpf_elf.specs.{Rules.AllHold, Names.is_closed, Names.string_at, Kinds.SHT_STRTAB}
use Rattle.bpf_elf.specs.Numbers as number
use Rattle.bpf_elf.specs.Header.{FILE_LIMIT, SHN_LORESERVE, ELF_MAGIC, ELFCLASS64, EV_CURRENT, ET_REL, EM_BPF, ident_rules, layout_rules, header_rules}
use Rattle.bpf_elf.specs.Sections.{content, is_inside, is_string_table, table_rules, name}
use Rattle.bpf_elf.specs.ElfRules.{head_rules}
use Rattle.bpf_elf.proofs.RuleLemmas.{both_hold}
use Rattle.bpf_object.specs.File.{WrittenSection, data_byte, ident, content_offset, file_of}
use Rattle.bpf_object.proofs.ReadBackTests.{equal_test, most_test, less_test}
use Rattle.bpf_object.proofs.ReadBackLayout.{length-file_of}
use Rattle.bpf_object.proofs.ReadBackFile.{IsWritable, ident_byte, HasFileHeader, has_file_header, has_header, has_zero_header}
use Rattle.bpf_object.proofs.ReadBackSections.{content_is, inside_is, zero_is}

-- ---- the header

magic_is : (b : List ℕ) → slice_index b 0 ≡ 0x7f → slice_index b 1 ≡ 0x45 → slice_index b 2 ≡ 0x4c → slice_index b 3 ≡ 0x46 → word32_at Little b 0 ≡ ELF_MAGIC
magic_is b a c d e = omega arith

ident_hold : (b : List ℕ) → length b ≤ FILE_LIMIT → 64 ≤ length b → word32_at Little b 0 ≡ ELF_MAGIC → slice_index b 4 ≡ 2
    → (slice_index b 5 == 1 || slice_index b 5 == 2) ≡ true → slice_index b 6 ≡ 1 → AllHold (ident_rules b)
ident_hold b short long magic class order version =
    rw (most_test (length b) FILE_LIMIT short, most_test 64 (length b) long, equal_test (word32_at Little b 0) ELF_MAGIC magic, equal_test (slice_index b 4) ELFCLASS64 class, order, equal_test (slice_index b 6) EV_CURRENT version) refl

offset_hold : (b : List ℕ) → 0 < number.count b → number.count b < SHN_LORESERVE → number.table b + 64 * number.count b ≤ length b → number.names b < number.count b
    → AllHold (layout_rules b)
offset_hold b some few inside names =
    let counted = and_from (nat_lt 0 (number.count b)) (nat_lt (number.count b) SHN_LORESERVE) (less_test 0 (number.count b) some) (less_test (number.count b) SHN_LORESERVE few) in
    rw (counted, most_test (number.table b + 64 * number.count b) (length b) inside, less_test (number.names b) (number.count b) names) refl

header_hold : (b : List ℕ) (flags table count : ℕ) → HasFileHeader b flags table count → AllHold (layout_rules b) → AllHold (header_rules b)
header_hold b flags table count h places =
    rw (equal_test (number.half b 16) ET_REL h.file_type, equal_test (number.half b 18) EM_BPF h.machine, equal_test (number.word b 20) EV_CURRENT h.version, equal_test (number.half b 52) 64 h.header_size, equal_test (number.half b 56) 0 h.segments, equal_test (number.half b 58) 64 h.section_header_size) places

one_of_two : (o : Order) → (data_byte o == 1 || data_byte o == 2) ≡ true
one_of_two Little = refl
one_of_two Big = refl

data_byte_there : (o : Order) → slice_index (ident o) 5 ≡ data_byte o
data_byte_there Little = refl
data_byte_there Big = refl

module _ (b : List ℕ) (o : Order) (flags : ℕ) (s : ℕ → WrittenSection) (n : ℕ) (is : b ≡ file_of o flags s n) (w : IsWritable flags s n) where
  size_is : length b ≡ content_offset s n + 64 * (n + 1)
  size_is = ap length is ∙ length-file_of o flags s n

  ident_kept : AllHold (ident_rules b)
  ident_kept =
      let at = ident_byte b o flags s n is in
      let short = w.short in
      let order : (slice_index b 5 == 1 || slice_index b 5 == 2) ≡ true =
      ap (λ (k : ℕ). k == 1 || k == 2) (at 5 (omega arith) ∙ data_byte_there o) ∙ one_of_two o in
      ident_hold b (omega (arith, size_is)) (omega (arith, size_is))
      (magic_is b (at 0 (omega arith)) (at 1 (omega arith)) (at 2 (omega arith)) (at 3 (omega arith))) (at 4 (omega arith)) order (at 6 (omega arith))

  offsets_kept : AllHold (layout_rules b)
  offsets_kept =
      let h = has_file_header b o flags s n is w in
      let table = h.table in
      let count = h.count in
      let names = h.names in
      let few = w.few in
      offset_hold b (omega arith) (omega arith) (omega (arith, size_is)) (omega arith)

  -- the header
  pub head_holds : AllHold (head_rules b)
  head_holds =
      both_hold (ident_rules b) (header_rules b) ident_kept
      (header_hold b flags (content_offset s n) (n + 1) (has_file_header b o flags s n is w) offsets_kept)

  -- ---- string tables

  -- a section that is one
  pub string_table_is : (i : ℕ) → i < n → (s i).type ≡ SHT_STRTAB → is_closed (s i).content ≡ true → is_string_table b (i + 1) ≡ true
  string_table_is i lt type closed =
      let strings : (number.type b (i + 1) == SHT_STRTAB) ≡ true = equal_test (number.type b (i + 1)) SHT_STRTAB ((has_header b o flags s n is w i lt).type ∙ type) in
      let ends : is_closed (content b (i + 1)) ≡ true = ap (λ (xs : List ℕ). is_closed xs) (content_is b o flags s n is w i lt) ∙ closed in
      and_from (number.type b (i + 1) == SHT_STRTAB) (is_inside b (i + 1) && is_closed (content b (i + 1))) strings
      (and_from (is_inside b (i + 1)) (is_closed (content b (i + 1))) (inside_is b o flags s n is w i lt) ends)

  -- ---- the last section has the names

  last_before : n - 1 < n
  last_before = let some = w.some in omega arith

  -- e_shstrndx
  pub names_is : number.names b ≡ n
  names_is = let names = (has_file_header b o flags s n is w).names in omega arith

  names_last : number.names b ≡ n - 1 + 1
  names_last = let some = w.some in omega (arith, names_is)

  -- the bytes of the names of sections
  pub names_content : content b (number.names b) ≡ (s (n - 1)).content
  names_content = ap (λ (i : ℕ). content b i) names_last ∙ content_is b o flags s n is w (n - 1) last_before

  -- the zero row and the names
  pub table_holds : (s (n - 1)).type ≡ SHT_STRTAB → is_closed (s (n - 1)).content ≡ true → AllHold (table_rules b)
  table_holds type closed =
      let named : is_string_table b (number.names b) ≡ true = ap (λ (i : ℕ). is_string_table b i) names_last ∙ string_table_is (n - 1) last_before type closed in
      rw (zero_is b o flags s n is w, named) refl

  -- the name of a section
  pub name_is : (i : ℕ) → i < n → name b (i + 1) ≡ string_at (s (n - 1)).content (s i).name_offset
  name_is i lt =
      ap (λ (xs : List ℕ). string_at xs (number.name_off b (i + 1))) names_content
      ∙ ap (λ (k : ℕ). string_at (s (n - 1)).content k) (has_header b o flags s n is w i lt).name_offset

  -- and that of the zero row, which is at 0
  pub zero_name_is : name b 0 ≡ string_at (s (n - 1)).content 0
  zero_name_is =
      ap (λ (xs : List ℕ). string_at xs (number.name_off b 0)) names_content
      ∙ ap (λ (k : ℕ). string_at (s (n - 1)).content k) (has_zero_header b o flags s n is w).name_offset
