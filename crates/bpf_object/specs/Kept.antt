-- The sections, symbols and relocations of a file that its canonical file keeps, and their new numbers.
use Rattle.std.specs.Prelude.{ℕ, zero, suc, ◌+◌, ◌||◌, Bool, true, List, [], ◌∷◌, ◌++◌, if◌then◌else◌}
use Rattle.bpf_elf.specs.declared.kinds.Kind.TheVariants.{Data, Relocations}
use Rattle.bpf_elf.specs.Numbers as elf
use Rattle.bpf_elf.specs.Kinds.{is_kind}
use Rattle.bpf_elf.specs.Sections.{content, kind, name}
use Rattle.bpf_elf.specs.Symbols as symbols
use Rattle.bpf_elf.specs.Relocations as relocations
use Rattle.bpf_object.specs.Objects.{KeptRelocation, KeptSection, KeptSymbol}

-- the values of the first n numbers that pass a test
abbrev pub listed : {A : Type 0} → (ℕ → Bool) → (ℕ → A) → ℕ → List A
listed test value zero = []
listed test value (suc n) = listed test value n ++ (if test n then value n ∷ [] else [])

-- how many of the first n numbers pass a test
abbrev pub number_of : (ℕ → Bool) → ℕ → ℕ
number_of test zero = 0
number_of test (suc n) = if test n then suc (number_of test n) else number_of test n

-- for each of the first n numbers, how many before it pass
abbrev pub numbers : (ℕ → Bool) → ℕ → List ℕ
numbers test n = listed (λ k. true) (number_of test) n

-- a table of relocations that is kept
abbrev pub is_table : List ℕ → ℕ → Bool
is_table b i = is_kind Relocations (kind b i)

-- a section is code, data or such a table
abbrev pub is_kept_section : List ℕ → ℕ → Bool
is_kept_section b i = is_kind Data (kind b i) || is_table b i

-- the new number of a kept section: section 0 is before them
abbrev pub section_number : List ℕ → ℕ → ℕ
section_number b i = 1 + number_of (is_kept_section b) i

-- the new section index of a symbol
abbrev pub symbol_section : List ℕ → ℕ → ℕ
symbol_section b section = if symbols.is_special section then section else section_number b section

-- the new number of a kept symbol: symbol 0 is the first of them
abbrev pub symbol_number : List ℕ → ℕ → ℕ
symbol_number b j = number_of (symbols.is_kept_symbol b) j

abbrev pub kept_relocation : List ℕ → ℕ → ℕ → KeptRelocation
kept_relocation b i k = record {
  offset = relocations.r_offset b i k;
  symbol = symbol_number b (relocations.r_symbol b i k);
  type = relocations.r_type b i k;
}

-- the rows of a table of relocations
abbrev pub table_rows : List ℕ → ℕ → List KeptRelocation
table_rows b i = listed (λ k. true) (kept_relocation b i) (relocations.relocation_count b i)

abbrev pub kept_section : List ℕ → ℕ → KeptSection
kept_section b i = record {
  name = name b i;
  type = elf.type b i;
  flags = elf.flags b i;
  address = elf.address b i;
  size = elf.size b i;
  alignment = elf.alignment b i;
  entry_size = elf.entry_size b i;
  content = if is_table b i then [] else content b i;
  target = if is_table b i then section_number b (elf.info b i) else 0;
  relocations = if is_table b i then table_rows b i else [];
}

abbrev pub kept_symbol : List ℕ → ℕ → KeptSymbol
kept_symbol b j = record {
  name = symbols.symbol_name b j;
  info = symbols.st_info b j;
  other = symbols.st_other b j;
  section = symbol_section b (symbols.st_shndx b j);
  value = symbols.st_value b j;
  size = symbols.st_size b j;
}

abbrev pub kept_sections : List ℕ → List KeptSection
kept_sections b = listed (is_kept_section b) (kept_section b) (elf.count b)

abbrev pub kept_symbols : List ℕ → List KeptSymbol
kept_symbols b = listed (symbols.is_kept_symbol b) (kept_symbol b) (symbols.symbol_count b)
