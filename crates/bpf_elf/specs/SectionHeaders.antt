-- The fields of section headers, symbols and relocations as values of the types of the crate.
use Rattle.std.specs.Prelude.{◌≡◌, ℕ, List}
use Rattle.bpf_elf.specs.declared.{sections.SectionHeader.SectionHeader, symbols.Symbol.Symbol, relocations.Relocation.Relocation}
use Rattle.bpf_elf.specs.Numbers.{name_off, type, flags, address, offset, size, link, info, alignment, entry_size}
use Rattle.bpf_elf.specs.Symbols.{st_name, st_info, st_other, st_shndx, st_value, st_size}
use Rattle.bpf_elf.specs.Relocations.{r_offset, r_symbol, r_type}

-- the header of a section
pub record IsSectionHeader (b : List ℕ) (i : ℕ) (section : SectionHeader) : Type 0 where
  pub name_offset : section.name_offset ≡ name_off b i
  pub section_type : section.section_type ≡ type b i
  pub flags : section.flags ≡ flags b i
  pub address : section.address ≡ address b i
  pub offset : section.offset ≡ offset b i
  pub size : section.size ≡ size b i
  pub link : section.link ≡ link b i
  pub info : section.info ≡ info b i
  pub alignment : section.alignment ≡ alignment b i
  pub entry_size : section.entry_size ≡ entry_size b i

-- an entry of the symbol table
pub record IsSymbol (b : List ℕ) (j : ℕ) (symbol : Symbol) : Type 0 where
  pub name_offset : symbol.name_offset ≡ st_name b j
  pub info : symbol.info ≡ st_info b j
  pub other : symbol.other ≡ st_other b j
  pub section : symbol.section ≡ st_shndx b j
  pub value : symbol.value ≡ st_value b j
  pub size : symbol.size ≡ st_size b j

-- a row of a table of relocations
pub record IsRelocation (b : List ℕ) (i k : ℕ) (relocation : Relocation) : Type 0 where
  pub offset : relocation.offset ≡ r_offset b i k
  pub symbol : relocation.symbol ≡ r_symbol b i k
  pub relocation_type : relocation.relocation_type ≡ r_type b i k
