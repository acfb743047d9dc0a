-- Objects whose canonical file is accepted.
use Rattle.std.proofs.Common.{◌≡◌, ℕ, ◌+◌, ◌-◌, ◌*◌, ◌^◌, ◌<◌, ◌≤◌, ◌⊎◌, ◌==◌, ◌&&◌, not, Bool, true, false, [], Option, length, get_or, if◌then◌else◌}
use Rattle.bpf_elf.specs.declared.kinds.Kind.{Kind}
use Rattle.bpf_elf.specs.declared.kinds.Kind.TheVariants.{Data, Relocations}
use Rattle.bpf_elf.specs.Kinds.{SHT_NOBITS, kind_of, is_kind}
use Rattle.bpf_elf.specs.Sections.{is_table_name}
use Rattle.bpf_elf.specs.Symbols.{is_special, is_file_name, is_label_name, is_code}
use Rattle.btf_raw.specs.Names.{IsWithoutNul}
use Rattle.bpf_object.specs.Objects.{KeptRelocation, KeptSection, KeptSymbol, Object}
use Rattle.bpf_object.specs.Canonical.{written_sections, canonical}

-- ---- the parts of an object by their numbers

abbrev pub no_relocation : KeptRelocation
no_relocation = record { offset = 0; symbol = 0; type = 0 }

abbrev pub nothing : KeptSection
nothing = record {
  name = [];
  type = 0;
  flags = 0;
  address = 0;
  size = 0;
  alignment = 0;
  entry_size = 0;
  content = [];
  target = 0;
  relocations = [];
}

-- the first symbol of an object
abbrev pub no_symbol : KeptSymbol
no_symbol = record { name = []; info = 0; other = 0; section = 0; value = 0; size = 0 }

-- from 0; the first section of the file has the number 1
abbrev pub section_of : Object → ℕ → KeptSection
section_of x i = get_or x.sections i nothing

abbrev pub symbol_of : Object → ℕ → KeptSymbol
symbol_of x j = get_or x.symbols j no_symbol

abbrev pub relocation_of : KeptSection → ℕ → KeptRelocation
relocation_of s k = get_or s.relocations k no_relocation

abbrev pub kind_of_section : KeptSection → Option Kind
kind_of_section s = kind_of s.type s.name s.flags

-- ---- sections

-- the number of a section of code or data
pub record IsDataOf (x : Object) (number : ℕ) : Type 0 where
  pub some : 0 < number
  pub there : number ≤ length x.sections
  pub is_data : is_kind Data (kind_of_section (section_of x (number - 1))) ≡ true

-- a section of code or data has its bytes
pub record IsValidData (s : KeptSection) : Type 0 where
  pub kind : is_kind Data (kind_of_section s) ≡ true
  pub content : length s.content ≡ (if s.type == SHT_NOBITS then 0 else s.size)
  pub target : s.target ≡ 0
  pub relocations : s.relocations ≡ []

pub record IsValidRelocation (x : Object) (r : KeptRelocation) : Type 0 where
  pub offset : r.offset < 2 ^ 64
  pub type : r.type < 2 ^ 32
  pub symbol : r.symbol < length x.symbols

-- a table of relocations has rows, and is for a section
pub record IsValidTable (x : Object) (s : KeptSection) : Type 0 where
  pub kind : is_kind Relocations (kind_of_section s) ≡ true
  pub content : s.content ≡ []
  pub size : s.size ≡ 16 * length s.relocations
  pub entry_size : s.entry_size ≡ 16
  pub target : IsDataOf x s.target
  pub target_name : is_table_name s.name (section_of x (s.target - 1)).name ≡ true
  pub rows : (k : ℕ) → k < length s.relocations → IsValidRelocation x (relocation_of s k)

pub record IsValidSection (x : Object) (s : KeptSection) : Type 0 where
  pub name : IsWithoutNul s.name
  pub name_short : length s.name ≤ 1024
  pub type : s.type < 2 ^ 32
  pub flags : s.flags < 2 ^ 64
  pub address : s.address < 2 ^ 64
  pub size : s.size < 2 ^ 64
  pub alignment : s.alignment < 2 ^ 64
  pub entry_size : s.entry_size < 2 ^ 64
  pub kept : IsValidData s ⊎ IsValidTable x s

-- ---- symbols

-- a symbol is in no section, or inside one of code or data
pub record IsPlacedIn (x : Object) (s : KeptSymbol) : Type 0 where
  pub section : IsDataOf x s.section
  pub within : s.value + s.size ≤ (section_of x (s.section - 1)).size

-- a symbol is a label of the compiler in code
abbrev pub is_label_in : Object → KeptSymbol → Bool
is_label_in x s =
    is_label_name s.info s.other s.name
    && (not (is_special s.section) && (let c = section_of x (s.section - 1) in is_code c.type c.name c.flags))

pub record IsValidSymbol (x : Object) (s : KeptSymbol) : Type 0 where
  pub name : IsWithoutNul s.name
  pub info : s.info < 256
  pub other : s.other < 256
  pub section : s.section < 2 ^ 16
  pub value : s.value < 2 ^ 64
  pub size : s.size < 2 ^ 64
  pub place : (is_special s.section ≡ true) ⊎ IsPlacedIn x s
  pub not_file : is_file_name s.info s.section ≡ false
  pub not_label : is_label_in x s ≡ false

-- ---- objects

pub record ValidObject (x : Object) : Type 0 where
  pub flags : x.flags < 2 ^ 32
  pub sections : (i : ℕ) → i < length x.sections → IsValidSection x (section_of x i)
  pub some : 0 < length x.symbols
  pub first : symbol_of x 0 ≡ no_symbol
  pub symbols : (j : ℕ) → j < length x.symbols → IsValidSymbol x (symbol_of x j)

-- the file can be written: it has fewer sections than special section indices allow, and at most 64 MiB
pub record IsSmall (x : Object) : Type 0 where
  pub few : length (written_sections x) + 1 < 65280
  pub short : length (canonical x) ≤ 67108864
