-- The bytes of an ELF file for BPF: its header, the contents of its sections, and the section header table (System V ABI, "ELF Header", "Sections").
use Rattle.std.specs.Prelude.{ℕ, zero, suc, ◌+◌, ◌-◌, ◌%◌, List, [], ◌∷◌, ◌++◌, length, replicate}
use Rattle.std.specs.Int.{w64, to_le_bytes, to_be_bytes}
use Rattle.bpf_words.specs.{declared.Order.Order, declared.Order.TheVariants.Little, declared.Order.TheVariants.Big, Words.word16, Words.word32}

-- a section: the fields of its header but for sh_offset, and its bytes in the file
pub record WrittenSection : Type 0 where
  pub name_offset : ℕ
  pub type : ℕ
  pub flags : ℕ
  pub address : ℕ
  pub size : ℕ
  pub link : ℕ
  pub info : ℕ
  pub alignment : ℕ
  pub entry_size : ℕ
  pub content : List ℕ

-- what stands past the end of a list of sections
abbrev pub no_section : WrittenSection
no_section = record { name_offset = 0; type = 0; flags = 0; address = 0; size = 0; link = 0; info = 0; alignment = 0; entry_size = 0; content = [] }

-- the 8 bytes of a number below 2^64 in a byte order
abbrev pub word64 : Order → ℕ → List ℕ
word64 Little n = to_le_bytes w64 n
word64 Big n = to_be_bytes w64 n

-- EI_DATA: ELFDATA2LSB or ELFDATA2MSB
abbrev pub data_byte : Order → ℕ
data_byte Little = 1
data_byte Big = 2

-- e_ident: a 64-bit file of the current version
abbrev pub ident : Order → List ℕ
ident o = 0x7f ∷ 0x45 ∷ 0x4c ∷ 0x46 ∷ 2 ∷ data_byte o ∷ 1 ∷ replicate 9 0

-- e_type ET_REL, e_machine EM_BPF, e_version, e_entry and e_phoff
abbrev pub file_type : Order → List ℕ
file_type o = word16 o 1 ++ word16 o 247 ++ word32 o 1 ++ word64 o 0 ++ word64 o 0

-- e_shoff and e_flags, then the sizes and numbers of headers; the last section has the names
abbrev pub file_table : Order → ℕ → ℕ → ℕ → List ℕ
file_table o flags table count =
    word64 o table ++ word32 o flags ++ word16 o 64 ++ word16 o 0 ++ word16 o 0 ++ word16 o 64 ++ word16 o count ++ word16 o (count - 1)

-- zeros up to a multiple of 8
abbrev pub padding : ℕ → List ℕ
padding n = replicate ((8 - n % 8) % 8) 0

-- the contents of the first n sections, each padded
abbrev pub contents : (ℕ → WrittenSection) → ℕ → List ℕ
contents section zero = []
contents section (suc n) = contents section n ++ ((section n).content ++ padding (length (section n).content))

-- where the content of a section is: the first one follows the header
abbrev pub content_offset : (ℕ → WrittenSection) → ℕ → ℕ
content_offset section n = 64 + length (contents section n)

-- the header of a section whose content is at an offset
abbrev pub section_header : Order → WrittenSection → ℕ → List ℕ
section_header o s offset =
    word32 o s.name_offset ++ word32 o s.type ++ word64 o s.flags ++ word64 o s.address ++ word64 o offset ++ word64 o s.size ++ word32 o s.link
    ++ word32 o s.info ++ word64 o s.alignment ++ word64 o s.entry_size

-- the section header table: the zero row, and the headers of the first n sections
abbrev pub section_headers : Order → (ℕ → WrittenSection) → ℕ → List ℕ
section_headers o section zero = replicate 64 0
section_headers o section (suc n) = section_headers o section n ++ section_header o (section n) (content_offset section n)

-- the file of n sections
abbrev pub file_of : Order → ℕ → (ℕ → WrittenSection) → ℕ → List ℕ
file_of o flags section n =
    (ident o ++ (file_type o ++ file_table o flags (content_offset section n) (n + 1))) ++ (contents section n ++ section_headers o section n)
