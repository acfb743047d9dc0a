-- The header of an object file for BPF (System V ABI, "ELF Header").
use Rattle.std.specs.Prelude.{ℕ, ◌+◌, ◌*◌, ◌==◌, ◌||◌, ◌&&◌, nat_lt, nat_le, List, [], ◌∷◌, length, slice_index}
use Rattle.bpf_words.specs.{declared.Order.TheVariants.Little, Words.word32_at}
use Rattle.bpf_elf.specs.declared.fault.ElfCause.TheVariants as cause
use Rattle.bpf_elf.specs.Rules.{ElfRule, rule}
use Rattle.bpf_elf.specs.Numbers.{half, word, table, count, names}

-- the most bytes of a file: 64 MiB
abbrev pub FILE_LIMIT : ℕ
FILE_LIMIT = 67108864

-- SHN_LORESERVE: the first index that isn't one of a section
abbrev pub SHN_LORESERVE : ℕ
SHN_LORESERVE = 0xff00

-- the first four bytes of an ELF file, 7f 45 4c 46, as a number
abbrev pub ELF_MAGIC : ℕ
ELF_MAGIC = 0x464c457f

-- ELFCLASS64, EV_CURRENT, ET_REL and EM_BPF
abbrev pub ELFCLASS64 : ℕ
ELFCLASS64 = 2

abbrev pub EV_CURRENT : ℕ
EV_CURRENT = 1

abbrev pub ET_REL : ℕ
ET_REL = 1

abbrev pub EM_BPF : ℕ
EM_BPF = 247

-- e_ident: a 64-bit ELF file of the current version, which states its byte order
abbrev pub ident_rules : List ℕ → List ElfRule
ident_rules b =
    rule cause.FileTooLarge FILE_LIMIT (nat_le (length b) FILE_LIMIT)
    ∷ rule cause.FileCut (length b) (nat_le 64 (length b))
    ∷ rule cause.Magic 0 (word32_at Little b 0 == ELF_MAGIC)
    ∷ rule cause.Class 4 (slice_index b 4 == ELFCLASS64)
    ∷ rule cause.ByteOrder 5 (slice_index b 5 == 1 || slice_index b 5 == 2)
    ∷ rule cause.IdentVersion 6 (slice_index b 6 == EV_CURRENT)
    ∷ []

-- where the section header table is, and which section has the names of sections
abbrev pub layout_rules : List ℕ → List ElfRule
layout_rules b =
    rule cause.SectionCount 60 (nat_lt 0 (count b) && nat_lt (count b) SHN_LORESERVE)
    ∷ rule cause.SectionTable 40 (nat_le (table b + 64 * count b) (length b))
    ∷ rule cause.NamesIndex 62 (nat_lt (names b) (count b))
    ∷ []

-- the rest of the header: a relocatable file for BPF without segments
abbrev pub header_rules : List ℕ → List ElfRule
header_rules b =
    rule cause.FileType 16 (half b 16 == ET_REL)
    ∷ rule cause.Machine 18 (half b 18 == EM_BPF)
    ∷ rule cause.FileVersion 20 (word b 20 == EV_CURRENT)
    ∷ rule cause.HeaderSize 52 (half b 52 == 64)
    ∷ rule cause.Segments 56 (half b 56 == 0)
    ∷ rule cause.SectionHeaderSize 58 (half b 58 == 64)
    ∷ layout_rules b
