-- The sections of a file: their names, bytes and kinds, and the rules on them (System V ABI, "Sections").
use Rattle.std.specs.Prelude.{ℕ, zero, suc, ◌+◌, ◌==◌, ◌||◌, ◌&&◌, not, nat_lt, nat_le, is_some, Bool, false, List, [], ◌∷◌, Option, Some, None, length, take, drop, if◌then◌else◌, codes}
use Rattle.std.specs.{List.list_all, Str.bytes_eq}
use Rattle.bpf_elf.specs.declared.kinds.Kind.{Kind}
use Rattle.bpf_elf.specs.declared.kinds.Kind.TheVariants.{Data, Relocations}
use Rattle.bpf_elf.specs.declared.fault.ElfCause.TheVariants as cause
use Rattle.bpf_elf.specs.Rules.{ElfRule, rule, first_of}
use Rattle.bpf_elf.specs.Numbers.{table, count, names, header_offset, name_off, type, flags, offset, size, info}
use Rattle.bpf_elf.specs.Names.{is_closed, string_at, is_section_name}
use Rattle.bpf_elf.specs.Kinds.{SHT_STRTAB, SHT_NOBITS, SHT_REL, begins, kind_of, is_kind, is_single}

-- the number of bytes that a section has in the file: those of type SHT_NOBITS have none
abbrev pub file_size : List ℕ → ℕ → ℕ
file_size b i = if type b i == SHT_NOBITS then 0 else size b i

-- a section is inside the file
abbrev pub is_inside : List ℕ → ℕ → Bool
is_inside b i = nat_le (offset b i + file_size b i) (length b)

-- the bytes of a section
abbrev pub content : List ℕ → ℕ → List ℕ
content b i = take (file_size b i) (drop (offset b i) b)

-- a section is a string table: it is in the file, and begins and ends with a NUL
abbrev pub is_string_table : List ℕ → ℕ → Bool
is_string_table b i = type b i == SHT_STRTAB && (is_inside b i && is_closed (content b i))

-- the name of a section
abbrev pub name : List ℕ → ℕ → List ℕ
name b i = string_at (content b (names b)) (name_off b i)

-- the kind of a section; section 0 is none, and has none
abbrev pub kind : List ℕ → ℕ → Option Kind
kind b i = if i == 0 then None else kind_of (type b i) (name b i) (flags b i)

-- the first section of a kind; 0 if there is none
abbrev pub section_of : List ℕ → Kind → ℕ → ℕ
section_of b k n = first_of n (λ i. is_kind k (kind b i))

-- an earlier section has the same kind
abbrev pub is_again : List ℕ → ℕ → Bool
is_again b i = elim (kind b i) [ Some k ↦ nat_lt 0 (section_of b k i) | None ↦ false ]

-- the bytes that the canonical file has of a section: all of code and data, and of a table of relocations that is kept
abbrev pub kept_size : List ℕ → ℕ → ℕ
kept_size b i = if is_kind Data (kind b i) || is_kind Relocations (kind b i) then file_size b i else 0

-- those of the first n sections together
abbrev pub kept_total : List ℕ → ℕ → ℕ
kept_total b zero = 0
kept_total b (suc n) = kept_total b n + kept_size b n

-- bytes of the file are zero
abbrev pub is_zero_at : List ℕ → ℕ → ℕ → Bool
is_zero_at b pos n = list_all (λ c. c == 0) (take n (drop pos b))

-- the first section header is zero, and there are names
abbrev pub table_rules : List ℕ → List ElfRule
table_rules b =
    rule cause.FirstSection (table b) (is_zero_at b (table b) 64)
    ∷ rule cause.NamesTable 62 (is_string_table b (names b))
    ∷ []

-- a section is in the file, and has a name and a kind; those that are kept, up to this one, are together no longer than the file
abbrev pub section_rules : List ℕ → ℕ → List ElfRule
section_rules b i =
    rule cause.SectionCut (header_offset b i + 24) (is_inside b i)
    ∷ rule cause.SectionName (header_offset b i) (is_section_name (content b (names b)) (name_off b i))
    ∷ rule cause.SectionKind (header_offset b i + 4) (i == 0 || is_some (kind b i))
    ∷ rule cause.SectionTwice (header_offset b i + 4) (not (is_single (kind b i) && is_again b i))
    ∷ rule cause.SectionsTooLarge (header_offset b i) (nat_le (kept_total b (suc i)) (length b))
    ∷ []

-- the name of a table of relocations is .rel and that of its section
abbrev pub is_table_name : List ℕ → List ℕ → Bool
is_table_name name target = begins name (codes ".rel") && bytes_eq (drop 4 name) target

-- a table of relocations belongs to a section, whose name its own has, and which is code or data if the table is kept
abbrev pub is_target : List ℕ → ℕ → ℕ → Bool
is_target b i target =
    nat_lt 0 target && nat_lt target (count b)
    && (is_table_name (name b i) (name b target) && (not (is_kind Relocations (kind b i)) || is_kind Data (kind b target)))

abbrev pub target_rules : List ℕ → ℕ → List ElfRule
target_rules b i = rule cause.RelocationTarget (header_offset b i + 44) (not (type b i == SHT_REL) || is_target b i (info b i)) ∷ []
