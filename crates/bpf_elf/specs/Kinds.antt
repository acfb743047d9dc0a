-- The kinds of sections. Type, name and flags decide (System V ABI, "Sections"; libbpf looks at the same three).
use Rattle.std.specs.Prelude.{ℕ, ◌/◌, ◌%◌, ◌==◌, ◌&&◌, ◌||◌, not, Bool, true, false, List, Option, Some, None, drop, if◌then◌else◌, codes, nat_eq}
use Rattle.std.specs.{List.starts_with, Str.bytes_eq}
use Rattle.bpf_elf.specs.declared.kinds.Kind.{Kind}
use Rattle.bpf_elf.specs.declared.kinds.Kind.TheVariants.{Data, Relocations, Symbols, Types, Extension, Dropped}

-- types of sections
abbrev pub SHT_PROGBITS : ℕ
SHT_PROGBITS = 1

abbrev pub SHT_SYMTAB : ℕ
SHT_SYMTAB = 2

abbrev pub SHT_STRTAB : ℕ
SHT_STRTAB = 3

abbrev pub SHT_NOTE : ℕ
SHT_NOTE = 7

abbrev pub SHT_NOBITS : ℕ
SHT_NOBITS = 8

abbrev pub SHT_REL : ℕ
SHT_REL = 9

abbrev pub SHT_INIT_ARRAY : ℕ
SHT_INIT_ARRAY = 14

abbrev pub SHT_FINI_ARRAY : ℕ
SHT_FINI_ARRAY = 15

abbrev pub SHT_LLVM_ADDRSIG : ℕ
SHT_LLVM_ADDRSIG = 0x6fff4c03

-- flags of sections: each is one bit
abbrev pub has_flag : ℕ → ℕ → Bool
has_flag flag flags = flags / flag % 2 == 1

-- SHF_EXECINSTR
abbrev pub is_executable : ℕ → Bool
is_executable flags = has_flag 4 flags

-- SHF_ALLOC or SHF_EXECINSTR
abbrev pub is_loaded : ℕ → Bool
is_loaded flags = has_flag 2 flags || is_executable flags

-- SHF_COMPRESSED
abbrev pub is_compressed : ℕ → Bool
is_compressed flags = has_flag 0x800 flags

-- the section may hold indices: SHF_INFO_LINK, SHF_LINK_ORDER or SHF_GROUP
abbrev pub has_indices : ℕ → Bool
has_indices flags = has_flag 0x40 flags || has_flag 0x80 flags || has_flag 0x200 flags

-- a table that no loader takes into memory
abbrev pub is_plain : ℕ → Bool
is_plain flags = not (is_loaded flags) && not (is_compressed flags)

-- the name begins with a text
abbrev pub begins : List ℕ → List ℕ → Bool
begins name text = starts_with nat_eq name text

-- debugging information
abbrev pub is_debug : List ℕ → Bool
is_debug name = begins name (codes ".debug_")

-- sections whose relocations no loader reads
abbrev pub is_unrelocated : List ℕ → Bool
is_unrelocated name = is_debug name || bytes_eq name (codes ".BTF") || bytes_eq name (codes ".BTF.ext")

-- a table of relocations of one of these
abbrev pub is_unread_table : List ℕ → Bool
is_unread_table name = begins name (codes ".rel") && is_unrelocated (drop 4 name)

-- names of string tables
abbrev pub is_strings_name : List ℕ → Bool
is_strings_name name = bytes_eq name (codes ".strtab") || bytes_eq name (codes ".shstrtab")

-- names of sections whose content no canonical file can hold: the source as bitcode, and types that .BTF goes on from
abbrev pub is_refused_name : List ℕ → Bool
is_refused_name name = bytes_eq name (codes ".llvm.lto") || bytes_eq name (codes ".BTF.base")

-- names that code and data can't have: sections of these names are written anew, dropped or refused
abbrev pub is_reserved : List ℕ → Bool
is_reserved name =
    is_unrelocated name || is_unread_table name || is_strings_name name || bytes_eq name (codes ".symtab")
    || bytes_eq name (codes ".llvm_addrsig") || is_refused_name name

-- the kind, if the section has what the kind requires
abbrev pub if_fits : Bool → Kind → Option Kind
if_fits fits kind = if fits then Some kind else None

-- code and data are copied
abbrev pub data_kind : List ℕ → ℕ → Option Kind
data_kind name flags = if_fits (not (is_reserved name) && not (is_compressed flags) && not (has_indices flags)) Data

-- a section of type SHT_PROGBITS
abbrev pub progbits_kind : List ℕ → ℕ → Option Kind
progbits_kind name flags =
    if is_debug name then if_fits (not (is_executable flags)) Dropped
    else if bytes_eq name (codes ".BTF") then if_fits (is_plain flags) Types
    else if bytes_eq name (codes ".BTF.ext") then if_fits (is_plain flags) Extension
    else data_kind name flags

-- data without bytes in the file: all loaders take it for zeros if its name begins with .bss
abbrev pub nobits_kind : List ℕ → ℕ → Option Kind
nobits_kind name flags = if begins name (codes ".bss") then data_kind name flags else None

-- a table of relocations is kept but for one that no loader reads
abbrev pub relocations_kind : List ℕ → ℕ → Option Kind
relocations_kind name flags =
    if_fits (begins name (codes ".rel") && is_plain flags) (if is_unread_table name then Dropped else Relocations)

-- the symbols, and tables that are dropped
abbrev pub table_kind : ℕ → List ℕ → ℕ → Option Kind
table_kind type name flags =
    if type == SHT_SYMTAB then if_fits (bytes_eq name (codes ".symtab") && is_plain flags) Symbols
    else if type == SHT_STRTAB then if_fits (is_strings_name name && is_plain flags) Dropped
    else if type == SHT_LLVM_ADDRSIG then if_fits (bytes_eq name (codes ".llvm_addrsig") && is_plain flags) Dropped
    else None

-- types of sections that loaders take for data, or take no notice of
abbrev pub is_like_data : ℕ → Bool
is_like_data type = type == SHT_NOTE || (type == SHT_INIT_ARRAY || type == SHT_FINI_ARRAY)

-- the kind of a section by its type, name and flags
unfoldable pub kind_of : ℕ → List ℕ → ℕ → Option Kind
kind_of type name flags =
    if type == SHT_PROGBITS then progbits_kind name flags
    else if type == SHT_NOBITS then nobits_kind name flags
    else if is_like_data type then data_kind name flags
    else if type == SHT_REL then relocations_kind name flags
    else table_kind type name flags

-- the kind is this one
abbrev pub is_kind : Kind → Option Kind → Bool
is_kind Data (Some Data) = true
is_kind Relocations (Some Relocations) = true
is_kind Symbols (Some Symbols) = true
is_kind Types (Some Types) = true
is_kind Extension (Some Extension) = true
is_kind Dropped (Some Dropped) = true
is_kind _ _ = false

-- kinds of which a file has at most one section
abbrev pub is_single : Option Kind → Bool
is_single kind = is_kind Symbols kind || is_kind Types kind || is_kind Extension kind
