-- The symbols of a file, and the rules on them (System V ABI, "Symbol Table").
use Rattle.std.specs.Prelude.{ℕ, ◌+◌, ◌*◌, ◌/◌, ◌%◌, ◌==◌, ◌||◌, ◌&&◌, not, nat_lt, nat_le, Bool, List, [], ◌∷◌, length, slice_index, codes}
use Rattle.bpf_elf.specs.declared.kinds.Kind.TheVariants.{Data, Symbols}
use Rattle.bpf_elf.specs.declared.fault.ElfCause.TheVariants as cause
use Rattle.bpf_elf.specs.Rules.{ElfRule, rule}
use Rattle.bpf_elf.specs.Numbers.{half, word, long, count, names, header_offset, type, flags, offset, size, link, entry_size}
use Rattle.bpf_elf.specs.Names.{string_at}
use Rattle.bpf_elf.specs.Kinds.{SHT_PROGBITS, begins, is_executable, is_kind}
use Rattle.bpf_elf.specs.Sections.{name as section_name, content, kind, section_of, is_string_table, is_zero_at}

-- special section indices: SHN_UNDEF, SHN_ABS and SHN_COMMON
abbrev pub SHN_ABS : ℕ
SHN_ABS = 0xfff1

abbrev pub SHN_COMMON : ℕ
SHN_COMMON = 0xfff2

-- the index is that of no section
abbrev pub is_special : ℕ → Bool
is_special section = section == 0 || section == SHN_ABS || section == SHN_COMMON

-- STB_LOCAL and STT_FILE: binding and type are the halves of st_info
abbrev pub is_local : ℕ → Bool
is_local info = info / 16 == 0

abbrev pub is_file : ℕ → Bool
is_file info = info % 16 == 4

-- the section that has the symbols, each of 24 bytes; 0 if there is none
abbrev pub symbols : List ℕ → ℕ
symbols b = section_of b Symbols (count b)

-- how many symbols there are, with the first one, which is zero
abbrev pub symbol_count : List ℕ → ℕ
symbol_count b = size b (symbols b) / 24

abbrev pub symbol_offset : List ℕ → ℕ → ℕ
symbol_offset b j = offset b (symbols b) + 24 * j

-- the bytes with the names of the symbols
abbrev pub symbol_strings : List ℕ → List ℕ
symbol_strings b = content b (link b (symbols b))

-- the names of the sections are in the same string table
abbrev pub has_one_string_table : List ℕ → Bool
has_one_string_table b = names b == link b (symbols b)

-- st_name, st_info, st_other, st_shndx, st_value and st_size
abbrev pub st_name : List ℕ → ℕ → ℕ
st_name b j = word b (symbol_offset b j)

abbrev pub st_info : List ℕ → ℕ → ℕ
st_info b j = slice_index b (symbol_offset b j + 4)

abbrev pub st_other : List ℕ → ℕ → ℕ
st_other b j = slice_index b (symbol_offset b j + 5)

abbrev pub st_shndx : List ℕ → ℕ → ℕ
st_shndx b j = half b (symbol_offset b j + 6)

abbrev pub st_value : List ℕ → ℕ → ℕ
st_value b j = long b (symbol_offset b j + 8)

abbrev pub st_size : List ℕ → ℕ → ℕ
st_size b j = long b (symbol_offset b j + 16)

-- the name of a symbol
abbrev pub symbol_name : List ℕ → ℕ → List ℕ
symbol_name b j = string_at (symbol_strings b) (st_name b j)

-- a section of code or data
abbrev pub is_data : List ℕ → ℕ → Bool
is_data b i = is_kind Data (kind b i)

-- the name of a source file: it is local, and in no section
abbrev pub is_file_name : ℕ → ℕ → Bool
is_file_name info section = is_local info && (is_file info && section == SHN_ABS)

-- a symbol is in code or data or in no section, and isn't the name of a source file
abbrev pub is_loadable : List ℕ → ℕ → ℕ → Bool
is_loadable b info section = (is_special section || is_data b section) && not (is_file_name info section)

-- a section has code in which loaders look for no variables and no maps, by its type, name and flags
abbrev pub is_code : ℕ → List ℕ → ℕ → Bool
is_code type name flags =
    type == SHT_PROGBITS
    && (is_executable flags && (begins name (codes ".text") || not (begins name (codes ".") || begins name (codes "maps"))))

-- a label of the compiler in code, by st_info, st_other and its name: it is local, has no type, and begins with LBB
abbrev pub is_label_name : ℕ → ℕ → List ℕ → Bool
is_label_name info other name = info == 0 && (other == 0 && begins name (codes "LBB"))

-- a symbol is a label, by st_info, st_other, st_shndx and its name
abbrev pub is_label_of : List ℕ → ℕ → ℕ → ℕ → List ℕ → Bool
is_label_of b info other section name =
    is_label_name info other name
    && (not (is_special section) && is_code (type b section) (section_name b section) (flags b section))

-- the symbol with this index is a label
abbrev pub is_label : List ℕ → ℕ → Bool
is_label b j = is_label_of b (st_info b j) (st_other b j) (st_shndx b j) (symbol_name b j)

-- a canonical file has the symbol with this index
abbrev pub is_kept_symbol : List ℕ → ℕ → Bool
is_kept_symbol b j = is_loadable b (st_info b j) (st_shndx b j) && not (is_label b j)

-- STT_SECTION
abbrev pub is_section_type : ℕ → Bool
is_section_type info = info % 16 == 3

-- STT_NOTYPE, STT_SECTION or STT_FILE
abbrev pub has_unread_type : ℕ → Bool
has_unread_type info = info % 16 == 0 || (is_section_type info || is_file info)

-- no loader reads the symbol if its section is dropped, by st_info, st_other, st_value and its name: it has no type but these or no
-- name, is visible everywhere, and that of a section is at its start
abbrev pub is_unread : ℕ → ℕ → ℕ → List ℕ → Bool
is_unread info other value name =
    other == 0 && ((has_unread_type info || length name == 0) && not (is_section_type info && not (value == 0)))

-- the symbol with this index is in code, in data or in no section, or can be dropped
abbrev pub is_droppable : List ℕ → ℕ → Bool
is_droppable b j =
    is_loadable b (st_info b j) (st_shndx b j) || is_unread (st_info b j) (st_other b j) (st_value b j) (symbol_name b j)

-- the section index is special or that of a section; a symbol that isn't local is in code or data
abbrev pub has_section : List ℕ → ℕ → ℕ → Bool
has_section b info section = is_special section || (nat_lt section (count b) && (is_local info || is_data b section))

-- a symbol of code or data is inside it
abbrev pub is_within : List ℕ → ℕ → ℕ → ℕ → Bool
is_within b section value size_of = is_special section || (not (is_data b section) || nat_le (value + size_of) (size b section))

-- the symbols have names, and the first one is zero
abbrev pub first_symbol_rules : List ℕ → List ElfRule
first_symbol_rules b =
    rule cause.SymbolNames (header_offset b (symbols b) + 40) (nat_lt (link b (symbols b)) (count b) && is_string_table b (link b (symbols b)))
    ∷ rule cause.FirstSymbol (offset b (symbols b)) (is_zero_at b (offset b (symbols b)) 24)
    ∷ []

-- the symbol table is whole
abbrev pub symbol_form_rules : List ℕ → List ElfRule
symbol_form_rules b =
    rule cause.SymbolTableSize (header_offset b (symbols b) + 32) (nat_le 24 (size b (symbols b)) && size b (symbols b) % 24 == 0)
    ∷ rule cause.SymbolEntrySize (header_offset b (symbols b) + 56) (entry_size b (symbols b) == 24)
    ∷ first_symbol_rules b

-- there is a symbol table
abbrev pub symbol_table_rules : List ℕ → List ElfRule
symbol_table_rules b = rule cause.NoSymbols 40 (nat_lt 0 (symbols b)) ∷ symbol_form_rules b

-- a symbol has a name and a section, is inside it, and is one that no loader reads if it is dropped
abbrev pub symbol_rules : List ℕ → ℕ → List ElfRule
symbol_rules b j =
    rule cause.SymbolName (symbol_offset b j) (nat_lt (st_name b j) (length (symbol_strings b)))
    ∷ rule cause.SymbolSection (symbol_offset b j + 6) (has_section b (st_info b j) (st_shndx b j))
    ∷ rule cause.SymbolPlace (symbol_offset b j + 8) (is_within b (st_shndx b j) (st_value b j) (st_size b j))
    ∷ rule cause.SymbolDropped (symbol_offset b j) (is_droppable b j)
    ∷ []
