-- The canonical file of an object.
use Rattle.std.specs.Prelude.{ℕ, suc, ◌+◌, ◌*◌, ◌^◌, ◌==◌, ◌&&◌, not, Bool, List, [], ◌∷◌, ◌++◌, Option, Some, None, length, map, codes, slice_index_or, if◌then◌else◌}
use Rattle.std.specs.List.{flat_map}
use Rattle.bpf_words.specs.{declared.Order.Order, Words.word16, Words.word32}
use Rattle.btf_raw.specs.{Header.header, Frames.section_of}
use Rattle.btf_types.specs.{Names.kept, Names.names, Names.table_of, Names.offset_within, Values.TypeRecord}
use Rattle.bpf_elf.specs.Kinds.{SHT_PROGBITS, SHT_SYMTAB, SHT_STRTAB, SHT_REL}
use Rattle.bpf_elf.specs.Symbols.{is_local}
use Rattle.bpf_canon.specs.btf.CanonicalBtf.{record_words}
use Rattle.bpf_object.specs.File.{WrittenSection, no_section, word64, file_of}
use Rattle.bpf_object.specs.Objects.{KeptRelocation, KeptSection, KeptSymbol, Function, CoreRelocation, Group, ObjectTypes, Object}

-- a string table without shared bytes: each string once, in the order of first use
abbrev pub strings_of : List (List ℕ) → List ℕ
strings_of xs = table_of (kept xs)

-- the offset of a string in it: the empty one is at 0
abbrev pub offset_of : List (List ℕ) → List ℕ → ℕ
offset_of xs [] = 0
offset_of xs (c ∷ cs) = offset_within (kept xs) (c ∷ cs)

-- ---- .BTF.ext

-- the strings of a group of functions, and of a group of CO-RE relocations
abbrev pub function_strings : Group Function → List (List ℕ)
function_strings g = g.section ∷ []

abbrev pub relocation_strings : Group CoreRelocation → List (List ℕ)
relocation_strings g = g.section ∷ map (λ r. r.access) g.records

abbrev pub extension_strings : ObjectTypes → List (List ℕ)
extension_strings t = flat_map function_strings t.functions ++ flat_map relocation_strings t.relocations

-- the strings of .BTF: the names of the types, and then those of .BTF.ext
abbrev pub types_strings : ObjectTypes → List (List ℕ)
types_strings t = names t.records ++ extension_strings t

-- a group is the name of its section, the number of its records, and the records
abbrev pub group_bytes : {R : Type 0} → Order → (List ℕ → ℕ) → (R → List ℕ) → Group R → List ℕ
group_bytes o new_offset bytes g = word32 o (new_offset g.section) ++ word32 o (length g.records) ++ flat_map bytes g.records

-- a part is the size of its records, and its groups; it is empty if it has none
abbrev pub part_bytes : {R : Type 0} → Order → ℕ → (Group R → List ℕ) → List (Group R) → List ℕ
part_bytes o size bytes [] = []
part_bytes o size bytes (g ∷ gs) = word32 o size ++ flat_map bytes (g ∷ gs)

abbrev pub function_bytes : Order → Function → List ℕ
function_bytes o f = word32 o f.offset ++ word32 o f.type

-- the line of a function is that of no source
abbrev pub line_bytes : Order → Function → List ℕ
line_bytes o f = word32 o f.offset ++ word32 o 0 ++ word32 o 0 ++ word32 o 0

abbrev pub relocation_bytes : Order → (List ℕ → ℕ) → CoreRelocation → List ℕ
relocation_bytes o new_offset r = word32 o r.offset ++ word32 o r.type ++ word32 o (new_offset r.access) ++ word32 o r.kind

abbrev pub functions_part : Order → (List ℕ → ℕ) → ObjectTypes → List ℕ
functions_part o new_offset t = part_bytes o 8 (group_bytes o new_offset (function_bytes o)) t.functions

abbrev pub lines_part : Order → (List ℕ → ℕ) → ObjectTypes → List ℕ
lines_part o new_offset t = part_bytes o 16 (group_bytes o new_offset (line_bytes o)) t.functions

abbrev pub relocations_part : Order → (List ℕ → ℕ) → ObjectTypes → List ℕ
relocations_part o new_offset t = part_bytes o 16 (group_bytes o new_offset (relocation_bytes o new_offset)) t.relocations

-- the header: magic, version 1, flags 0, hdr_len, and the offset and length of each part, from the end of the header
abbrev pub extension_header : Order → ℕ → ℕ → ℕ → List ℕ
extension_header o functions lines relocations =
    word16 o 0xeb9f ++ (1 ∷ 0 ∷ []) ++ word32 o 32 ++ (word32 o 0 ++ word32 o functions) ++ (word32 o functions ++ word32 o lines)
    ++ (word32 o (functions + lines) ++ word32 o relocations)

-- the header and the parts
abbrev pub extension_of : Order → List ℕ → List ℕ → List ℕ → List ℕ
extension_of o functions lines relocations =
    extension_header o (length functions) (length lines) (length relocations) ++ (functions ++ lines ++ relocations)

abbrev pub extension_bytes : Order → (List ℕ → ℕ) → ObjectTypes → List ℕ
extension_bytes o new_offset t = extension_of o (functions_part o new_offset t) (lines_part o new_offset t) (relocations_part o new_offset t)

-- there is a .BTF.ext if it has functions or CO-RE relocations
abbrev pub has_extension : ObjectTypes → Bool
has_extension t = not (length t.functions == 0 && length t.relocations == 0)

-- ---- .BTF

-- the records, with the offsets of their names
abbrev pub types_bytes : Order → (List ℕ → ℕ) → List TypeRecord → List ℕ
types_bytes o new_offset v = section_of o (map (record_words new_offset) v)

-- the header, the records and the strings
abbrev pub btf_of : Order → List ℕ → List ℕ → List ℕ
btf_of o types strings = header o 24 0 (length types) (length types) (length strings) ++ types ++ strings

abbrev pub btf_bytes : Order → ObjectTypes → List ℕ
btf_bytes o t = btf_of o (types_bytes o (offset_of (types_strings t)) t.records) (strings_of (types_strings t))

-- ---- names, symbols and sections

-- the names of the sections that are written anew
abbrev pub types_names : Option ObjectTypes → List (List ℕ)
types_names None = []
types_names (Some t) = codes ".BTF" ∷ (if has_extension t then codes ".BTF.ext" ∷ [] else [])

-- the strings of .strtab: the names of the sections, and then those of the symbols
abbrev pub file_strings : Object → List (List ℕ)
file_strings x =
    map (λ s. s.name) x.sections ++ types_names x.types ++ (codes ".symtab" ∷ codes ".strtab" ∷ []) ++ map (λ s. s.name) x.symbols

abbrev pub symbol_bytes : Order → (List ℕ → ℕ) → KeptSymbol → List ℕ
symbol_bytes o new_offset s =
    word32 o (new_offset s.name) ++ (s.info ∷ s.other ∷ []) ++ word16 o s.section ++ word64 o s.value ++ word64 o s.size

abbrev pub row_bytes : Order → KeptRelocation → List ℕ
row_bytes o r = word64 o r.offset ++ word64 o (r.type + 2 ^ 32 * r.symbol)

-- 1 + the number of the last local symbol: the symbols from there on are global
abbrev pub first_global : List KeptSymbol → ℕ
first_global [] = 0
first_global (s ∷ ss) = if first_global ss == 0 then (if is_local s.info then 1 else 0) else suc (first_global ss)

-- a section that is kept; link is the number of .symtab
abbrev pub written_section : Order → (List ℕ → ℕ) → ℕ → KeptSection → WrittenSection
written_section o new_offset link s = record {
  name_offset = new_offset s.name;
  type = s.type;
  flags = s.flags;
  address = s.address;
  size = s.size;
  link = if s.type == SHT_REL then link else 0;
  info = s.target;
  alignment = s.alignment;
  entry_size = s.entry_size;
  content = s.content ++ flat_map (row_bytes o) s.relocations;
}

-- a section that is written anew
abbrev pub own_section : ℕ → ℕ → List ℕ → ℕ → ℕ → ℕ → ℕ → WrittenSection
own_section name type content link info alignment entry_size = record {
  name_offset = name;
  type = type;
  flags = 0;
  address = 0;
  size = length content;
  link = link;
  info = info;
  alignment = alignment;
  entry_size = entry_size;
  content = content;
}

-- .BTF, and .BTF.ext if there is one
abbrev pub types_sections : Order → (List ℕ → ℕ) → Option ObjectTypes → List WrittenSection
types_sections o new_offset None = []
types_sections o new_offset (Some t) =
    own_section (new_offset (codes ".BTF")) SHT_PROGBITS (btf_bytes o t) 0 0 4 0
    ∷ (if has_extension t then own_section (new_offset (codes ".BTF.ext")) SHT_PROGBITS (extension_bytes o (offset_of (types_strings t)) t) 0 0 4 0 ∷ [] else [])

-- the number of .symtab: it follows the kept sections and those with the types
abbrev pub symtab_number : Object → ℕ
symtab_number x = 1 + length x.sections + length (types_names x.types)

-- the symbols, and the strings
abbrev pub last_sections : Object → List WrittenSection
last_sections x =
    own_section (offset_of (file_strings x) (codes ".symtab")) SHT_SYMTAB (flat_map (symbol_bytes x.order (offset_of (file_strings x))) x.symbols)
    (symtab_number x + 1) (first_global x.symbols) 8 24
    ∷ own_section (offset_of (file_strings x) (codes ".strtab")) SHT_STRTAB (strings_of (file_strings x)) 0 0 1 0 ∷ []

-- all sections
abbrev pub written_sections : Object → List WrittenSection
written_sections x =
    map (written_section x.order (offset_of (file_strings x)) (symtab_number x)) x.sections
    ++ (types_sections x.order (offset_of (file_strings x)) x.types ++ last_sections x)

-- the canonical file
unfoldable pub canonical : Object → List ℕ
canonical x = file_of x.order x.flags (λ k. slice_index_or (written_sections x) k no_section) (length (written_sections x))
