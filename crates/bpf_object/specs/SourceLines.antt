-- The source line that .BTF.ext gives an instruction (Linux Documentation/bpf/btf.rst, "4.2 .BTF.ext section", struct bpf_line_info).
use Rattle.std.specs.Prelude.{ℕ, zero, suc, ◌+◌, ◌/◌, ◌%◌, nat_lt, nat_le, Bool, List, length, Option, Some, None, option_and_then, if◌then◌else◌}
use Rattle.std.specs.{List.find, Str.bytes_eq}
use Rattle.bpf_words.specs.Words.{word32_at}
use Rattle.btf_raw.specs.Header.{part, strings_at}
use Rattle.bpf_elf.specs.Names.{string_at}
use Rattle.bpf_elf.specs.Numbers.{order_of, count}
use Rattle.bpf_elf.specs.Sections.{content, name}
use Rattle.bpf_object.specs.declared.extension.Part.{Part, TheVariants.Lines}
use Rattle.bpf_object.specs.declared.source_lines.SourceLine.{SourceLine}
use Rattle.bpf_object.specs.Denotes.{types_at, extension_of}
use Rattle.bpf_object.specs.Extension.{Section, word, group_count, groups, record_offset}
use Rattle.bpf_object.specs.Lines.{name_of, insn_off}

-- the strings of .BTF of a file: its header has str_off, and str_len at offset 20
abbrev pub types_strings : List ℕ → List ℕ
types_strings b =
    let types = content b (types_at b) in
    part types (strings_at (order_of b) types) (word32_at (order_of b) types 20)

-- .BTF.ext of a file with these strings; it is empty if there is none
abbrev pub extension : List ℕ → Section
extension b = extension_of b (types_strings b)

-- a line of a source file, and a column of it
pub record Line : Type 0 where
  pub file : List ℕ
  pub line : ℕ
  pub column : ℕ

-- a record has insn_off, file_name_off, line_off and line_col, of 4 bytes each
abbrev pub file_name_off : Section → ℕ → ℕ → ℕ
file_name_off x g k = word x (record_offset Lines g k + 4)

abbrev pub line_col : Section → ℕ → ℕ → ℕ
line_col x g k = word x (record_offset Lines g k + 12)

-- the line of a record, if file_name_off is inside the strings: line_col has the number of the line above its 10 lowest bits, and the column in them
abbrev pub line_at : Section → ℕ → ℕ → Option Line
line_at x g k =
    if nat_lt (file_name_off x g k) (length x.strings)
    then Some (record { file = string_at x.strings (file_name_off x g k); line = line_col x g k / 1024; column = line_col x g k % 1024 })
    else None

-- the group of a section: the first one with its name
abbrev pub group_of : Section → Part → List ℕ → Option ℕ
group_of x p name = find (λ g. bytes_eq (name_of x g) name) (groups x p)

-- the last of the first n numbers that pass a test
abbrev pub last_of : ℕ → (ℕ → Bool) → Option ℕ
last_of zero test = None
last_of (suc n) test = if test n then Some n else last_of n test

-- the record of an offset: the last one of a group whose insn_off isn't greater
abbrev pub record_of : Section → ℕ → ℕ → Option ℕ
record_of x off g = last_of (group_count x g) (λ k. nat_le (insn_off x Lines g k) off)

-- the group of a section of a file
abbrev pub group_in : List ℕ → Part → ℕ → Option ℕ
group_in b p i = if nat_lt i (count b) then group_of (extension b) p (name b i) else None

-- the line of an offset in a group
abbrev pub line_in : Section → ℕ → ℕ → Option Line
line_in x off g = option_and_then (line_at x g) (record_of x off g)

-- the line of an offset in a section of a file
abbrev pub source_line : List ℕ → ℕ → ℕ → Option Line
source_line b i off = option_and_then (line_in (extension b) off) (group_in b Lines i)

-- the value of a line
abbrev pub line_value : SourceLine → Line
line_value line = record { file = line.file.now; line = line.line; column = line.column }
