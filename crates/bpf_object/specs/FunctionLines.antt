-- The rule on the symbols of functions and the source lines of .BTF.ext: compilers give a function a record and lines, or neither.
use Rattle.std.specs.Prelude.{ℕ, ◌+◌, ◌%◌, ◌==◌, ◌||◌, ◌&&◌, not, nat_lt, nat_le, Bool, true, List, [], ◌∷◌, Option, Some, None}
use Rattle.std.specs.{List.find, Str.bytes_eq}
use Rattle.bpf_elf.specs.{Rules.rule, Rules.each, Sections.name}
use Rattle.bpf_elf.specs.Symbols.{symbol_count, symbol_offset, st_info, st_shndx, st_value, st_size, is_special, is_kept_symbol}
use Rattle.bpf_object.specs.declared.{extension.Part.Part, pairs.Pair.Pair}
use Rattle.bpf_object.specs.declared.extension.Part.TheVariants.{Functions}
use Rattle.bpf_object.specs.declared.fault.ObjectCause.TheVariants as cause
use Rattle.bpf_object.specs.Extension.{Section, group_count, groups}
use Rattle.bpf_object.specs.Faults.{ObjectRule}
use Rattle.bpf_object.specs.Lines.{name_of, insn_off, any_of, lines_part, has_record}

-- STT_FUNC
abbrev pub is_function : ℕ → Bool
is_function info = info % 16 == 2

-- a symbol is that of a function in code or data, and is kept
abbrev pub is_function_symbol : List ℕ → ℕ → Bool
is_function_symbol b j = is_function (st_info b j) && (not (is_special (st_shndx b j)) && is_kept_symbol b j)

-- groups of functions and of lines, by their places in the sequence
abbrev pub pairs_of : List ℕ → List ℕ → List Pair
pairs_of (f ∷ fs) (l ∷ ls) = record { functions = f; lines = l } ∷ pairs_of fs ls
pairs_of fs ls = []

-- those of .BTF.ext
abbrev pub group_pairs : Section → List Pair
group_pairs x = pairs_of (groups x Functions) (groups x (lines_part x))

-- the first pair whose functions are of the section with a name
abbrev pub pair_in : Section → List Pair → List ℕ → Option Pair
pair_in x pairs name = find (λ pair. bytes_eq (name_of x pair.functions) name) pairs

-- a record of a group has an offset from one to below another
abbrev pub has_record_within : Section → Part → ℕ → ℕ → ℕ → Bool
has_record_within x p g from to = any_of (group_count x g) (λ k. nat_le from (insn_off x p g k) && nat_lt (insn_off x p g k) to)

-- a function has a record at its offset, or no line in its bytes; the lines are a group of a part
abbrev pub is_recorded : Section → Part → Pair → ℕ → ℕ → Bool
is_recorded x p pair value size = has_record x Functions pair.functions value || not (has_record_within x p pair.lines value (value + size))

-- likewise of a function in the section with a name, if .BTF.ext has functions of that section
abbrev pub keeps_lines : Section → List ℕ → ℕ → ℕ → Bool
keeps_lines x name value size =
    elim (pair_in x (group_pairs x) name) [ None ↦ true | Some pair ↦ is_recorded x (lines_part x) pair value size ]

-- st_value is at offset 8 of a symbol
abbrev pub function_rules : List ℕ → Section → ℕ → List ObjectRule
function_rules b x j =
    rule cause.FunctionLines (symbol_offset b j + 8)
    (not (is_function_symbol b j) || keeps_lines x (name b (st_shndx b j)) (st_value b j) (st_size b j)) ∷ []

-- those on all symbols
abbrev pub functions_rules : List ℕ → Section → List ObjectRule
functions_rules b x = each (symbol_count b) (function_rules b x)
