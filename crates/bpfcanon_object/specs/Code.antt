-- What is reported of code: of each section of code the first offset where the bytes aren't an instruction, of RFC 9669 or a newer one, or else
-- the first instruction outside the target.
use Rattle.std.specs.Prelude.{◌≡◌, ◌++◌, ◌+◌, ◌/◌, ◌&&◌, if◌then◌else◌, ℕ, zero, suc, Bool, true, false, List, [], ◌∷◌, Option, Some, None, length, nat_lt}
use Rattle.bpf_words.specs.declared.Order.{Order}
use Rattle.bpf_elf.specs.declared.kinds.Kind.TheVariants.{Data}
use Rattle.bpf_elf.specs.{Kinds.has_flag, Kinds.is_kind, Numbers.flags, Numbers.order_of}
use Rattle.bpf_elf.specs.Sections.{content, kind, name}
use Rattle.bpf_object.specs.SourceLines.{Line, source_line}
use Rattle.bpf_insn.specs.{declared.fault.SlotFault.SlotFault, Faults.IsSlotFault}
use Rattle.bpfcanon_object.specs.{Formats.code_line, Formats.name_text, Items.IsFront, Items.Item, Items.code_of, Target.first_outside}
use Rattle.bpfcanon_object.specs.declared.finding.{Finding.Finding, Reason.TheVariants.Fault}
use Rattle.bpfcanon_object.specs.declared.target.Target.{Target}
use Rattle.bpfcanon_object.specs.declared.check.Format.{Format}

-- a section of code: SHF_EXECINSTR is 4
abbrev pub is_code : List ℕ → ℕ → Bool
is_code b i = is_kind Data (kind b i) && has_flag 4 (flags b i)

-- what is reported of these items and of what follows them: the fault of the rest, or the first item outside the target
abbrev pub IsEnd : Order → Option Target → List Item → List ℕ → Option Finding → Type 0
IsEnd order target items [] found = found ≡ first_outside order target 0 items
IsEnd order target items (x ∷ rest) found =
    (slot : SlotFault) × (IsSlotFault order (x ∷ rest) slot
    × (found ≡ Some (record { pos = length (code_of order items) + slot.pos; reason = Fault slot.cause })))

-- what is reported of bytes, if anything is: instructions, as many as they begin with, and what follows
abbrev pub IsFound : Order → Option Target → List ℕ → Option Finding → Type 0
IsFound order target bytes found =
    (items : List Item) × ((rest : List ℕ) × (IsFront order bytes items rest × IsEnd order target items rest found))

-- nothing is reported of what isn't code
abbrev pub IsFoundIf : Bool → Order → Option Target → List ℕ → Option Finding → Type 0
IsFoundIf true order target bytes found = IsFound order target bytes found
IsFoundIf false order target bytes found = found ≡ None

-- what is reported of a section, if anything is
abbrev pub IsFoundIn : Option Target → List ℕ → ℕ → Option Finding → Type 0
IsFoundIn target b i found = IsFoundIf (is_code b i) (order_of b) target (content b i) found

-- whether a source line has a number and a name. Those of a canonical file have neither
abbrev pub is_known : Line → Bool
is_known source = nat_lt 0 source.line && nat_lt 0 (length source.file)

-- a source line, if it has a number and a name
abbrev pub known : Option Line → Option Line
known None = None
known (Some source) = if is_known source then Some source else None

-- how often a source line is looked for in a file: each time all of it may be gone through, which is so done with 64 MiB, or one file
abbrev pub most_sources : List ℕ → ℕ
most_sources b = 1 + 67108864 / (1 + length b)

-- the source line for what is reported of a section, if it is looked for
abbrev pub source_if : Bool → List ℕ → ℕ → Finding → Option Line
source_if is_sought b i found = if is_sought then known (source_line b i found.pos) else None

-- the line for what is reported of a section, if anything is
abbrev pub line_if : Format → List ℕ → List ℕ → ℕ → Bool → Option Finding → List ℕ
line_if format file b i is_sought None = []
line_if format file b i is_sought (Some found) = code_line format file (name_text (name b i)) found (source_if is_sought b i found)

-- how many findings a section has
abbrev pub count_of : Option Finding → ℕ
count_of None = 0
count_of (Some found) = 1

-- the lines for the first n sections, of which so many have a finding. Source lines are looked for in the first most of them
abbrev pub AreCodeLines : Format → Option Target → List ℕ → ℕ → List ℕ → ℕ → ℕ → List ℕ → Type 0
AreCodeLines format target file most b zero seen lines = (seen ≡ 0) × (lines ≡ [])
AreCodeLines format target file most b (suc n) seen lines =
    (earlier : ℕ) × ((before : List ℕ) × ((found : Option Finding)
    × (AreCodeLines format target file most b n earlier before × (IsFoundIn target b n found
    × ((seen ≡ earlier + count_of found) × (lines ≡ before ++ line_if format file b n (nat_lt earlier most) found))))))
