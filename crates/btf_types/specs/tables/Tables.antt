-- What an error of a parser says of the file.
use Rattle.std.specs.Prelude.{ℕ, ◌+◌, ◌^◌, ◌<◌, ◌≤◌, List, Result, Ok, Err, ⊤}
use Rattle.btf_types.specs.declared.error.BtfError.{BtfError}
use Rattle.btf_types.specs.declared.error.BtfError.TheVariants as errors
use Rattle.bpf_words.specs.declared.Order.{Order}
use Rattle.btf_raw.specs.{Cause.LeastByOffset, Cause.moved_by, Frames.FramingFault}
use Rattle.btf_types.specs.{Faults.IsFirst, Reading.frames_at, checks.FieldFaults.FieldFault}

-- what an error of a parser says: its fault is the first of the file; nothing if memory ran out
abbrev pub Fails : List ℕ → BtfError → Type 0
Fails b (errors.Fault fault) = IsFirst b fault
Fails b errors.Memory = ⊤

-- Likewise for the framing of a section.
abbrev pub FailsFraming : Order → List ℕ → BtfError → Type 0
FailsFraming o types (errors.Fault fault) = LeastByOffset (FramingFault o types) fault.pos fault.cause
FailsFraming o types errors.Memory = ⊤

-- Likewise for the fields of its records.
abbrev pub FailsFields : Order → List ℕ → List ℕ → List ℕ → BtfError → Type 0
FailsFields o types strings offsets (errors.Fault fault) = LeastByOffset (FieldFault strings (frames_at o types offsets)) fault.pos fault.cause
FailsFields o types strings offsets errors.Memory = ⊤

-- the error, with the offset of its fault increased by base
abbrev pub moved : ℕ → BtfError → BtfError
moved base (errors.Fault fault) = errors.Fault (moved_by base fault)
moved base errors.Memory = errors.Memory

-- the offset of a fault, so increased, is below 2 ^ 64
abbrev pub MayMove : ℕ → BtfError → Type 0
MayMove base (errors.Fault fault) = fault.pos + base < 2 ^ 64
MayMove base errors.Memory = ⊤

-- the offset of a fault is at most this number
abbrev pub FaultInside : {X : Type 0} → ℕ → Result X BtfError → Type 0
FaultInside len (Ok x) = ⊤
FaultInside len (Err (errors.Fault fault)) = fault.pos ≤ len
FaultInside len (Err errors.Memory) = ⊤
