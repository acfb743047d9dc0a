-- The answers to C, and the numbers in them.
use Rattle.std.specs.Prelude.{◌≡◌, ◌<◌, ◌++◌, ℕ, Bool, true, false, List, Option, Some, None, Result, Ok, Err, length, drop}
use Rattle.bpf_words.specs.declared.Order.{Order, TheVariants.Little, TheVariants.Big}
use Rattle.bpf_insn.specs.declared.decode.InsnError.{InsnError}
use Rattle.bpf_insn.specs.declared.decode.InsnError.TheVariants as insn
use Rattle.bpf_insn.specs.{declared.fault.SlotFault.SlotFault, CauseNames.slot_cause_number}
use Rattle.btf_raw.specs.{declared.cause.BtfFault.BtfFault, Cause.number_of}
use Rattle.btf_types.specs.declared.error.BtfError.{BtfError}
use Rattle.btf_types.specs.declared.error.BtfError.TheVariants as btf
use Rattle.bpf_canon.specs.declared.engine.SideError.{SideError}
use Rattle.bpf_canon.specs.declared.engine.SideError.TheVariants as side
use Rattle.bpfcanon_c.specs.declared.answer.{Answer.Answer, Ending.Ending, FaultCode.FaultCode}
use Rattle.bpfcanon_c.specs.declared.answer.Ending.TheVariants.{Written, Types, Groups, Accepted, Same, Different, First, Second, Memory, Room}
use Rattle.bpfcanon_c.specs.declared.answer.Ending.TheVariants as ending

-- the answer that has only a status
abbrev pub bare_answer : ℕ → Answer
bare_answer s = record { status = s; cause = 0; pos = 0; line = 0; read = 0; written = 0; needed = 0; types = 0; groups = 0 }

abbrev pub fault_answer : ℕ → FaultCode → Answer
fault_answer s f = record { status = s; cause = f.cause; pos = f.pos; line = f.line; read = 0; written = 0; needed = 0; types = 0; groups = 0 }

abbrev pub answer_of : Ending → Answer
answer_of (Written n) = record { status = 0; cause = 0; pos = 0; line = 0; read = 0; written = n; needed = 0; types = 0; groups = 0 }
answer_of (Types n) = record { status = 0; cause = 0; pos = 0; line = 0; read = 0; written = 0; needed = 0; types = n; groups = 0 }
answer_of (Groups n) = record { status = 0; cause = 0; pos = 0; line = 0; read = 0; written = 0; needed = 0; types = 0; groups = n }
answer_of Accepted = bare_answer 0
answer_of Same = bare_answer 0
answer_of Different = bare_answer 1
answer_of (First f) = fault_answer 2 f
answer_of (Second f) = fault_answer 3 f
answer_of Memory = bare_answer 4
answer_of (Room n) = record { status = 5; cause = 0; pos = 0; line = 0; read = 0; written = 0; needed = n; types = 0; groups = 0 }
answer_of ending.Order = bare_answer 6

abbrev pub code_of_slot : SlotFault → FaultCode
code_of_slot f = record { cause = slot_cause_number f.cause; pos = f.pos; line = 0 }

abbrev pub code_of_btf : BtfFault → FaultCode
code_of_btf f = record { cause = number_of f.cause; pos = f.pos; line = 0 }

-- how a call ends with an error of one of the libraries: its fault is in the input
abbrev pub btf_end : BtfError → Ending
btf_end (btf.Fault f) = First (code_of_btf f)
btf_end btf.Memory = Memory

abbrev pub insn_end : InsnError → Ending
insn_end (insn.Fault f) = First (code_of_slot f)
insn_end insn.Memory = Memory

-- how a call ends by the result of a comparison; `Numbers` relates a fault to its numbers
abbrev pub EndsCompared : {F : Type 0} → (F → FaultCode → Type 0) → Result Bool (SideError F) → Ending → Type 0
EndsCompared Numbers (Ok true) ending = ending ≡ Same
EndsCompared Numbers (Ok false) ending = ending ≡ Different
EndsCompared Numbers (Err (side.First f)) ending = (code : FaultCode) × (Numbers f code × (ending ≡ First code))
EndsCompared Numbers (Err (side.Second f)) ending = (code : FaultCode) × (Numbers f code × (ending ≡ Second code))
EndsCompared Numbers (Err side.Memory) ending = ending ≡ Memory

abbrev pub order_number : Order → ℕ
order_number Little = 0
order_number Big = 1

-- the byte order of a number, or none if no byte order has it
abbrev pub names_order : ℕ → Option Order → Type 0
names_order n (Some o) = n ≡ order_number o
names_order n None = (o : Order) → n ≡ order_number o → ⊥

-- the buffer begins with the bytes, and the rest of it is unchanged; or the buffer is too short, and unchanged
abbrev pub FillsBuffer : List ℕ → List ℕ → List ℕ → Ending → Type 0
FillsBuffer bytes old new (Written n) = (n ≡ length bytes) × (new ≡ bytes ++ drop (length bytes) old)
FillsBuffer bytes old new (Room n) = (n ≡ length bytes) × ((length old < n) × (new ≡ old))
FillsBuffer bytes old new _ = ⊥
