-- The numbers and names of the causes of instruction faults, and a sentence for each.
use Rattle.std.specs.Prelude.{ℕ, List, codes}
use Rattle.bpf_insn.specs.declared.fault.SlotCause.{SlotCause}
use Rattle.bpf_insn.specs.declared.fault.SlotCause.TheVariants as cause

-- the number of each cause: the position of its field in the order of checking, after Truncated
abbrev pub slot_cause_number : SlotCause → ℕ
slot_cause_number cause.Truncated = 1
slot_cause_number cause.Opcode = 2
slot_cause_number cause.Dst = 3
slot_cause_number cause.Src = 4
slot_cause_number cause.Offset = 5
slot_cause_number cause.Imm = 6
slot_cause_number cause.Reserved = 7
slot_cause_number cause.NextImm = 8

-- the name of each cause
abbrev pub cause_name : SlotCause → List ℕ
cause_name cause.Truncated = codes "Truncated"
cause_name cause.Opcode = codes "Opcode"
cause_name cause.Dst = codes "Dst"
cause_name cause.Src = codes "Src"
cause_name cause.Offset = codes "Offset"
cause_name cause.Imm = codes "Imm"
cause_name cause.Reserved = codes "Reserved"
cause_name cause.NextImm = codes "NextImm"

-- one sentence for each cause
abbrev pub cause_sentence : SlotCause → List ℕ
cause_sentence cause.Truncated = codes "the input ends inside an instruction"
cause_sentence cause.Opcode = codes "no instruction has this opcode"
cause_sentence cause.Dst = codes "no instruction with this opcode has this destination register"
cause_sentence cause.Src = codes "no instruction with this opcode has this source register"
cause_sentence cause.Offset = codes "no instruction with this opcode and these registers has this offset"
cause_sentence cause.Imm = codes "no instruction with this opcode, these registers and this offset has this immediate"
cause_sentence cause.Reserved = codes "the second slot of a wide load has an opcode, a register or an offset that is not zero"
cause_sentence cause.NextImm = codes "the immediate of the second slot is not zero, and this kind of wide load has one number only"
