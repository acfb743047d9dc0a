-- The results of reading the fields of an instruction from its operands.
use Rattle.std.specs.Prelude.{◌≡◌, ◌≢◌, ◌^◌, ◌<◌, ℕ, ℤ, pos, List, map, Result, Ok, Err}
use Rattle.std.specs.List.{AllZip}
use Rattle.bpf_insn.specs.declared.insn.{Reg.Reg, Insn.Insn, Operand.Operand}
use Rattle.bpf_insn.specs.Table.{IsOffset, IsImm, IsOperand, IsInsn}
use Rattle.bpf_text.specs.declared.insn.fault.LineCause.{LineCause, TheVariants.Shape, TheVariants.Range}
use Rattle.bpf_text.specs.declared.insn.mnemonic.Mnemonic.{Mnemonic}
use Rattle.bpf_text.specs.declared.insn.mnemonic.Mnemonic.TheVariants.{Neg, Swap, Jump, JumpLong, Branch, CallHelper, CallLocal, Exit, Wide, PacketAbs}
use Rattle.bpf_text.specs.declared.insn.mnemonic.WideKind.TheVariants as kind
use Rattle.bpf_text.specs.declared.insn.read_operand.ReadOperand.{ReadOperand}
use Rattle.bpf_text.specs.insn.Operands.{LineOperand, register, number, signed, memory, operand_kind}
use Rattle.bpf_text.specs.insn.{Table.source_operand, Table.operands_of, Mnemonics.mnemonic_of, Numbers.IsReadAs}

-- the operand, however its sign is written
abbrev pub plain : LineOperand → LineOperand
plain (register r) = register r
plain (number z) = number z
plain (signed z) = number z
plain (memory r z) = memory r z

-- one field of an instruction: its valid values, and the operand that each is written as
pub record Field (X : Type 0) : Type 1 where
  pub valid : X → Type 0
  pub written : X → LineOperand

abbrev pub register_field : Field Reg
register_field = record { valid = λ r. Unit {0}; written = register }

abbrev pub imm_field : Field ℤ
imm_field = record { valid = IsImm; written = number }

abbrev pub offset_field : Field ℤ
offset_field = record { valid = IsOffset; written = number }

abbrev pub imm64_field : Field ℕ
imm64_field = record { valid = λ n. n < 2 ^ 64; written = λ n. number (pos n) }

abbrev pub source_field : Field Operand
source_field = record { valid = IsOperand; written = source_operand }

abbrev pub address_field : Field (Reg × ℤ)
address_field = record { valid = λ x. IsOffset x.1; written = λ x. memory x.0 x.1 }

-- the result for one field
abbrev pub ReadsField : {X : Type 0} → Field X → LineOperand → Result X LineCause → Type 0
ReadsField field a (Ok x) = field.valid x × (plain a ≡ field.written x)
ReadsField {X} field a (Err Shape) = (x : X) → operand_kind a ≢ operand_kind (field.written x)
ReadsField {X} field a (Err Range) = ((x : X) × (operand_kind a ≡ operand_kind (field.written x))) × ((x : X) → field.valid x → plain a ≢ field.written x)
ReadsField field a (Err _) = ⊥

-- the result for an instruction with this mnemonic
abbrev pub ReadsInsn : Mnemonic → List LineOperand → Result Insn LineCause → Type 0
ReadsInsn m spelled (Ok i) = IsInsn i × (mnemonic_of i ≡ m) × (map plain spelled ≡ map plain (operands_of i))
ReadsInsn m spelled (Err Shape) = (i : Insn) → mnemonic_of i ≡ m → map operand_kind spelled ≢ map operand_kind (operands_of i)
ReadsInsn m spelled (Err Range) =
    ((i : Insn) × (mnemonic_of i ≡ m) × (map operand_kind spelled ≡ map operand_kind (operands_of i)))
    × ((i : Insn) → IsInsn i → mnemonic_of i ≡ m → map plain spelled ≢ map plain (operands_of i))
ReadsInsn m spelled (Err _) = ⊥

-- the result for an operand that was read, whichever written operand it represents
abbrev pub FieldIsRead : {X : Type 0} → Field X → ReadOperand → Result X LineCause → Type 0
FieldIsRead field operand result = (a : LineOperand) → IsReadAs operand a → ReadsField field a result

abbrev pub InsnIsRead : Mnemonic → List ReadOperand → Result Insn LineCause → Type 0
InsnIsRead m operands result = (spelled : List LineOperand) → AllZip IsReadAs operands spelled → ReadsInsn m spelled result

-- both of two results; a wrong shape is reported rather than a number out of range
abbrev pub both_read : {X Y : Type 0} → Result X LineCause → Result Y LineCause → Result (X × Y) LineCause
both_read (Ok x) (Ok y) = Ok (x, y)
both_read (Ok x) (Err cause) = Err cause
both_read (Err Range) (Err Shape) = Err Shape
both_read (Err Range) _ = Err Range
both_read (Err cause) _ = Err cause

abbrev pub BothRead : {X Y : Type 0} → Result X LineCause → Result Y LineCause → Result (X × Y) LineCause → Type 0
BothRead first second result = result ≡ both_read first second

-- the number of operands of a mnemonic
abbrev pub operand_count : Mnemonic → ℕ
operand_count Exit = 0
operand_count (Neg width) = 1
operand_count (Swap k bits) = 1
operand_count Jump = 1
operand_count JumpLong = 1
operand_count CallHelper = 1
operand_count CallLocal = 1
operand_count (PacketAbs z) = 1
operand_count (Branch width op) = 3
operand_count (Wide kind.MapValueFd) = 3
operand_count (Wide kind.VarAddr) = 3
operand_count (Wide kind.MapValueIdx) = 3
operand_count _ = 2
