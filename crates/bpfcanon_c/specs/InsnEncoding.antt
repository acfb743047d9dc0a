-- Instructions from records: what a record says, and what the call that encodes records returns to C.
use Rattle.std.specs.Prelude.{◌≡◌, ◌≤◌, ◌*◌, ℕ, Some, List, ◌<◌, All, length, take, slice_get}
use Rattle.std.specs.List.{AllZip}
use Rattle.bpf_words.specs.declared.Order.{Order}
use Rattle.bpf_insn.specs.{declared.insn.Insn.Insn, Table.IsInsn, Encoding.InsnFile}
use Rattle.bpfcanon_c.specs.declared.insn_rows.InsnRow.{InsnRow}
use Rattle.bpfcanon_c.specs.declared.answer.{Answer.Answer, Ending.Ending, Ending.TheVariants.Memory, FaultCode.FaultCode}
use Rattle.bpfcanon_c.specs.Outputs.{EndsInOrder, EndsOutput, IsAnswerOf}
use Rattle.bpfcanon_c.specs.InsnRows.{form_row}

-- the parts of two records that a record of an instruction has: all but its length, group, offset and spare field
pub record SameParts (a b : InsnRow) : Type 0 where
  pub form : a.form ≡ b.form
  pub op : a.op ≡ b.op
  pub bits : a.bits ≡ b.bits
  pub from : a.from ≡ b.from
  pub dst : a.dst ≡ b.dst
  pub src : a.src ≡ b.src
  pub by_reg : a.by_reg ≡ b.by_reg

pub record SameNumbers (a b : InsnRow) : Type 0 where
  pub off : a.off ≡ b.off
  pub imm : a.imm ≡ b.imm
  pub next_imm : a.next_imm ≡ b.next_imm

-- the record says the instruction, whatever length, group, offset and spare field it has
pub record SaysInsn (row : InsnRow) (i : Insn) : Type 0 where
  pub parts : SameParts row (form_row i)
  pub numbers : SameNumbers row (form_row i)

-- ---- what the call that encodes records returns

-- this is the first record that says no instruction
pub record IsNoInsnAt (rows : List InsnRow) (k : ℕ) : Type 0 where
  pub inside : k < length rows
  pub insns : List Insn
  pub before : AllZip SaysInsn (take k rows) insns
  pub each : All IsInsn insns
  pub none : (row : InsnRow) → slice_get rows k ≡ Some row → (i : Insn) → IsInsn i → ¬ SaysInsn row i

-- the file of the instructions that the records say: a buffer of 16 bytes for each is long enough
pub record IsEncoded (to : Order) (rows : List InsnRow) (out : List ℕ) : Type 0 where
  pub insns : List Insn
  pub says : AllZip SaysInsn rows insns
  pub file : InsnFile to out insns
  pub fits : length out ≤ 16 * length rows

-- the numbers of that fault: its position is the index of the record
pub record IsNoInsn (rows : List InsnRow) (code : FaultCode) : Type 0 where
  pub at : IsNoInsnAt rows code.pos
  pub rest : (code.cause ≡ 0) × (code.line ≡ 0)

-- how the call ends in a byte order; it never runs out of memory
abbrev pub EndsEncodeIn : Order → List InsnRow → List ℕ → List ℕ → Ending → Type 0
EndsEncodeIn to rows old new Memory = ⊥
EndsEncodeIn to rows old new e = EndsOutput (IsEncoded to rows) (IsNoInsn rows) old new e

abbrev pub EndsEncode : ℕ → List InsnRow → List ℕ → List ℕ → Ending → Type 0
EndsEncode n rows old new = EndsInOrder n (λ to. EndsEncodeIn to rows old new) old new

-- what the call that encodes records returns: the answer of one of its endings
abbrev pub AnswersEncode : ℕ → List InsnRow → List ℕ → List ℕ → Answer → Type 0
AnswersEncode n rows old new = IsAnswerOf (EndsEncode n rows old new)
