-- What the call that decodes instructions returns to C.
use Rattle.std.specs.Prelude.{◌≡◌, ◌<◌, ◌≤◌, ◌*◌, ◌++◌, ℕ, List, length, drop}
use Rattle.bpf_words.specs.declared.Order.{Order}
use Rattle.bpf_insn.specs.{declared.insn.Insn.Insn, Encoding.InsnFile}
use Rattle.bpfcanon_c.specs.declared.answer.{Answer.Answer, Ending.Ending, FaultCode.FaultCode}
use Rattle.bpfcanon_c.specs.declared.answer.Ending.TheVariants.{Written, First, Room}
use Rattle.bpfcanon_c.specs.declared.answer.Ending.TheVariants as ending
use Rattle.bpfcanon_c.specs.declared.insn_rows.InsnRow.{InsnRow}
use Rattle.bpfcanon_c.specs.{Answers.order_number, Outputs.IsAnswerOf, Outputs.IsNoOrder, Outputs.IsInsnCode, InsnRows.rows_from}

-- the buffer begins with the records, and the rest of it is unchanged; or the buffer is too short, and unchanged
abbrev pub FillsRows : {Row : Type 0} → List Row → List Row → List Row → Ending → Type 0
FillsRows rows old new (Written n) = (n ≡ length rows) × (new ≡ rows ++ drop (length rows) old)
FillsRows rows old new (Room n) = (n ≡ length rows) × ((length old < n) × (new ≡ old))
FillsRows rows old new _ = ⊥

-- how a call ends that writes the records that `IsOutput` describes, or reports what `IsFault` says; it never runs out of memory
abbrev pub EndsRows : {Row : Type 0} → (List Row → Type 0) → (FaultCode → Type 0) → List Row → List Row → Ending → Type 0
EndsRows {Row} IsOutput IsFault old new (Written n) = (rows : List Row) × (IsOutput rows × FillsRows rows old new (Written n))
EndsRows {Row} IsOutput IsFault old new (Room n) = (rows : List Row) × (IsOutput rows × FillsRows rows old new (Room n))
EndsRows IsOutput IsFault old new (First code) = IsFault code × (new ≡ old)
EndsRows IsOutput IsFault old new _ = ⊥

-- the records of the instructions of a file: a buffer of one record for each 8 bytes is long enough
pub record IsDecoded (o : Order) (bytes : List ℕ) (rows : List InsnRow) : Type 0 where
  pub insns : List Insn
  pub file : InsnFile o bytes insns
  pub form : rows ≡ rows_from o 0 insns
  pub fits : 8 * length rows ≤ length bytes

abbrev pub EndsDecode : ℕ → List ℕ → List InsnRow → List InsnRow → Ending → Type 0
EndsDecode n bytes old new ending.Order = IsNoOrder n × (new ≡ old)
EndsDecode n bytes old new e = (o : Order) × ((n ≡ order_number o) × EndsRows (IsDecoded o bytes) (IsInsnCode o bytes) old new e)

-- what the call that decodes instructions returns: the answer of one of its endings
abbrev pub AnswersDecode : ℕ → List ℕ → List InsnRow → List InsnRow → Answer → Type 0
AnswersDecode n bytes old new = IsAnswerOf (EndsDecode n bytes old new)
