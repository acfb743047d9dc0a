-- How a call that writes ends.
use Rattle.std.specs.Prelude.{◌≡◌, ℕ, List}
use Rattle.bpf_words.specs.declared.Order.{Order}
use Rattle.bpf_insn.specs.{declared.fault.SlotFault.SlotFault, Faults.IsInsnFault}
use Rattle.btf_raw.specs.declared.cause.BtfFault.{BtfFault}
use Rattle.btf_types.specs.Faults.{IsFirst}
use Rattle.bpfcanon_c.specs.declared.answer.{Answer.Answer, FaultCode.FaultCode}
use Rattle.bpfcanon_c.specs.declared.answer.Ending.{Ending, TheVariants.Written, TheVariants.First, TheVariants.Memory, TheVariants.Room}
use Rattle.bpfcanon_c.specs.declared.answer.Ending.TheVariants as ending
use Rattle.bpfcanon_c.specs.Answers.{answer_of, code_of_btf, code_of_slot, order_number, FillsBuffer}

-- The answer is that of an ending for which this holds. No two endings of a call have one answer.
pub record IsAnswerOf (Holds : Ending → Type 0) (a : Answer) : Type 0 where
  pub ending : Ending
  pub answers : a ≡ answer_of ending
  pub holds : Holds ending

abbrev pub IsNoOrder : ℕ → Type 0
IsNoOrder n = (o : Order) → n ≡ order_number o → ⊥

-- the numbers of the first fault of a BTF file
pub record IsBtfCode (bytes : List ℕ) (code : FaultCode) : Type 0 where
  pub fault : BtfFault
  pub first : IsFirst bytes fault
  pub numbers : code ≡ code_of_btf fault

-- the numbers of the fault of an instruction file
pub record IsInsnCode (o : Order) (bytes : List ℕ) (code : FaultCode) : Type 0 where
  pub fault : SlotFault
  pub first : IsInsnFault o bytes fault
  pub numbers : code ≡ code_of_slot fault

-- How a call ends that writes what `IsOutput` says, or reports what `IsFault` says. The buffer is unchanged unless bytes were written.
abbrev pub EndsOutput : (List ℕ → Type 0) → (FaultCode → Type 0) → List ℕ → List ℕ → Ending → Type 0
EndsOutput IsOutput IsFault old new (Written n) = (out : List ℕ) × (IsOutput out × FillsBuffer out old new (Written n))
EndsOutput IsOutput IsFault old new (Room n) = (out : List ℕ) × (IsOutput out × FillsBuffer out old new (Room n))
EndsOutput IsOutput IsFault old new (First code) = IsFault code × (new ≡ old)
EndsOutput IsOutput IsFault old new Memory = new ≡ old
EndsOutput IsOutput IsFault old new _ = ⊥

-- Likewise for a call with the number of a byte order.
abbrev pub EndsInOrder : ℕ → (Order → Ending → Type 0) → List ℕ → List ℕ → Ending → Type 0
EndsInOrder n Ends old new ending.Order = IsNoOrder n × (new ≡ old)
EndsInOrder n Ends old new e = (o : Order) × ((n ≡ order_number o) × Ends o e)
