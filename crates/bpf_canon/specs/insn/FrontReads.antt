-- The result of reading the complete instructions at the start of a buffer.
use Rattle.std.specs.Prelude.{◌≡◌, ◌≤◌, ◌+◌, ◌-◌, ◌++◌, ℕ, List, [], Option, Some, None, length, drop}
use Rattle.bpf_words.specs.declared.Order.{Order}
use Rattle.bpf_insn.specs.declared.{insn.Insn.Insn, whole_insns.InsnFront.InsnFront, fault.SlotFault.SlotFault, fault.SlotCause.TheVariants.Truncated}
use Rattle.bpf_insn.specs.{Fronts.StopsAt, Encoding.file_of, Faults.BeginsWith, Faults.IsFront, Faults.IsSlotFault, Faults.moved_by}
use Rattle.bpf_canon.specs.insn.FeedState.{FeedState, IsCut}

-- the bytes don't begin with an instruction
abbrev pub BeginsNone : Order → List ℕ → Type 0
BeginsNone o s = (i : Insn) → BeginsWith o i s → ⊥

-- the instructions at the start of the bytes were read, and were appended in the order `to`
pub record ReadsFront (o to : Order) (bytes : List ℕ) (read : InsnFront) (old new : List ℕ) : Type 0 where
  pub insns : List Insn
  pub front : IsFront o bytes insns (drop read.len bytes)
  pub stops : StopsAt o (drop read.len bytes) read.stop
  pub counted : read.count ≡ length insns
  pub within : read.len ≤ length bytes
  pub grows : new ≡ old ++ file_of to insns

-- what is held, and which fault is kept, by the rest of a stream after `fed` bytes
abbrev pub Leaves : Order → ℕ → List ℕ → List ℕ → Option SlotFault → Type 0
Leaves o fed left held None = (held ≡ left) × IsCut o left
Leaves o fed left held (Some f) = (held ≡ []) × ((e : SlotFault) × (IsSlotFault o left e × ((e.cause ≡ Truncated → ⊥) × (f ≡ moved_by (fed - length left) e))))

-- a feed without a fault has read the complete instructions of its held bytes and the piece
pub record Advances (s t : FeedState) (piece old new : List ℕ) : Type 0 where
  pub reads : t.order ≡ s.order
  pub writes : t.to ≡ s.to
  pub fed : t.fed ≡ s.fed + length piece
  pub gained : List Insn
  pub left : List ℕ
  pub front : IsFront s.order (s.held ++ piece) gained left
  pub counted : t.count ≡ s.count + length gained
  pub grows : new ≡ old ++ file_of s.to gained
  pub leaves : Leaves s.order t.fed left t.held t.fault
