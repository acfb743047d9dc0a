-- The complete instructions at the start of the bytes.
use Rattle.std.specs.Prelude.{◌≡◌, ◌≤◌, ℕ, List, [], Option, Some, None, length, drop}
use Rattle.bpf_words.specs.declared.Order.{Order}
use Rattle.bpf_insn.specs.declared.{insn.Insn.Insn, fault.SlotFault.SlotFault, whole_insns.InsnFront.InsnFront}
use Rattle.bpf_insn.specs.Faults.{IsFront, IsSlotFault}

-- no bytes are left, or this is their fault
abbrev pub StopsAt : Order → List ℕ → Option SlotFault → Type 0
StopsAt order left None = left ≡ []
StopsAt order left (Some fault) = IsSlotFault order left fault

-- the length and the number of the instructions in the longest sequence of encodings at the start of the bytes, and the fault of what follows
pub record IsInsnFront (order : Order) (bytes : List ℕ) (front : InsnFront) : Type 0 where
  pub insns : List Insn
  pub is : IsFront order bytes insns (drop front.len bytes)
  pub within : front.len ≤ length bytes
  pub counted : front.count ≡ length insns
  pub stops : StopsAt order (drop front.len bytes) front.stop
