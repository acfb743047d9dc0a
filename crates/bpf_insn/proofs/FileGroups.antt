-- One step of finding the groups of a file.
use Rattle.std.proofs.Common.{Bool, ℕ, ◌+◌, ◌-◌, ◌<◌, ◌≤◌, List, [], ◌∷◌, ◌++◌, length, IsTrue, refl, arith}
use Rattle.std.proofs.lemmas.List.Elements.{All-nil}
use Rattle.bpf_words.specs.declared.Order.{Order}
use Rattle.bpf_insn.specs.{Table.IsInsn, Faults.IsInsnFault, declared.insn.Insn.Insn, Groups.AreGroupsOf, Groups.Brings, Groups.group_of, Groups.holds}
use Rattle.bpf_insn.specs.FileSteps.{AddsInsnAt, AreSettled, HasGroupsBefore, IsFaultAt}
use Rattle.bpf_insn.proofs.DecodeLemmas as one
use Rattle.bpf_insn.proofs.GroupLemmas.{one_pushed}
use Rattle.bpf_insn.specs.declared.{fault.SlotFault.SlotFault, group.Group.Group, group.GroupSet.GroupSet}

-- the set has the groups of the instructions before an offset, and the marked opcodes are settled
pub record HasSettledGroups (order : Order) (bytes : List ℕ) (at : ℕ) (marks : List Bool) (set : GroupSet) : Type 0 where
  pub groups : HasGroupsBefore order bytes at set
  pub settled : AreSettled marks set

pub at_start : (order : Order) (bytes : List ℕ) (set : GroupSet) → ((g : Group) → ¬ IsTrue (holds set g)) → HasGroupsBefore order bytes 0 set
at_start order bytes set none = record {
  insns = [];
  encoded = (omega arith, All-nil IsInsn, refl, refl);
  groups = λ g. (λ t. absurd (none g t), λ a. absurd (omega (arith, a.2)));
}

pub step : (order : Order) (bytes : List ℕ) (at : ℕ) (before after : GroupSet) (len : ℕ) → HasGroupsBefore order bytes at before → AddsInsnAt order bytes at before after len
    → HasGroupsBefore order bytes (at + len) after
step order bytes at before after len h more = record {
  insns = h.insns ++ more.0 ∷ [];
  encoded = one.step order bytes h.insns at h.encoded more.0 len (more.1, more.2);
  groups = λ g. one_pushed (λ (i : Insn). Brings (group_of i) g) (holds before g) (holds after g) h.insns more.0 (h.groups g) (more.3 g);
}

pub moved_on : (order : Order) (bytes : List ℕ) (at : ℕ) (before after : GroupSet) (len : ℕ) → HasGroupsBefore order bytes at before → AddsInsnAt order bytes at before after len
    → length bytes - (at + len) < length bytes - at
moved_on order bytes at before after len h more = one.moved_on order bytes h.insns at h.encoded more.0 len (more.1, more.2)

pub fault_here : (order : Order) (bytes : List ℕ) (at : ℕ) (set : GroupSet) (fault : SlotFault) → HasGroupsBefore order bytes at set → at < length bytes
    → IsFaultAt order bytes at fault → IsInsnFault order bytes fault
fault_here order bytes at set fault h more f = one.fault_here order bytes h.insns at h.encoded f.0 fault more f.1 f.2

pub whole_file : (order : Order) (bytes : List ℕ) (at : ℕ) (set : GroupSet) → HasGroupsBefore order bytes at set → length bytes ≤ at → AreGroupsOf order bytes set
whole_file order bytes at set h done = (h.insns, one.whole_file order bytes h.insns at h.encoded done, h.groups)

-- the steps of groups_in
pub ruleset group_steps = (at_start, step, whole_file)
