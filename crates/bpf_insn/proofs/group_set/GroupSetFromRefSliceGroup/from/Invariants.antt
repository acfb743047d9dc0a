use Rattle.std.proofs.Common.{◌↔◌, IsTrue, take}
use Rattle.std.specs.List.{Any}
use Rattle.bpf_insn.specs.{declared.group.Group.Group, Groups.Brings, Groups.holds}
use Rattle.bpf_insn.proofs.group_set.GroupSetFromRefSliceGroup.from.Given as goal

abbrev pub invariant-loop-group : goal.invariant-loop-group
invariant-loop-group l = (g : Group) → IsTrue (holds l.set g) ↔ Any (λ h. Brings h g) (take l.group-index l.groups)
