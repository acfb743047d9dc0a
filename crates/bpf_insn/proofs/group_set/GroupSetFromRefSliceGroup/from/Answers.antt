use Rattle.std.proofs.Common.{rules}
use Rattle.bpf_insn.specs.{declared.group.Group.Group, Groups.Brings}
use Rattle.bpf_insn.proofs.GroupLemmas.{one_more, all_seen}
use Rattle.bpf_insn.proofs.group_set.GroupSetFromRefSliceGroup.from.Goals as goal

pub loop-group-preserved : goal.loop-group-preserved
loop-group-preserved c =
    λ g. one_more (λ (h : Group). Brings h g) _ _ c.args.groups.now c.loop-group.group-index _ c.loop-group-test.true (search rules) (c.loop-group.invariant g) (c.add.ensures g)

pub returns : goal.returns
returns c = λ g. all_seen (λ (h : Group). Brings h g) _ _ _ c.loop-group-test.false (c.loop-group.invariant g)
