use Rattle.std.proofs.Common.{refl}
use Rattle.bpf_insn.proofs.FrontSteps.{reads_plain_more}
use Rattle.bpf_insn.proofs.whole_insns.plain_len.Goals as goal

pub slots-preserved : goal.slots-preserved
slots-preserved c =
    let one = c.begins_plainly.ensures c.slots-test.true in
    reads_plain_more _ _ _ _ c.slots.invariant one.0 one.1 refl
