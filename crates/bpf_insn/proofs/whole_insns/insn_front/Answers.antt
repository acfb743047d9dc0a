use Rattle.std.proofs.Common.{arith}
use Rattle.bpf_insn.proofs.FileLaws.{at_least_a_slot}
use Rattle.bpf_insn.proofs.FrontSteps.{count_below, reads_other_and_plain}
use Rattle.bpf_insn.proofs.whole_insns.insn_front.Goals as goal

pub overflow_add-count-in-Ok : goal.overflow_add-count-in-Ok
overflow_add-count-in-Ok c =
    let found = c.in-Ok.ensures.found in
    let read = reads_other_and_plain _ _ _ _ _ _ _ c.loop-len.invariant found.1 c.plain_len-plain.ensures in
    omega (arith, read.encoded.0, count_below _ _ _ _ read)

pub loop-len-preserved : goal.loop-len-preserved
loop-len-preserved c =
    reads_other_and_plain _ _ _ _ _ _ _ c.loop-len.invariant c.in-Ok.ensures.found.1 c.plain_len-plain.ensures

pub loop-len-smaller : goal.loop-len-smaller
loop-len-smaller c =
    let found = c.in-Ok.ensures.found in
    omega (arith, found.1.1, at_least_a_slot c.args.order found.0, c.loop-len-test.true)
