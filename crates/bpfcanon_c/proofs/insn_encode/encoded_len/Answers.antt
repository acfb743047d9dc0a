-- One record more.
use Rattle.std.proofs.Common.{take, length-take-le, arith}
use Rattle.bpf_words.specs.declared.Order.{TheVariants.Little}
use Rattle.bpf_insn.proofs.FileLaws.{at_most_two}
use Rattle.bpfcanon_c.proofs.InsnWalk.{say_more, says_most}
use Rattle.bpfcanon_c.proofs.insn_encode.encoded_len.Goals as goal

pub overflow_add-total : goal.overflow_add-total
overflow_add-total c =
    let rows = c.args.rows.now in
    let k = c.loop-k.k in
    omega (arith, says_most (take k rows) c.loop-k.total c.loop-k.invariant, at_most_two Little c.in-Some.said.0, c.in-Some.ensures.2, length-take-le k rows (omega (arith, c.loop-k-test.true)))

pub loop-k-preserved : goal.loop-k-preserved
loop-k-preserved c =
    let said = c.in-Some.said in
    say_more c.args.rows.now c.loop-k.k _ c.loop-k.total said.0 said.1 c.loop-k-test.true c.loop-k.invariant c.in-Some.ensures.0 c.in-Some.ensures.1 c.in-Some.ensures.2
