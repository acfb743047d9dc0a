use Rattle.bpfcanon_c.specs.InsnSteps.{DecodesTo}
use Rattle.bpfcanon_c.proofs.insn_decode.put_rows.Given as goal

abbrev pub invariant-loop-k : goal.invariant-loop-k
invariant-loop-k l = DecodesTo l.order l.bytes l.k l.pos l.out
