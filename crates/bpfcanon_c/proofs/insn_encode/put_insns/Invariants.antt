use Rattle.bpfcanon_c.specs.InsnSteps.{EncodesTo}
use Rattle.bpfcanon_c.proofs.insn_encode.put_insns.Given as goal

abbrev pub invariant-loop-k : goal.invariant-loop-k
invariant-loop-k l = EncodesTo l.to l.rows l.k l.at l.out
