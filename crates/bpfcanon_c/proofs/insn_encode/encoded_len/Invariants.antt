use Rattle.std.proofs.Common.{take}
use Rattle.bpfcanon_c.specs.InsnSteps.{SayInsns}
use Rattle.bpfcanon_c.proofs.insn_encode.encoded_len.Given as goal

abbrev pub invariant-loop-k : goal.invariant-loop-k
invariant-loop-k l = SayInsns (take l.k l.rows) l.total
