use Rattle.std.proofs.Common.{◌-◌, length}
use Rattle.bpf_insn.specs.FileSteps.{ReadsTo}
use Rattle.bpf_insn.proofs.whole_insns.insn_front.Given as goal

abbrev pub invariant-loop-len : goal.invariant-loop-len
invariant-loop-len l = ReadsTo l.order l.bytes l.len l.count

abbrev pub decreases-loop-len : goal.decreases-loop-len
decreases-loop-len l = length l.bytes - l.len
