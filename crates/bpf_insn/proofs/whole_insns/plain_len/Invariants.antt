use Rattle.std.proofs.Common.{◌-◌, ◌/◌, length}
use Rattle.bpf_insn.specs.FileSteps.{ReadsTo}
use Rattle.bpf_insn.proofs.whole_insns.plain_len.Given as goal

abbrev pub invariant-slots : goal.invariant-slots
invariant-slots l = ReadsTo l.order l.bytes l.len (l.len / 8)

abbrev pub decreases-slots : goal.decreases-slots
decreases-slots l = length l.bytes - l.len
