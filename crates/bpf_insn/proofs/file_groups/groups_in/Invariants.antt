use Rattle.std.proofs.Common.{◌-◌, length}
use Rattle.bpf_insn.proofs.FileGroups.{HasSettledGroups}
use Rattle.bpf_insn.proofs.file_groups.groups_in.Given as goal

abbrev pub invariant-loop-pos : goal.invariant-loop-pos
invariant-loop-pos l = HasSettledGroups l.order l.bytes l.pos l.found.settled l.found.set

abbrev pub decreases-loop-pos : goal.decreases-loop-pos
decreases-loop-pos l = length l.bytes - l.pos
