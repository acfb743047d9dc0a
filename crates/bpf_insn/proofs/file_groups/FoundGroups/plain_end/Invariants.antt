use Rattle.std.proofs.Common.{◌-◌, ◌≤◌, length}
use Rattle.bpf_insn.specs.FileSteps.{HasGroupsBefore}
use Rattle.bpf_insn.proofs.file_groups.FoundGroups.plain_end.Given as goal

abbrev pub invariant-loop-end : goal.invariant-loop-end
invariant-loop-end l = record { forward : l.pos ≤ l.end; groups : HasGroupsBefore l.order l.bytes l.end l.self.set }

abbrev pub decreases-loop-end : goal.decreases-loop-end
decreases-loop-end l = length l.bytes - l.end
