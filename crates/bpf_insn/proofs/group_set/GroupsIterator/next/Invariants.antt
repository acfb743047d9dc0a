use Rattle.std.proofs.Common.{◌≡◌, filter, length}
use Rattle.bpf_insn.specs.Groups.{holds}
use Rattle.bpf_insn.proofs.group_set.GroupsIterator.next.Given as goal

-- only groups that aren't in the set were skipped
abbrev pub invariant-loop-group : goal.invariant-loop-group
invariant-loop-group l = filter (holds l.self-inside.set) l.self-inside.rest.now ≡ l.fn.self

abbrev pub decreases-loop-group : goal.decreases-loop-group
decreases-loop-group l = length l.self-inside.rest.now
