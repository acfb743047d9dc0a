use Rattle.std.proofs.Common.{◌≤◌, ◌-◌}
use Rattle.bpf_object.specs.Extension.{part_end, part_len, groups_from}
use Rattle.bpf_object.specs.Sources.{section}
use Rattle.bpf_object.proofs.GroupLemmas.{Left}
use Rattle.bpf_object.proofs.group_checks.check_from.Given as goal

abbrev pub invariant-loop-x : goal.invariant-loop-x
invariant-loop-x l =
    Left l.x l.part (groups_from (section l.x) l.part (part_len (section l.x) l.part) l.first) l.group × (l.group ≤ part_end (section l.x) l.part)

abbrev pub decreases-loop-x : goal.decreases-loop-x
decreases-loop-x l = part_end (section l.x) l.part - l.group
