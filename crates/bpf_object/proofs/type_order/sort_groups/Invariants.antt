-- The first groups are sorted and numbered.
use Rattle.std.proofs.Common.{length, ◌-◌, ◌≤◌}
use Rattle.bpf_object.specs.private.TypeSteps.{ids_in, HaveGroups, AreSortedTo}
use Rattle.bpf_object.proofs.type_order.sort_groups.Given as goal

abbrev pub invariant-loop-start : goal.invariant-loop-start
invariant-loop-start g l = record {
  groups : HaveGroups l.records.sections.now l.keys;
  sorted : AreSortedTo l.records.sections.now (ids_in l.keys) l.numbers l.start;
  within : l.start ≤ length l.keys;
}

abbrev pub decreases-loop-start : goal.decreases-loop-start
decreases-loop-start g l = length l.initial.keys - l.start
