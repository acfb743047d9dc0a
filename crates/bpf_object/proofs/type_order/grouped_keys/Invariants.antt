-- The first records have keys.
use Rattle.std.proofs.Common.{◌≡◌}
use Rattle.std.specs.List.{range_with_len}
use Rattle.bpf_object.specs.private.TypeSteps.{ids_in, HaveGroups}
use Rattle.bpf_object.proofs.type_order.grouped_keys.Given as goal

abbrev pub invariant-loop-index : goal.invariant-loop-index
invariant-loop-index g l = record {
  ids : ids_in l.keys.items ≡ range_with_len 1 l.index;
  groups : HaveGroups l.records.sections.now l.keys.items;
}
