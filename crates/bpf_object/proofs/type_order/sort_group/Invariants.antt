-- The first keys of the group are those by the new numbers.
use Rattle.std.proofs.Common.{◌≡◌, take}
use Rattle.std.specs.List.{All}
use Rattle.bpf_object.specs.private.TypeSteps.{ids_in, numbered, IsKey}
use Rattle.bpf_object.proofs.type_order.sort_group.Given as goal

abbrev pub invariant-loop-key : goal.invariant-loop-key
invariant-loop-key g l = record {
  ids : ids_in l.group ≡ ids_in l.initial.group;
  keys : All (IsKey l.records.sections.now l.records.names (numbered l.numbers)) (take l.key-index l.group);
}
