-- The first names are there, and their ends are known.
use Rattle.std.proofs.Common.{◌≡◌, take}
use Rattle.std.specs.List.{All}
use Rattle.bpf_object.specs.private.NameRanks.{HasEnd, starts}
use Rattle.bpf_object.proofs.name_ranks.distinct_names.Given as goal

abbrev pub invariant-loop-off : goal.invariant-loop-off
invariant-loop-off g l = record {
  last : HasEnd l.strings l.last;
  each : All (HasEnd l.strings) l.names.items;
  begin : starts l.names.items ≡ take l.off-index l.off-items;
}
