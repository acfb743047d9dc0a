use Rattle.std.proofs.Common.{◌≡◌, take}
use Rattle.std.specs.{List.flat_map, Io.KnownBytes.Appends}
use Rattle.bpfcanon.proofs.outcome.report_parts.Given as goal

abbrev pub invariant-loop-part : goal.invariant-loop-part
invariant-loop-part g l = record {
  took : Appends (g.E.ByteSink.contents l.initial.faults) (g.E.ByteSink.contents l.faults) (flat_map (λ p. p.now) (take l.part-index l.parts));
  healthy : g.E.ByteSink.failures l.faults ≡ g.E.ByteSink.failures l.initial.faults;
}
