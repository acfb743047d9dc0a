-- The walks that go on have as many steps; each round takes less than is left.
use Rattle.std.proofs.Common.{◌+◌, ◌-◌, ◌<◌, length}
use Rattle.bpf_object.specs.private.TypeSteps.{AreWalks}
use Rattle.bpf_object.proofs.type_layers.end_walks.Given as goal

abbrev pub invariant-loop-least : goal.invariant-loop-least
invariant-loop-least l = record {
  some : 0 < l.least;
  walks : AreWalks l.sections l.least l.walks;
}

abbrev pub decreases-loop-least : goal.decreases-loop-least
decreases-loop-least l = length l.sections.frames + 1 - l.least
