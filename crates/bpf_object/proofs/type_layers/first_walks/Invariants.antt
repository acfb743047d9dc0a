-- The first walks are there.
use Rattle.std.proofs.Common.{◌≡◌, ℕ, ◌<◌, length}
use Rattle.bpf_object.specs.private.TypeSteps.{IsWalk, walk_at}
use Rattle.bpf_object.proofs.type_layers.first_walks.Given as goal

abbrev pub invariant-loop-id : goal.invariant-loop-id
invariant-loop-id g l = record {
  size : length l.walks.items ≡ l.id;
  each : (k : ℕ) → k < l.id → IsWalk l.sections 1 k (walk_at l.walks.items k);
}
