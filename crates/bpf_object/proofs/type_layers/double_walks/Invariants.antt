-- The first walks are doubled, and the others are as they were at least.
use Rattle.std.proofs.Common.{◌≡◌, ℕ, ◌*◌, ◌<◌, false}
use Rattle.bpf_object.specs.private.TypeSteps.{IsWalk, walk_at, AreWalks}
use Rattle.bpf_object.proofs.type_layers.double_walks.Given as goal

abbrev pub invariant-loop-id : goal.invariant-loop-id
invariant-loop-id l = record {
  walks : (least : ℕ) → AreWalks l.sections least l.fn.walks → AreWalks l.sections least l.walks;
  doubled : (least : ℕ) → AreWalks l.sections least l.fn.walks → (k : ℕ) → k < l.id → IsWalk l.sections (least * 2) k (walk_at l.walks k);
  ended : l.goes_on ≡ false → (k : ℕ) → k < l.id → (walk_at l.walks k).to ≡ 0;
}
