-- One more walk is there, and past the last record there is none.
use Rattle.std.proofs.Common.{◌+◌, ◌<◌, List, ℕ, inl, inr, sym, subst, arith}
use Rattle.std.proofs.lemmas.Bool.{cases_lt}
use Rattle.bpf_object.specs.declared.type_layers.Walk.{Walk}
use Rattle.bpf_object.specs.private.TypeSteps.{IsWalk, walk_at}
use Rattle.bpf_object.proofs.LayerLemmas.{walks_pushed, walk_out}
use Rattle.bpf_object.proofs.type_layers.first_walks.Goals as goal

pub loop-id-preserved : goal.loop-id-preserved
loop-id-preserved g c = record {
  size = omega (arith, c.in_ok-push.ensures.len);
  each =
      subst (λ (walks : List Walk). (k : ℕ) → k < c.loop-id.id + 1 → IsWalk c.args.sections.now 1 k (walk_at walks k)) (sym c.in_ok-push.ensures.items)
      (walks_pushed c.args.sections.now 1 c.loop-id.walks.items c.loop-id.id c.first_walk.result c.loop-id.invariant.size c.loop-id.invariant.each c.first_walk.ensures);
}

pub returns : goal.returns
returns g c = λ id. elim (cases_lt id c.loop-id.id) [
  | inl lt ↦ c.loop-id.invariant.each id lt
  | inr le ↦ walk_out c.args.sections.now 1 c.loop-id.walks.items id (omega arith) (omega (arith, le))
]
