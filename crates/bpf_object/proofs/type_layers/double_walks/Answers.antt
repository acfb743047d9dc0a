-- One more walk is doubled.
use Rattle.std.proofs.Common.{◌≡◌, ℕ, ◌+◌, ◌*◌, ◌<◌, List, length, below_more, inl, inr, sym, ap, subst, ◌∙◌, arith}
use Rattle.std.specs.Prelude.{min}
use Rattle.std.proofs.lemmas.Bool.{false≢true, cases_lt}
use Rattle.std.proofs.lemmas.List.{get_or_past}
use Rattle.bpf_object.specs.declared.type_layers.Walk.{Walk}
use Rattle.bpf_object.specs.private.TypeSteps.{IsWalk, walk_at, AreWalks}
use Rattle.bpf_object.proofs.LayerLemmas.{walk_ended, still_walks, more_doubled}
use Rattle.bpf_object.proofs.type_layers.double_walks.Goals as goal
use Rattle.bpf_object.proofs.type_layers.double_walks.Goals.{then-walk-ne0, else-walk-ne0}

pub loop-id-preserved : goal.loop-id-preserved
loop-id-preserved c =
    let s = c.args.sections.now in
    let walks = c.loop-id.walks in
    let id = c.loop-id.id in
    let before = c.loop-id.invariant in
    elim c.if-walk-ne0.branch [
      | then-walk-ne0 w ↦
          let more = w.joined.result in
          let inside : id < length walks = omega arith in
          let some : 0 < (walk_at walks id).to = omega (arith, w.if-walk-ne0.true) in
          let steps : more.steps ≡ min ((walk_at walks id).steps + (walk_at walks (walk_at walks id).to).steps) (length s.frames + 1) =
          omega (arith, w.joined.ensures.steps, ap (λ (walk : Walk). walk.steps) w.walk_at.ensures) in
          let to : more.to ≡ (walk_at walks (walk_at walks id).to).to = w.joined.ensures.to ∙ ap (λ (walk : Walk). walk.to) w.walk_at.ensures in
          record {
            walks = λ least are. subst (AreWalks s least) (sym w.walks-is) (still_walks s walks id more inside some steps to least (before.walks least are));
            doubled = λ least are.
                subst (λ (all : List Walk). (k : ℕ) → k < id + 1 → IsWalk s (least * 2) k (walk_at all k)) (sym w.walks-is)
                (more_doubled s walks id more inside some steps to least (before.walks least are) (before.doubled least are));
            ended = λ off. absurd (false≢true (sym off ∙ w.goes_on-is));
          }
      | else-walk-ne0 w ↦ record {
        walks = λ least are. subst (AreWalks s least) (sym w.walks-is) (before.walks least are);
        doubled = λ least are.
            subst (λ (all : List Walk). (k : ℕ) → k < id + 1 → IsWalk s (least * 2) k (walk_at all k)) (sym w.walks-is)
            (below_more _ _ (before.doubled least are) (walk_ended s least (least * 2) id (walk_at walks id) (before.walks least are id) w.if-walk-ne0.false));
        ended = λ off.
            subst (λ (all : List Walk). (k : ℕ) → k < id + 1 → (walk_at all k).to ≡ 0) (sym w.walks-is)
            (below_more _ _ (before.ended (sym w.goes_on-is ∙ off)) w.if-walk-ne0.false);
      }
    ]

pub returns-clause-walks : goal.returns-clause-walks
returns-clause-walks c = λ least are id. elim (cases_lt id c.loop-id.id) [
  | inl lt ↦ c.loop-id.invariant.doubled least are id lt
  | inr le ↦
      let none = get_or_past c.loop-id.walks id (record { steps = 0; to = 0 }) (omega (arith, le)) in
      walk_ended c.args.sections.now least (least * 2) id (walk_at c.loop-id.walks id) (c.loop-id.invariant.walks least are id) (ap (λ (walk : Walk). walk.to) none)
]
