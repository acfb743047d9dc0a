use Rattle.std.proofs.Common.{◌≡◌, ◌∙◌, ◌++◌, List, [], ◌∷◌, ap, refl, sym}
use Rattle.bpfcanon_object.specs.{Items.latest, Items.need_of, Linux.later}
use Rattle.bpfcanon_object.proofs.ItemLemmas.{ends, latest-push, moved_on, none_before, smaller}
use Rattle.bpfcanon_object.proofs.items.latest_in.Goals as goal

pub loop-pos-init : goal.loop-pos-init
loop-pos-init c = ([], (none_before _ _, refl))

pub loop-pos-smaller : goal.loop-pos-smaller
loop-pos-smaller c =
    let found = c.in-Ok.ensures.found in
    smaller _ _ _ c.loop-pos.invariant.0 c.loop-pos.invariant.1.0 found.0 _ found.1.0 found.1.1.1

pub loop-pos-preserved : goal.loop-pos-preserved
loop-pos-preserved c =
    let so_far = c.loop-pos.invariant in
    let found = c.in-Ok.ensures.found in (
      so_far.0 ++ found.0 ∷ [],
      (
        moved_on _ _ _ so_far.0 so_far.1.0 found.0 _ found.1.0 found.1.1.1,
        c.later-latest.ensures ∙ ap (λ a. later a c.in-Ok.read.0.addition) so_far.1.1
            ∙ ap (λ need. later (latest c.args.before so_far.0) need.addition) found.1.1.0
            ∙ sym (latest-push c.args.before so_far.0 found.0),
      ),
    )

pub returns : goal.returns
returns c = (c.loop-pos.invariant.0, ([], (ends _ _ _ c.loop-pos.invariant.0 c.loop-pos.invariant.1.0 c.loop-pos-test.false, c.loop-pos.invariant.1.1)))
