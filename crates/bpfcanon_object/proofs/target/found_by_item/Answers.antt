use Rattle.std.proofs.Common.{◌≡◌, ◌∙◌, ◌+◌, ◌++◌, List, [], ◌∷◌, ap, arith, length, refl, sym}
use Rattle.bpfcanon_object.specs.{Items.code_of, Items.need_of, Target.first_of, Target.first_outside, Target.outside_at}
use Rattle.bpfcanon_object.proofs.ItemLemmas.{moved_on, none_before, smaller}
use Rattle.bpfcanon_object.proofs.TargetLemmas.{found_at_end, found_at_fault, outside-push}
use Rattle.bpfcanon_object.proofs.target.found_by_item.Goals as goal

pub loop-pos-init : goal.loop-pos-init
loop-pos-init c = ([], (none_before _ _, refl))

pub loop-pos-smaller : goal.loop-pos-smaller
loop-pos-smaller c =
    let found = c.in-Ok.ensures.found in
    smaller _ _ _ c.loop-pos.invariant.0 c.loop-pos.invariant.1.0 found.0 _ found.1.0 found.1.1.1

pub loop-pos-preserved : goal.loop-pos-preserved
loop-pos-preserved c =
    let so_far = c.loop-pos.invariant in
    let found = c.in-Ok.ensures.found in
    let at : c.loop-pos.pos ≡ 0 + length (code_of c.args.order so_far.0) = omega (arith, so_far.1.0.at_offset) in (
      so_far.0 ++ found.0 ∷ [],
      (
        moved_on _ _ _ so_far.0 so_far.1.0 found.0 _ found.1.0 found.1.1.1,
        c.first_of-outside.ensures ∙ ap (first_of c.loop-pos.outside) c.outside_at.ensures
            ∙ ap (λ o. first_of o (outside_at c.args.target c.loop-pos.pos c.in-Ok.read.0)) so_far.1.1
            ∙ ap (λ need. first_of (first_outside c.args.order c.args.target 0 so_far.0) (outside_at c.args.target c.loop-pos.pos need)) found.1.1.0
            ∙ ap (λ n. first_of (first_outside c.args.order c.args.target 0 so_far.0) (outside_at c.args.target n (need_of found.0))) at
            ∙ sym (outside-push c.args.order c.args.target 0 so_far.0 found.0),
      ),
    )

pub returns : goal.returns
returns c = found_at_end _ _ _ _ c.loop-pos.invariant.0 c.loop-pos.invariant.1.0 _ c.loop-pos-test.false c.loop-pos.invariant.1.1

pub returns-in-Err : goal.returns-in-Err
returns-in-Err c =
    rw c.moved_by-fault.ensures
    (found_at_fault _ _ _ _ c.loop-pos.invariant.0 c.loop-pos.invariant.1.0 c.in-Err.fault c.loop-pos-test.true c.in-Err.ensures.fault c.in-Err.ensures.none)
