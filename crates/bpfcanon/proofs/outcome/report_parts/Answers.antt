use Rattle.std.proofs.Common.{arith, ◌∙◌, sym}
use Rattle.std.proofs.lemmas.List.{take_all}
use Rattle.bpfcanon.proofs.OutcomeLemmas.{took_part, took_whole}
use Rattle.bpfcanon.proofs.outcome.report_parts.Goals as goal

pub returns-then-is_err : goal.returns-then-is_err
returns-then-is_err g c =
    took_part _ _ _ _ _ _ c.args.parts.now c.loop-part.part-index _ c.put_all.result c.loop-part-test.true c.loop-part.invariant.took c.loop-part.invariant.healthy
    (sym c.is_err.ensures.value ∙ c.if-is_err.true) c.put_all.ensures.taken c.put_all.ensures.count

pub returns : goal.returns
returns g c = grind (arith, take_all, took_whole)
