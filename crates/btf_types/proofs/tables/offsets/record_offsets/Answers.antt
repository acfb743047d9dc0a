use Rattle.std.proofs.{Common.arith}
use Rattle.btf_types.proofs.CheckLemmas.FramingSteps.{framed_more}
use Rattle.btf_types.proofs.tables.offsets.record_offsets.Goals as goal

pub loop-pos-preserved : goal.loop-pos-preserved
loop-pos-preserved g c =
    rw c.in_ok-push.ensures.items
    (framed_more c.args.order c.args.types.now c.loop-pos.offsets.items c.loop-pos.pos c.in_ok-head.head (λ i. omega (arith, c.type_inv.types i)) c.loop-pos.invariant c.in_ok-head.ensures.cases)
