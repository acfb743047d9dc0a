-- Walks that go on are doubled; if none goes on, all have ended.
use Rattle.std.proofs.Common.{arith}
use Rattle.bpf_object.proofs.LayerLemmas.{walk_ended}
use Rattle.bpf_object.proofs.type_layers.end_walks.Goals as goal

pub returns-then-not-double_walks : goal.returns-then-not-double_walks
returns-then-not-double_walks c = λ id.
    walk_ended c.args.sections.now _ _ id _ (c.double_walks.ensures.walks c.loop-least.least c.loop-least.invariant.walks id)
    (c.double_walks.ensures.ended c.if-not-double_walks.true id)

pub loop-least-preserved : goal.loop-least-preserved
loop-least-preserved c = record {
  some = omega arith;
  walks = c.double_walks.ensures.walks c.loop-least.least c.loop-least.invariant.walks;
}
