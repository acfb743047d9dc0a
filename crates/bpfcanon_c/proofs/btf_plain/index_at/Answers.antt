-- One record more.
use Rattle.std.proofs.Common.{arith}
use Rattle.bpfcanon_c.specs.BtfRows.{bare_type}
use Rattle.bpfcanon_c.proofs.BtfPlans.{sizes_are, index_here, index_last}
use Rattle.bpfcanon_c.proofs.btf_plain.index_at.Goals as goal

pub returns-then-left-len : goal.returns-then-left-len
returns-then-left-len c =
    index_here c.args.types.now c.loop-k.k c.loop-k.left c.args.pos (bare_type 0) c.loop-k-test.true c.loop-k.invariant (omega (arith, c.record_len-len.ensures.is))

pub loop-k-preserved : goal.loop-k-preserved
loop-k-preserved c = omega (arith, sizes_are c.args.types.now c.loop-k.k (bare_type 0) c.loop-k-test.true, c.loop-k.invariant)

pub returns : goal.returns
returns c = index_last c.args.types.now c.loop-k.k c.loop-k.left c.args.pos _ (omega arith) c.loop-k.invariant (omega arith)
