-- One type more.
use Rattle.std.proofs.Common.{ap, arith, ◌+◌, ℕ}
use Rattle.bpfcanon_c.specs.BtfRows.{bare_type}
use Rattle.bpfcanon_c.proofs.BtfPlans.{types_more, too_long, unwritten}
use Rattle.bpfcanon_c.proofs.btf_plain.make_plan.Goals as goal

pub loop-k-preserved : goal.loop-k-preserved
loop-k-preserved c =
    types_more c.args.strings.now c.args.items.now c.loop-k.names c.in-Ok.more c.loop-k.types_len (c.loop-k.types_len + c.record_len-types_len.result) c.args.types.now c.loop-k.k (bare_type 0)
    c.loop-k-test.true c.loop-k.invariant c.in-Ok.ensures (ap (λ (n : ℕ). c.loop-k.types_len + n) c.record_len-types_len.ensures.is) c.if-types_len-gt-TYPES_LIMIT.false

pub returns-then-types_len-gt-TYPES_LIMIT : goal.returns-then-types_len-gt-TYPES_LIMIT
returns-then-types_len-gt-TYPES_LIMIT c =
    too_long c.args.strings.now c.args.items.now c.loop-k.names c.in-Ok.more c.loop-k.types_len c.args.types.now c.loop-k.k (bare_type 0)
    c.loop-k-test.true c.loop-k.invariant c.in-Ok.ensures (omega (arith, c.record_len-types_len.ensures.is))

pub returns-in-Err : goal.returns-in-Err
returns-in-Err c =
    unwritten c.args.strings.now c.args.items.now c.loop-k.names c.loop-k.types_len c.args.types.now c.loop-k.k (bare_type 0) c.in-Err.cause c.loop-k-test.true c.loop-k.invariant c.in-Err.ensures
