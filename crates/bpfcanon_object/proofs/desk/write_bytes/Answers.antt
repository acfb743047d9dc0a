use Rattle.std.proofs.Common.{arith}
use Rattle.std.proofs.KnownBytes.{Appends-kept}
use Rattle.bpfcanon_object.proofs.WrittenLemmas.{on_err, taken_part, takes_more}
use Rattle.bpfcanon_object.proofs.desk.write_bytes.Goals as goal

pub loop-turn-preserved : goal.loop-turn-preserved
loop-turn-preserved g c =
    let wrote = c.in_ok-taken.ensures in
    record {
      within = omega (arith, wrote.bound);
      appends = takes_more _ _ _ c.args.bytes.now c.loop-turn.taken c.in_ok-taken.field-0 c.loop-turn.invariant.appends wrote.bytes;
    }

pub returns-in_err-taken-clause-part : goal.returns-in_err-taken-clause-part
returns-in_err-taken-clause-part g c = on_err _ (taken_part _ _ c.args.bytes.now c.loop-turn.taken (Appends-kept _ _ _ _ c.loop-turn.invariant.appends c.in_err-taken.ensures.bytes))

pub returns-clause-part : goal.returns-clause-part
returns-clause-part g c = taken_part _ _ c.args.bytes.now c.loop-turn.taken c.loop-turn.invariant.appends
