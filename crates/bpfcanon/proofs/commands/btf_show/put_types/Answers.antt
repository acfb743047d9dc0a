use Rattle.std.proofs.Common.{◌<◌, ◌≤◌, length, arith}
use Rattle.bpfcanon.proofs.CommandsLemmas.BtfShowLemmas.{types_more, types_put, types_stopped}
use Rattle.bpfcanon.proofs.CommandsLemmas.PiecesLemmas.{puts_handed}
use Rattle.bpfcanon.proofs.commands.btf_show.put_types.Goals as goal

pub returns-in_err-put_record : goal.returns-in_err-put_record
returns-in_err-put_record g c =
    let v = g.T.TypeTable.meaning c.args.table.now in
    let inside : c.loop-index.index < length v = omega (arith, c.loop-index-test.true, c.count-index-end.ensures.count) in
    puts_handed _ _ c.in_err-put_record.field-0.0 c.from_residual.result c.from_residual.ensures.1
    (types_stopped _ _ _ _ _ _ _ c.put_record.new.piece.items v c.loop-index.index inside c.loop-index.invariant c.in_err-put_record.field-0.0 c.in_err-put_record.ensures)

pub loop-index-preserved : goal.loop-index-preserved
loop-index-preserved g c =
    let v = g.T.TypeTable.meaning c.args.table.now in
    let inside : c.loop-index.index < length v = omega (arith, c.loop-index-test.true, c.count-index-end.ensures.count) in
    types_more _ _ _ _ _ _ _ _ v c.loop-index.index inside c.loop-index.invariant c.in_ok-put_record.ensures

pub returns : goal.returns
returns g c =
    let v = g.T.TypeTable.meaning c.args.table.now in
    let done : length v ≤ c.loop-index.index = omega (arith, c.loop-index-test.false, c.count-index-end.ensures.count) in
    types_put _ _ _ _ _ _ _ v c.loop-index.index c.put_piece.result done c.loop-index.invariant c.put_piece.ensures.put
