use Rattle.std.proofs.Common.{◌≤◌, ◌+◌, arith}
use Rattle.bpfcanon.proofs.CommandsLemmas.LongNameLemmas.{name_more, name_stopped}
use Rattle.bpfcanon.proofs.CommandsLemmas.PiecesLemmas.{gathers_handed}
use Rattle.bpfcanon.proofs.commands.btf_show.put_name.Goals as goal

pub returns-in_err-put_chunk : goal.returns-in_err-put_chunk
returns-in_err-put_chunk g c =
    let low : c.loop-start.start ≤ c.loop-start.start + c.min.result = omega arith in
    gathers_handed _ _ _ c.in_err-put_chunk.field-0.0 c.from_residual.result c.from_residual.ensures.1
    (name_stopped _ _ _ _ _ _ _ c.put_chunk.new.piece.items c.args.piece.now.items c.args.name.now c.loop-start.start (c.loop-start.start + c.min.result) low
    c.loop-start.invariant c.in_err-put_chunk.field-0.0 c.in_err-put_chunk.ensures.gathered)

pub loop-start-preserved : goal.loop-start-preserved
loop-start-preserved g c =
    let low : c.loop-start.start ≤ c.loop-start.start + c.min.result = omega arith in
    name_more _ _ _ _ _ _ _ _ c.args.piece.now.items c.args.name.now c.loop-start.start (c.loop-start.start + c.min.result) low
    c.loop-start.invariant c.in_ok-put_chunk.ensures.gathered
