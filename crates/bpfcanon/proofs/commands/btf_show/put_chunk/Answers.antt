use Rattle.bpfcanon.proofs.CommandsLemmas.{LongNameLemmas.some_quoted, PiecesLemmas.gathers_none}
use Rattle.bpfcanon.proofs.commands.btf_show.put_chunk.Goals as goal

pub returns-in_err-append_quoted_part-clause-gathered :
    goal.returns-in_err-append_quoted_part-clause-gathered
returns-in_err-append_quoted_part-clause-gathered g c =
    gathers_none _ _ _ c.args.piece.now.items _ c.from_residual.result (some_quoted c.args.chunk.now c.requires.some) c.from_residual.ensures.1
