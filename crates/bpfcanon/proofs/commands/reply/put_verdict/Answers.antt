use Rattle.bpfcanon.proofs.CommandsLemmas.PiecesLemmas.{empty_end}
use Rattle.bpfcanon.proofs.commands.reply.put_verdict.Goals as goal

pub returns-in-Ok-false : goal.returns-in-Ok-false
returns-in-Ok-false g c = λ job input made.
    c.put_output-in-Ok-false.ensures job input (rw (c.in-Ok-false.is, c.in-Ok-false.field-0-test) at made)

pub returns-in-Err : goal.returns-in-Err
returns-in-Err g c = λ job input made. empty_end job input _ _ c.in-Err.outcome (rw c.in-Err.is at made)
