use Rattle.bpfcanon.proofs.CommandsLemmas.PiecesLemmas.{empty_end}
use Rattle.bpfcanon.proofs.commands.reply.put_reply.Goals as goal

pub returns-in-Ok : goal.returns-in-Ok
returns-in-Ok g c = λ job input made.
    c.put_output.ensures job input (rw c.as_slice.ensures.value (rw c.in-Ok.is at made))

pub returns-in-Err : goal.returns-in-Err
returns-in-Err g c = λ job input made. empty_end job input _ _ c.in-Err.outcome (rw c.in-Err.is at made)
