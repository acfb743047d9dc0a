use Rattle.bpfcanon.specs.commands.Pieces.{answered, unwritten}
use Rattle.bpfcanon.proofs.commands.reply.put_output.Goals as goal

pub returns-in-Ok : goal.returns-in-Ok
returns-in-Ok g c = λ job input made.
    answered c.args.outcome c.args.output.now made c.in-Ok.ensures.ok c.in-Ok.ensures.count

pub returns-in-Err : goal.returns-in-Err
returns-in-Err g c = λ job input made.
    let taken = c.in-Err.ensures.taken in
    unwritten c.args.outcome c.args.output.now made
    (record { count = c.in-Err.field-0; part = taken.0; took = taken.1; by = c.in-Err.ensures.count })
