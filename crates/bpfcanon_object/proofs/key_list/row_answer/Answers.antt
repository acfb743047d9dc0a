use Rattle.std.proofs.Common.{rules, subst}
use Rattle.std.specs.Str.{bytes_eq}
use Rattle.bpfcanon_object.specs.Answers.{IsComparedRow}
use Rattle.bpfcanon_object.specs.Answers.IsRowAnswer.{accepted, refused}
use Rattle.bpfcanon_object.proofs.key_list.row_answer.Goals as goal

pub returns-in_ok-compared_row-in-Ok-clause-answer : goal.returns-in_ok-compared_row-in-Ok-clause-answer
returns-in_ok-compared_row-in-Ok-clause-answer g c =
    let key = c.in-Ok.ensures.found in
    let answer = c.in_ok-compared_row-in-Ok in
    accepted key.0 key.1.0
    (subst (λ k. IsComparedRow {A = g.row.A.Denot} c.args.name.now (bytes_eq k c.args.wanted) answer.field-0) key.1.1
    (search (rules, answer.ensures)))

pub returns-in_ok-refused_row-in-Err-Fault-clause-answer : goal.returns-in_ok-refused_row-in-Err-Fault-clause-answer
returns-in_ok-refused_row-in-Err-Fault-clause-answer g c = refused c.in-Err-Fault.fault (rw c.in-Err-Fault.field-0-is at c.in-Err-Fault.ensures.fault) (rw c.in-Err-Fault.field-0-is at c.in_ok-refused_row-in-Err-Fault.ensures)
