use Rattle.std.proofs.Common.{[], rules, subst}
use Rattle.bpfcanon_object.specs.{Answers.IsAnswer, KeyLines.key_line}
use Rattle.bpfcanon_object.specs.Answers.IsKeyAnswer.{accepted, refused}
use Rattle.bpfcanon_object.specs.declared.answer.Status.TheVariants.{Yes}
use Rattle.bpfcanon_object.proofs.key.key_answer.Goals as goal

pub returns-in_ok-line-in-Ok-clause-answer : goal.returns-in_ok-line-in-Ok-clause-answer
returns-in_ok-line-in-Ok-clause-answer g c =
    let key = c.in-Ok.ensures.found in
    accepted key.0 key.1.0
    (subst (λ k. IsAnswer {A = g.row.A.Denot} Yes (key_line k c.args.name.now) [] c.of_lines.result) key.1.1 (search rules))

pub returns-in_ok-refused_answer-in-Err-Fault-clause-answer : goal.returns-in_ok-refused_answer-in-Err-Fault-clause-answer
returns-in_ok-refused_answer-in-Err-Fault-clause-answer g c = refused c.in-Err-Fault.fault (rw c.in-Err-Fault.field-0-is at c.in-Err-Fault.ensures.fault) c.in_ok-refused_answer-in-Err-Fault.ensures
