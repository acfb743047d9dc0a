use Rattle.bpfcanon_object.specs.Answers.IsSameAnswer.{compared, first, second}
use Rattle.bpfcanon_object.proofs.same.same_answer.Goals as goal

pub returns-in_ok-comparison-in-Ok-clause-answer : goal.returns-in_ok-comparison-in-Ok-clause-answer
returns-in_ok-comparison-in-Ok-clause-answer g c = compared c.in-Ok.is_same c.in-Ok.ensures.same c.in_ok-comparison-in-Ok.ensures

pub returns-in_ok-refused_answer-in-Err-First-clause-answer : goal.returns-in_ok-refused_answer-in-Err-First-clause-answer
returns-in_ok-refused_answer-in-Err-First-clause-answer g c = first c.in-Err-First.fault (rw c.in-Err-First.field-0-is at c.in-Err-First.ensures.fault) c.in_ok-refused_answer-in-Err-First.ensures

pub returns-in_ok-refused_answer-in-Err-Second-clause-answer : goal.returns-in_ok-refused_answer-in-Err-Second-clause-answer
returns-in_ok-refused_answer-in-Err-Second-clause-answer g c =
    let sides = rw c.in-Err-Second.field-0-is at c.in-Err-Second.ensures.fault in
    second sides.0.0 sides.0.1 c.in-Err-Second.fault sides.1 c.in_ok-refused_answer-in-Err-Second.ensures
