use Rattle.bpfcanon_object.proofs.canon.canon_answer.Goals as goal

pub returns-in-Ok-clause-answer : goal.returns-in-Ok-clause-answer
returns-in-Ok-clause-answer g c = c.in-Ok.ensures.found

pub returns-in_ok-refused_answer-in-Err-Fault-clause-answer : goal.returns-in_ok-refused_answer-in-Err-Fault-clause-answer
returns-in_ok-refused_answer-in-Err-Fault-clause-answer g c =
    (c.in-Err-Fault.fault, ((rw c.in-Err-Fault.field-0-is at c.in-Err-Fault.ensures.fault), c.in_ok-refused_answer-in-Err-Fault.ensures))
