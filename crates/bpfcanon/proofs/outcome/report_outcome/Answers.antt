-- The line of a fault names its position and its cause.
use Rattle.bpfcanon.proofs.outcome.report_outcome.Goals as goal

pub returns-in-First : goal.returns-in-First
returns-in-First g c = rw (c.in-First.is, ← c.name-in-First.ensures) c.report_fault-in-First.ensures

pub returns-in-Second : goal.returns-in-Second
returns-in-Second g c = rw (c.in-Second.is, ← c.name-in-Second.ensures) c.report_fault-in-Second.ensures

pub returns-in-FirstBtf : goal.returns-in-FirstBtf
returns-in-FirstBtf g c = rw (c.in-FirstBtf.is, ← c.name-in-FirstBtf.ensures) c.report_fault-in-FirstBtf.ensures

pub returns-in-SecondBtf : goal.returns-in-SecondBtf
returns-in-SecondBtf g c = rw (c.in-SecondBtf.is, ← c.name-in-SecondBtf.ensures) c.report_fault-in-SecondBtf.ensures
