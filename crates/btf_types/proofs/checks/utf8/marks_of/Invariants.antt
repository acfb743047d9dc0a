use Rattle.btf_types.proofs.CheckLemmas.Marks.{AreMarksFrom}
use Rattle.btf_types.proofs.checks.utf8.marks_of.Given as goal

abbrev pub invariant-loop-at : goal.invariant-loop-at
invariant-loop-at g l = AreMarksFrom l.strings l.at l.next l.rest l.marks.items

abbrev pub decreases-loop-at : goal.decreases-loop-at
decreases-loop-at g l = l.at
