use Rattle.std.proofs.Common.{ℕ, ◌<◌}
use Rattle.btf_types.specs.{checks.RecordFaults.IsFaultlessIn, checks.SectionParts.words_in}
use Rattle.btf_types.proofs.CheckLemmas.SectionSteps.{nth_frame}
use Rattle.btf_types.proofs.checks.fields.first_field_fault.Given as goal

abbrev pub invariant-loop-i : goal.invariant-loop-i
invariant-loop-i l = (k : ℕ) → k < l.i → IsFaultlessIn (words_in l.section-inside) (nth_frame l.section-inside k)
