use Rattle.std.proofs.Common.{rules}
use Rattle.bpf_object.proofs.KeptLemmas.{number_next, numbers_next}
use Rattle.bpf_object.proofs.numbering.section_numbers.Goals as goal

pub loop-i-preserved : goal.loop-i-preserved
loop-i-preserved g c = search (rules, number_next, numbers_next)
