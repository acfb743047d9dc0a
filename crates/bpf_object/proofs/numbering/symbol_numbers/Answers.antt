use Rattle.std.proofs.Common.{rules}
use Rattle.bpf_object.proofs.KeptLemmas.{number_next, numbers_next}
use Rattle.bpf_object.proofs.numbering.symbol_numbers.Goals as goal

pub loop-j-preserved : goal.loop-j-preserved
loop-j-preserved g c = search (rules, number_next, numbers_next)
