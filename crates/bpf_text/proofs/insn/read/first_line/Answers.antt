use Rattle.std.proofs.lemmas.List.{take_rest}
use Rattle.bpf_text.proofs.InsnLemmas.ListingLemmas.{ends_at, ends_nowhere}
use Rattle.bpf_text.proofs.insn.read.first_line.Goals as goal

pub returns-in-Some-clause-lines : goal.returns-in-Some-clause-lines
returns-in-Some-clause-lines c = rw take_rest (ends_at c.args.text.now c.in-Some.end c.in-Some.ensures)

pub returns-in-None-clause-lines : goal.returns-in-None-clause-lines
returns-in-None-clause-lines c = ends_nowhere c.args.text.now c.in-None.ensures
