-- A checked section stays one.
use Rattle.bpf_object.proofs.SourceLemmas.{read_again}
use Rattle.bpf_object.proofs.source.renumbered.Goals as goal

pub returns-clause-read : goal.returns-clause-read
returns-clause-read c = read_again c.args.x c.args.numbers
