use Rattle.std.proofs.Common.{arith}
use Rattle.bpf_object.proofs.AcceptedLemmas.{accepts_object}
use Rattle.bpf_object.proofs.accepted.AcceptedObject.read.Goals as goal

pub returns-clause-all : goal.returns-clause-all
returns-clause-all g c = λ x d. accepts_object c.args.bytes.now x c.accept.result (λ i. omega (arith, c.type_inv.bytes i)) d c.accept.ensures
