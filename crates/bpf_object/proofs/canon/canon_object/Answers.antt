use Rattle.std.proofs.Common.{arith}
use Rattle.bpf_object.proofs.ObjectLemmas.{answers_object}
use Rattle.bpf_object.proofs.canon.canon_object.Goals as goal

pub returns-clause-all : goal.returns-clause-all
returns-clause-all g c = λ x d.
    answers_object (λ canon. canon.items) c.args.bytes.now x c.canon_file.result (λ i. omega (arith, c.type_inv.bytes i)) d c.canon_file.ensures
