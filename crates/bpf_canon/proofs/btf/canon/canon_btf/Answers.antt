use Rattle.std.proofs.Common.{arith}
use Rattle.bpf_canon.proofs.BtfLemmas.BtfFiles.{ok_with, canonical_of, answers_file}
use Rattle.bpf_canon.proofs.btf.canon.canon_btf.Goals as goal

pub returns-clause-found : goal.returns-clause-found
returns-clause-found g c =
    ok_with _ _ (λ canon h. canonical_of c.args.bytes.now canon.items h.0 h.1.0 h.1.1) c.recode_btf.result c.recode_btf.ensures.ok

pub returns-clause-all : goal.returns-clause-all
returns-clause-all g c = λ v d.
    answers_file (λ canon. canon.items) c.args.bytes.now v (λ i. omega (arith, c.type_inv.bytes i)) d c.recode_btf.result c.recode_btf.ensures.ok
    c.recode_btf.ensures.fault
