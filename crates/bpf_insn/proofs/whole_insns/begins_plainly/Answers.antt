use Rattle.bpf_insn.proofs.PlainLemmas.{plain_begins}
use Rattle.bpf_insn.proofs.whole_insns.begins_plainly.Goals as goal

pub returns-in-Some : goal.returns-in-Some
returns-in-Some c = λ h.
    let plain = c.is_plain.ensures h in
    plain_begins _ _ _ _ plain.0 c.in-Some.ensures.cases.0 c.in-Some.ensures.cases.1 plain.1.1.0 plain.1.0 plain.1.1.1
