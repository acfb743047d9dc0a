use Rattle.std.proofs.Common.{false, sym}
use Rattle.bpf_canon.proofs.InsnLemmas.CanonLemmas.{compares}
use Rattle.bpf_canon.proofs.insn.canon.same_insns.Goals as goal

pub returns-in-Some-clause-fault : goal.returns-in-Some-clause-fault
returns-in-Some-clause-fault g c = c.first_fault.ensures.fault c.in-Some.fault c.in-Some.is

pub returns-in-Some-first_fault-clause-fault : goal.returns-in-Some-first_fault-clause-fault
returns-in-Some-first_fault-clause-fault g c =
    (c.first_fault.ensures.file c.in_default.is, c.first_fault-2.ensures.fault c.in-Some-first_fault.fault c.in-Some-first_fault.is)

pub returns-clause-same : goal.returns-clause-same
returns-clause-same g c =
    let first = c.first_fault.ensures.file c.in_default.is in
    let second = c.first_fault-2.ensures.file c.in-None.is in
    let recoded = c.is_recoded.ensures first.0 first.1 in
    compares c.args.order_a c.args.order_b c.args.a.now c.args.b.now false first.0 second.0 first.1 second.1 (λ t. cc, λ e. sym (rw (recoded.1 e) at c.if-is_recoded.false))
