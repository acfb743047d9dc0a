use Rattle.std.proofs.Common.{arith, rules}
use Rattle.bpf_insn.proofs.{FileGroups.moved_on, FileGroups.fault_here, OpcodeGroups.none_settled}
use Rattle.bpf_insn.proofs.file_groups.groups_in.Goals as goal

pub loop-pos-init : goal.loop-pos-init
loop-pos-init c =
    let settled = none_settled c.default.result in
    let none = c.default.ensures in
    search rules

pub loop-pos-smaller : goal.loop-pos-smaller
loop-pos-smaller c =
    let more = moved_on _ _ _ _ _ _ c.loop-pos.invariant.groups c.in_ok-next.ensures.found in
    let forward = c.plain_end-pos.ensures.forward in
    omega (arith, more, forward)

pub returns-in_err-next-clause-fault : goal.returns-in_err-next-clause-fault
returns-in_err-next-clause-fault c =
    let here = fault_here _ _ _ _ _ c.loop-pos.invariant.groups c.loop-pos-test.true c.in_err-next.ensures.fault in
    search rules

pub returns-in_err-next-clause-all : goal.returns-in_err-next-clause-all
returns-in_err-next-clause-all c =
    let here = fault_here _ _ _ _ _ c.loop-pos.invariant.groups c.loop-pos-test.true c.in_err-next.ensures.fault in
    λ l file. absurd (here.no_file l file)
