use Rattle.std.proofs.Common.{◌≡◌, ◌<◌, Option, Some, IfSome, length, subst}
use Rattle.bpf_insn.specs.{declared.fault.SlotFault.SlotFault, Faults.IsInsnFault, Faults.moved_by}
use Rattle.bpf_insn.proofs.FrontSteps.{read_fault}
use Rattle.bpf_insn.proofs.whole_insns.first_fault.Goals as goal

pub returns-clause-fault : goal.returns-clause-fault
returns-clause-fault c = λ f e.
    let front = c.insn_front-front in
    let stop : front.result.stop ≡ Some c.in_ok-front.field-0 = cc in
    let before : Option SlotFault → Type 0 = λ x. IfSome x (λ _. front.result.len < length c.args.bytes.now) in
    let fault : moved_by front.result.len c.in_ok-front.field-0 ≡ f = cc in
    let at : SlotFault → Type 0 = λ x. IsInsnFault c.args.order c.args.bytes.now x in
    subst at fault (read_fault _ _ _ c.in_ok-front.field-0 front.ensures.front stop (subst before stop front.ensures.stop))
