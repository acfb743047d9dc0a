-- The fault of what follows the instructions at the start is that of the file.
use Rattle.std.proofs.Common.{◌<◌, Option, length, subst, sym}
use Rattle.std.specs.Prelude.{IfSome}
use Rattle.bpf_insn.specs.{declared.fault.SlotFault.SlotFault, Faults.IsInsnFault}
use Rattle.bpf_insn.proofs.FrontSteps.{read_fault}
use Rattle.bpfcanon_c.proofs.insn_decode.insn_count.Goals as goal

pub returns-in-Some : goal.returns-in-Some
returns-in-Some c =
    let front = c.insn_front-front in
    let Inside : Option SlotFault → Type 0 = λ s. IfSome s (λ f. front.result.len < length c.args.bytes.now) in
    let Is : SlotFault → Type 0 = λ f. IsInsnFault c.args.order c.args.bytes.now f in
    subst Is (sym c.moved_by.ensures) (read_fault c.args.order c.args.bytes.now front.result c.in-Some.fault front.ensures.front c.in-Some.is (subst Inside c.in-Some.is front.ensures.stop))
