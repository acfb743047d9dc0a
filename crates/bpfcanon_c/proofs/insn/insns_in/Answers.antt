-- What was written is the instructions of the file in the other order.
use Rattle.std.proofs.Common.{ap, length, ◌∙◌}
use Rattle.bpfcanon_c.specs.{Endings.IsRecoded, Outputs.IsInsnCode}
use Rattle.bpfcanon_c.proofs.Rooms.{ends_output, recoded_length}
use Rattle.bpfcanon_c.proofs.insn.insns_in.Goals as goal

pub returns-in-Ok : goal.returns-in-Ok
returns-in-Ok c =
    let found = c.in-Ok.ensures.found in
    let form = c.deref.ensures.value ∙ found.1.1 in
    ends_output (IsRecoded c.args.order c.args.to c.args.bytes.now) (IsInsnCode c.args.order c.args.bytes.now) c.args.out.now c.put.new.buffer c.deref.result.now c.put.result
    (record { insns = found.0; file = found.1.0; form = form; fits = ap length form ∙ recoded_length c.args.order c.args.to c.args.bytes.now found.0 found.1.0 })
    c.put.ensures
