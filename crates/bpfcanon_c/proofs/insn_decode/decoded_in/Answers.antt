-- The number of records is that of the instructions.
use Rattle.std.proofs.Common.{refl}
use Rattle.bpfcanon_c.proofs.InsnWalk.{decoded_rows}
use Rattle.bpfcanon_c.proofs.insn_decode.decoded_in.Goals as goal

pub returns-in-Ok : goal.returns-in-Ok
returns-in-Ok c =
    let r = decoded_rows c.args.order c.args.bytes.now c.in-Ok.count c.in-Ok.ensures in
    (r.rows, (r.decoded, (r.counted, (c.if-out-count.true, refl))))
