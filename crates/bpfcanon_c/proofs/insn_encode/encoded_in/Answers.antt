-- The length is that of the instructions.
use Rattle.std.proofs.Common.{refl}
use Rattle.bpfcanon_c.proofs.InsnWalk.{said_file}
use Rattle.bpfcanon_c.proofs.insn_encode.encoded_in.Goals as goal

pub returns-in-Ok : goal.returns-in-Ok
returns-in-Ok c =
    let said = said_file c.args.to c.args.rows.now c.in-Ok.len c.in-Ok.ensures in
    (said.file, (said.encoded, (said.long, (c.if-out-len.true, refl))))
