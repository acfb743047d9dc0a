use Rattle.std.proofs.Common.{refl, arith}
use Rattle.bpfcanon_c.proofs.OpcodeRows.{makes_rows}
use Rattle.bpfcanon_c.proofs.opcode_rows.opcode_row.Goals as goal

pub returns : goal.returns
returns c = makes_rows c.args.opcode _ (omega arith) refl
