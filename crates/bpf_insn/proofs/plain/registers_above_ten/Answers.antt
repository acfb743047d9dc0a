use Rattle.std.proofs.Common.{slice_index, refl, arith}
use Rattle.bpf_insn.specs.{declared.plain.TheConstants.ABOVE, Plain.registers_above}
use Rattle.bpf_insn.proofs.TableLemmas.{same_table}
use Rattle.bpf_insn.proofs.plain.registers_above_ten.Goals as goal

-- the table agrees with the definition at each of the 256 bytes, by computation
pub returns : goal.returns
returns c = same_table (slice_index ABOVE) registers_above 256 refl c.args.registers (omega arith)
