use Rattle.std.proofs.Common.{nat_eq, get_or, refl, arith}
use Rattle.bpf_text.specs.{declared.insn.token.TheConstants.CLASSES, insn.Tokens.is_stray}
use Rattle.bpf_insn.proofs.TableLemmas.{same_table}
use Rattle.bpf_text.proofs.insn.token.is_stray.Goals as goal

-- the table agrees with the definition for each of the 256 bytes, by computation
pub returns : goal.returns
returns c = same_table (λ b. nat_eq (get_or CLASSES b 0) 46) is_stray 256 refl c.args.b (omega arith)
