use Rattle.std.proofs.Common.{slice_index, refl, arith}
use Rattle.bpf_words.specs.declared.Order.TheVariants.{Little, Big}
use Rattle.bpf_insn.specs.{declared.plain.TheConstants.ZERO_LITTLE, declared.plain.TheConstants.ZERO_BIG, Plain.zero_bits_at}
use Rattle.bpf_insn.specs.Forms.{form_at, alu32_form_at, alu64_form_at, jump32_form_at, jump64_form_at, load_form_at, alu_code_at, branch_op_at, size_at, small_size_at}
use Rattle.bpf_insn.proofs.TableLemmas.{same_table}
use Rattle.bpf_insn.proofs.plain.zero_bits.Goals as goal

-- each table agrees with the forms at each of the 256 opcodes, by computation
pub returns-in-Little : goal.returns-in-Little
unfolding form_at alu32_form_at alu64_form_at jump32_form_at jump64_form_at load_form_at alu_code_at branch_op_at size_at small_size_at
returns-in-Little c = rw c.in-Little.is (same_table (slice_index ZERO_LITTLE) (zero_bits_at Little) 256 refl c.args.opcode (omega arith))

pub returns-in-Big : goal.returns-in-Big
unfolding form_at alu32_form_at alu64_form_at jump32_form_at jump64_form_at load_form_at alu_code_at branch_op_at size_at small_size_at
returns-in-Big c = rw c.in-Big.is (same_table (slice_index ZERO_BIG) (zero_bits_at Big) 256 refl c.args.opcode (omega arith))
