use Rattle.std.proofs.Common.{sym, ◌∙◌}
use Rattle.bpf_text.proofs.InsnLemmas.OperandFieldsLemmas.{miscounted}
use Rattle.bpf_text.proofs.insn.make.insn_from_operands.Goals as goal

pub returns-then-operands-operand_count : goal.returns-then-operands-operand_count
returns-then-operands-operand_count c = miscounted _ _ (λ e. c.if-operands-operand_count.true (e ∙ sym c.operand_count.ensures))
