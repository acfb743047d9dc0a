use Rattle.std.proofs.Common.{◌≡◌, Err, rules}
use Rattle.bpf_text.proofs.InsnLemmas.FieldLemmas.{source_none}
use Rattle.bpf_text.proofs.insn.operand_fields.source.Goals as goal

pub returns-in_err-imm-in-Literal : goal.returns-in_err-imm-in-Literal
returns-in_err-imm-in-Literal c =
    let same : c.from_residual.result ≡ Err c.in_err-imm-in-Literal.field-0.0 = search rules in
    rw (c.in-Literal.is, same) (source_none _ _ (rw c.in-Literal.is at c.in_err-imm-in-Literal.ensures))
