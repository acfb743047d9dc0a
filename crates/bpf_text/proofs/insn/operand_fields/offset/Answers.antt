use Rattle.std.proofs.lemmas.Int.{to_z-of_z}
use Rattle.std.specs.Int.{w128}
use Rattle.bpf_text.proofs.InsnLemmas.FieldLemmas.{offset_read}
use Rattle.bpf_text.proofs.insn.operand_fields.offset.Goals as goal

pub returns-in-Literal : goal.returns-in-Literal
returns-in-Literal c = rw (c.in-Literal.is, c.or.ensures) (offset_read c.in-Literal.number _ c.try_from.result (to_z-of_z w128 c.in-Literal.number) c.try_from.ensures)
