use Rattle.std.proofs.Common.{◌≡◌, Err, rules}
use Rattle.std.proofs.lemmas.Int.{to_z-of_z}
use Rattle.std.specs.Int.{w16, w128}
use Rattle.bpf_text.proofs.InsnLemmas.FieldLemmas.{address_some, address_none}
use Rattle.bpf_text.proofs.insn.operand_fields.address.Goals as goal

pub returns-in_err-offset-in-Memory : goal.returns-in_err-offset-in-Memory
returns-in_err-offset-in-Memory c =
    let same : c.from_residual.result ≡ Err c.in_err-offset-in-Memory.field-0.0 = search rules in
    rw (c.in-Memory.is, same) (address_none _ _ _ _ (to_z-of_z w128 c.in-Memory.number) c.in_err-offset-in-Memory.ensures)

pub returns-in_ok-offset-in-Memory : goal.returns-in_ok-offset-in-Memory
returns-in_ok-offset-in-Memory c =
    rw c.in-Memory.is (address_some c.in-Memory.base c.in-Memory.number _ _ _ (to_z-of_z w128 c.in-Memory.number) (to_z-of_z w16 c.in_ok-offset-in-Memory.field-0) c.in_ok-offset-in-Memory.ensures)
