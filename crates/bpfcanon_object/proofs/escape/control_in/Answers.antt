use Rattle.std.proofs.Common.{◌≡◌, ◌<◌, ap, arith, unwrap_or}
use Rattle.std.specs.Char.{IsScalar}
use Rattle.bpfcanon_object.proofs.EscapeLemmas.{control_bound}
use Rattle.bpfcanon_object.proofs.UnescapeLemmas.{some_iff}
use Rattle.bpfcanon_object.proofs.escape.control_in.Goals as goal

pub returns-clause-all : goal.returns-clause-all
returns-clause-all c = λ n behind control e.
    let small : n < 160 = control_bound n control in
    let found = c.in_ok-byte_in.ensures.all n behind (omega arith) e in
    let code : c.in_ok-byte_in.field-0 ≡ n = ap (λ o. unwrap_or o 0) found.0 in
    let scalar : IsScalar c.in_ok-byte_in.field-0 = grind (arith, code, small) in
    (some_iff c.from_u32.result _ _ n c.from_u32.ensures.value scalar code, found.1)
