use Rattle.std.proofs.Common.{arith}
use Rattle.bpfcanon_object.proofs.UnescapeLemmas.{digit-same, some_iff}
use Rattle.bpfcanon_object.proofs.escape.digit_in.Goals as goal

pub returns-clause-all : goal.returns-clause-all
returns-clause-all c = λ n behind small e.
    let same = digit-same c.in_ok-next.field-0 n _ _ behind small c.in_ok-next.ensures.steps.0 e in
    (some_iff c.to_digit.result _ _ n c.to_digit.ensures.value (omega (arith, small, same.0)) same.0, same.1)
