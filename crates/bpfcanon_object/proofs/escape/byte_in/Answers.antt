use Rattle.std.proofs.Common.{◌≡◌, ◌∷◌, ◌/◌, ◌%◌, ◌+◌, ◌*◌, false, ap, arith, unwrap_or, Some}
use Rattle.std.specs.Fmt.{digit_glyph}
use Rattle.bpfcanon_object.proofs.escape.byte_in.Goals as goal

pub returns-clause-all : goal.returns-clause-all
returns-clause-all c = λ n behind small e.
    let first = c.in_ok-high.ensures.all (n / 16) (digit_glyph false (n % 16) ∷ behind) (omega arith) e in
    let second = c.in_ok-low.ensures.all (n % 16) behind (omega arith) first.1 in
    let high : c.in_ok-high.high ≡ n / 16 = ap (λ o. unwrap_or o 0) first.0 in
    let low : c.in_ok-low.low ≡ n % 16 = ap (λ o. unwrap_or o 0) second.0 in
    let code : 16 * c.in_ok-high.high + c.in_ok-low.low ≡ n = omega (arith, high, low) in
    (ap Some code, second.1)
