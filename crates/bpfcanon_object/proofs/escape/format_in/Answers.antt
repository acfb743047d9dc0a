use Rattle.std.proofs.Common.{◌≡◌, ◌∷◌, ◌++◌, ◌/◌, ◌%◌, ◌+◌, ◌*◌, ◌<◌, ap, arith, length, unwrap_or, subst, sym}
use Rattle.std.specs.Char.{IsScalar}
use Rattle.bpfcanon_object.specs.Escape.{six_digits, four_digits, two_digits}
use Rattle.bpfcanon_object.proofs.FormatCharacters.{format_bound}
use Rattle.bpfcanon_object.proofs.UnescapeLemmas.{behind_ascii, some_iff}
use Rattle.bpfcanon_object.proofs.escape.format_in.Goals as goal

pub returns-in_err-high-clause-all : goal.returns-in_err-high-clause-all
returns-in_err-high-clause-all c = λ n behind format e.
    let bound = format_bound n format in
    let small : n < 1114112 = bound.0 in
    let opened = behind_ascii c.in_ok-_open._open 123 _ _ (six_digits n ++ (125 ∷ behind)) (omega arith) c.in_ok-_open.ensures.steps.0 e in
    let first = c.in_err-high.ensures.all (n / 65536) (four_digits (n % 65536) ++ (125 ∷ behind)) (omega arith) opened in
    cc first.0

pub returns-in_err-middle-clause-all : goal.returns-in_err-middle-clause-all
returns-in_err-middle-clause-all c = λ n behind format e.
    let bound = format_bound n format in
    let small : n < 1114112 = bound.0 in
    let opened = behind_ascii c.in_ok-_open._open 123 _ _ (six_digits n ++ (125 ∷ behind)) (omega arith) c.in_ok-_open.ensures.steps.0 e in
    let first = c.in_ok-high.ensures.all (n / 65536) (four_digits (n % 65536) ++ (125 ∷ behind)) (omega arith) opened in
    let second = c.in_err-middle.ensures.all (n % 65536 / 256) (two_digits (n % 65536 % 256) ++ (125 ∷ behind)) (omega arith) first.1 in
    cc second.0

pub returns-in_err-low-clause-all : goal.returns-in_err-low-clause-all
returns-in_err-low-clause-all c = λ n behind format e.
    let bound = format_bound n format in
    let small : n < 1114112 = bound.0 in
    let opened = behind_ascii c.in_ok-_open._open 123 _ _ (six_digits n ++ (125 ∷ behind)) (omega arith) c.in_ok-_open.ensures.steps.0 e in
    let first = c.in_ok-high.ensures.all (n / 65536) (four_digits (n % 65536) ++ (125 ∷ behind)) (omega arith) opened in
    let second = c.in_ok-middle.ensures.all (n % 65536 / 256) (two_digits (n % 65536 % 256) ++ (125 ∷ behind)) (omega arith) first.1 in
    let third = c.in_err-low.ensures.all (n % 65536 % 256) (125 ∷ behind) (omega arith) second.1 in
    cc third.0

pub returns-in_err-_close-clause-all : goal.returns-in_err-_close-clause-all
returns-in_err-_close-clause-all c = λ n behind format e.
    let bound = format_bound n format in
    let small : n < 1114112 = bound.0 in
    let opened = behind_ascii c.in_ok-_open._open 123 _ _ (six_digits n ++ (125 ∷ behind)) (omega arith) c.in_ok-_open.ensures.steps.0 e in
    let first = c.in_ok-high.ensures.all (n / 65536) (four_digits (n % 65536) ++ (125 ∷ behind)) (omega arith) opened in
    let second = c.in_ok-middle.ensures.all (n % 65536 / 256) (two_digits (n % 65536 % 256) ++ (125 ∷ behind)) (omega arith) first.1 in
    let third = c.in_ok-low.ensures.all (n % 65536 % 256) (125 ∷ behind) (omega arith) second.1 in
    let none = c.in_err-_close.ensures.steps.0.0 in
    absurd (let l = ap length third.1 in omega (arith, none, l))

pub returns-clause-all : goal.returns-clause-all
returns-clause-all c = λ n behind format e.
    let bound = format_bound n format in
    let small : n < 1114112 = bound.0 in
    let opened = behind_ascii c.in_ok-_open._open 123 _ _ (six_digits n ++ (125 ∷ behind)) (omega arith) c.in_ok-_open.ensures.steps.0 e in
    let first = c.in_ok-high.ensures.all (n / 65536) (four_digits (n % 65536) ++ (125 ∷ behind)) (omega arith) opened in
    let second = c.in_ok-middle.ensures.all (n % 65536 / 256) (two_digits (n % 65536 % 256) ++ (125 ∷ behind)) (omega arith) first.1 in
    let third = c.in_ok-low.ensures.all (n % 65536 % 256) (125 ∷ behind) (omega arith) second.1 in
    let closed = behind_ascii c.in_ok-_close._close 125 _ _ behind (omega arith) c.in_ok-_close.ensures.steps.0 third.1 in
    let high : c.in_ok-high.high ≡ n / 65536 = ap (λ o. unwrap_or o 0) first.0 in
    let middle : c.in_ok-middle.middle ≡ n % 65536 / 256 = ap (λ o. unwrap_or o 0) second.0 in
    let low : c.in_ok-low.low ≡ n % 65536 % 256 = ap (λ o. unwrap_or o 0) third.0 in
    let code : 65536 * c.in_ok-high.high + 256 * c.in_ok-middle.middle + c.in_ok-low.low ≡ n = omega (arith, high, middle, low) in
    let scalar : IsScalar (65536 * c.in_ok-high.high + 256 * c.in_ok-middle.middle + c.in_ok-low.low) = subst IsScalar (sym code) bound.1 in
    (some_iff c.from_u32.result _ _ n c.from_u32.ensures.value scalar code, closed)
