use Rattle.std.proofs.Common.{◌≡◌, [], ◌∷◌, rules, arith}
use Rattle.std.proofs.lemmas.Int.{ints}
use Rattle.bpf_text.proofs.InsnLemmas.{NumberLemmas.no_signed, NumberLemmas.minus_spells, ReadOperandLemmas.one_byte}
use Rattle.bpf_text.proofs.insn.number.signed_number.Goals as goal

pub returns-in-43-clause-none : goal.returns-in-43-clause-none
returns-in-43-clause-none c = no_signed _ _ c.unsigned_number.result c.unsigned_number.ensures.none

pub returns-in_err-unsigned_number-in-45-clause-none : goal.returns-in_err-unsigned_number-in-45-clause-none
returns-in_err-unsigned_number-in-45-clause-none c =
    rw c.from_residual.ensures (λ z s. c.in_err-unsigned_number-in-45.ensures.none s.0 s.1)

pub returns-in_ok-unsigned_number-in-45-clause-some : goal.returns-in_ok-unsigned_number-in-45-clause-some
returns-in_ok-unsigned_number-in-45-clause-some c =
    let number = c.in_ok-unsigned_number-in-45.ensures in
    let minus : c.args.sign.now ≡ 45 ∷ [] = one_byte c.args.sign.now 45 (search rules) (search rules) (search rules) in
    minus_spells c.args.sign.now c.args.token.now c.in_ok-unsigned_number-in-45.field-0 _ minus number.within (omega (arith, ints)) number.some
