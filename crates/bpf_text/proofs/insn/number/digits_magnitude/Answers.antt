use Rattle.std.proofs.Common.{◌≡◌, ◌<◌, get_or, take, ap, ◌∙◌}
use Rattle.std.specs.{Char.digit_value, Str.Parse.digits_value}
use Rattle.std.proofs.lemmas.Int.Digits.{digits_more, digits_value_more}
use Rattle.bpf_text.proofs.InsnLemmas.NumberLemmas.{digit_below}
use Rattle.bpf_text.proofs.insn.number.digits_magnitude.Goals as goal

pub returns-in_err-digit-clause-none : goal.returns-in_err-digit-clause-none
returns-in_err-digit-clause-none c =
    let byte : c.from.result ≡ get_or c.args.digits.now c.loop-b.b-index 0 = c.from.ensures in
    rw c.from_residual.ensures
    (λ numeral. c.in_err-digit.ensures.value (rw byte (digit_below c.args.radix c.args.digits.now c.loop-b.b-index numeral.1 c.loop-b-test.true)))

pub loop-b-preserved : goal.loop-b-preserved
loop-b-preserved c =
    let byte : c.from.result ≡ get_or c.args.digits.now c.loop-b.b-index 0 = c.from.ensures in
    let below : digit_value (get_or c.args.digits.now c.loop-b.b-index 0) < c.args.radix = rw byte at c.in_ok-digit.ensures.value.0 in
    let digit : c.in_ok-digit.digit ≡ digit_value (get_or c.args.digits.now c.loop-b.b-index 0) = c.in_ok-digit.ensures.value.1 ∙ ap digit_value byte in
    record {
      digits = digits_more c.args.radix c.args.digits.now c.loop-b.b-index c.loop-b-test.true c.loop-b.invariant.digits below;
      value = rw (digits_value_more c.args.radix c.args.digits.now c.loop-b.b-index c.loop-b-test.true, ← digit)
          (c.with_digit-number.ensures (digits_value c.args.radix (take c.loop-b.b-index c.args.digits.now)) c.loop-b.invariant.value);
    }
