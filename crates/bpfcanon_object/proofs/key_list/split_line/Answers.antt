use Rattle.std.proofs.Common.{◌≡◌, ◌∷◌, sym, ap, ◌∙◌, arith, Some, None, drop}
use Rattle.std.specs.Str.{bytes_eq}
use Rattle.std.proofs.lemmas.Str.Pattern.{strip_prefix_char}
use Rattle.hex.specs.Hex.{encode_lower}
use Rattle.bpfcanon_object.specs.Escape.{escaped}
use Rattle.bpfcanon_object.proofs.KeyLineLemmas.{body, body-begins, body-split, line-body}
use Rattle.bpfcanon_object.proofs.key_list.split_line.Goals as goal

-- the mark is before the digits, and the first blank behind them
pub returns-in_err-digits : goal.returns-in_err-digits
returns-in_err-digits c = record {
  all = λ key name bytes len e.
      let rest = c.split_mark-is_escaped.ensures.all (bytes_eq (escaped name) name) (body key name) (body-begins key name bytes len) (line-body key name c.args.line.now e) in
      absurd (body-split key name _ None bytes rest.1 c.in_err-digits.ensures.cases);
}

pub returns-in_err-strip_prefix : goal.returns-in_err-strip_prefix
returns-in_err-strip_prefix c = record {
  all = λ key name bytes len e.
      let rest = c.split_mark-is_escaped.ensures.all (bytes_eq (escaped name) name) (body key name) (body-begins key name bytes len) (line-body key name c.args.line.now e) in
      let split : (c.in_ok-digits.digits.now ≡ encode_lower key) × (c.in_ok-digits.text.now ≡ 32 ∷ escaped name) = body-split key name _ (Some (c.in_ok-digits.digits, c.in_ok-digits.text)) bytes rest.1 c.in_ok-digits.ensures.cases in
      let strip = strip_prefix_char 32 c.in_ok-digits.text.now None c.in_err-strip_prefix.ensures.cases (omega arith) in
      absurd (strip (escaped name) split.1);
}

pub returns : goal.returns
returns c = record {
  all = λ key name bytes len e.
      let rest = c.split_mark-is_escaped.ensures.all (bytes_eq (escaped name) name) (body key name) (body-begins key name bytes len) (line-body key name c.args.line.now e) in
      let split : (c.in_ok-digits.digits.now ≡ encode_lower key) × (c.in_ok-digits.text.now ≡ 32 ∷ escaped name) = body-split key name _ (Some (c.in_ok-digits.digits, c.in_ok-digits.text)) bytes rest.1 c.in_ok-digits.ensures.cases in
      let strip = strip_prefix_char 32 c.in_ok-digits.text.now (Some c.in_ok-strip_prefix.field-0) c.in_ok-strip_prefix.ensures.cases (omega arith) in
      (split.0, (rest.0, ap (drop 1) (sym strip ∙ split.1)));
}
