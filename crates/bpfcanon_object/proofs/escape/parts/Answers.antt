use Rattle.std.proofs.Common.{◌≡◌, ◌<◌, ◌++◌, length, sym, ap, ◌∙◌, rules, append-nil, string_bytes, flat_map, unwrap_or}
use Rattle.std.specs.Prelude.{encode_utf8_all}
use Rattle.std.specs.Str.{chars}
use Rattle.std.specs.Str.Iter.{chars_rest}
use Rattle.std.proofs.lemmas.Str.{encodes-chars}
use Rattle.bpfcanon_object.specs.Escape.{escaped_char}
use Rattle.bpfcanon_object.proofs.UnescapeLemmas.{next_char, no_more, with_next}
use Rattle.bpfcanon_object.proofs.escape.parts.Goals as goal

-- what is left of a name begins with the character that is read
pub loop-chars-init : goal.loop-chars-init
loop-chars-init g c = λ name utf8 e.
    (chars name, (rw c.new-name.ensures.bytes (sym (encodes-chars name utf8)), e ∙ sym c.chars-chars.ensures.rest))

pub returns-in_default : goal.returns-in_default
returns-in_default g c = record {
  all = λ name utf8 e.
      let left = c.loop-chars.invariant name utf8 e in
      let some : 0 < length (chars_rest c.loop-chars.chars) = search rules in
      let next = next_char left.0 (chars_rest c.loop-chars.chars) some left.1.1 in
      let found = c.in_default.ensures.all next.0 (flat_map escaped_char next.1) next.3 in
      cc found.0;
}

pub loop-chars-preserved : goal.loop-chars-preserved
loop-chars-preserved g c = λ name utf8 e.
    let left = c.loop-chars.invariant name utf8 e in
    let some : 0 < length (chars_rest c.loop-chars.chars) = search rules in
    let next = next_char left.0 (chars_rest c.loop-chars.chars) some left.1.1 in
    let found = c.in-Some.ensures.all next.0 (flat_map escaped_char next.1) next.3 in
    let same : c.in-Some.c ≡ next.0 = ap (λ o. unwrap_or o 0) found.0 in
    (next.1, (with_next name (string_bytes c.loop-chars.name) (string_bytes c.push.new.self) left.0 next.1 next.0 c.in-Some.c left.1.0 next.2 same c.in_ok-push.ensures.bytes, sym found.1))

pub returns : goal.returns
returns g c = record {
  all = λ name utf8 e.
      let left = c.loop-chars.invariant name utf8 e in
      let none : length (chars_rest c.loop-chars.chars) ≡ 0 = search rules in
      let behind = no_more left.0 (chars_rest c.loop-chars.chars) none left.1.1 in
      sym (left.1.0 ∙ ap (λ t. string_bytes c.loop-chars.name ++ encode_utf8_all t) behind ∙ append-nil (string_bytes c.loop-chars.name));
}
