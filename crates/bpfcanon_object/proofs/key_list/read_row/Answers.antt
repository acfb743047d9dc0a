use Rattle.std.proofs.Common.{◌≡◌, ◌++◌, ◌∷◌, [], length, sym, ◌∙◌, ap, rules, string_bytes, not, Ok}
use Rattle.std.specs.Str.{bytes_eq}
use Rattle.std.proofs.lemmas.Str.{IsUtf8-string_bytes}
use Rattle.hex.specs.Hex.{IsBytes, decode_sized, encode_lower}
use Rattle.hex.proofs.HexLemmas.{decode_sized-encode_lower}
use Rattle.bpfcanon_object.specs.Escape.{escaped}
use Rattle.bpfcanon_object.specs.KeyLines.{key_line}
use Rattle.bpfcanon_object.proofs.KeyLineLemmas.{key-decoded, key_line-same}
use Rattle.bpfcanon_object.proofs.key_list.read_row.Goals as goal

pub returns-clause-only : goal.returns-clause-only
returns-clause-only g c = λ key name bytes len utf8 e.
    let found : key_line c.in-Ok.key (string_bytes c.in-Some-2.name) ≡ c.args.line.now ++ 10 ∷ [] = search rules in
    let own : length c.in-Ok.key ≡ 32 = search rules in
    let own_bytes : IsBytes c.in-Ok.key = search rules in
    key_line-same key c.in-Ok.key name (string_bytes c.in-Some-2.name) bytes own_bytes len own utf8 (IsUtf8-string_bytes c.in-Some-2.name) (e ∙ sym found)

-- the digits of a line are those of its key
pub returns-in_default-from_hex-clause-all : goal.returns-in_default-from_hex-clause-all
returns-in_default-from_hex-clause-all g c = λ key name bytes len utf8 e.
    let split = c.in-Some.ensures.all key name bytes len e in
    let decoded = decode_sized-encode_lower key 32 len bytes in
    cc (c.in_default-from_hex.ensures ∙ ap (λ t. decode_sized t 32) split.0 ∙ decoded)

-- the line of what was read is the line that is given
pub returns-then-ne-clause-all : goal.returns-then-ne-clause-all
returns-then-ne-clause-all g c = λ key name bytes len utf8 e.
    let split : (c.in-Some.digits.now ≡ encode_lower key) × ((c.in-Some.is_escaped ≡ not (bytes_eq (escaped name) name)) × (c.in-Some.text.now ≡ escaped name)) = c.in-Some.ensures.all key name bytes len e in
    let decoded : decode_sized c.in-Some.digits.now 32 ≡ Ok c.in-Ok.key = search rules in
    let same : c.in-Ok.key ≡ key = key-decoded key c.in-Ok.key c.in-Some.digits.now bytes len split.0 decoded in
    let named : string_bytes c.in-Some-2.name ≡ name = rw c.in-Some-2.is at (c.in_ok-name.ensures.all name utf8 split.1.0 split.1.1) in
    let line : string_bytes c.in_ok-again.again ≡ key_line c.in-Ok.key (string_bytes c.in-Some-2.name) = search rules in
    let given : string_bytes c.in_ok-given.given ≡ c.args.line.now ++ 10 ∷ [] = search rules in
    let differ : string_bytes c.in_ok-again.again ≡ string_bytes c.in_ok-given.given → ⊥ = search rules in
    absurd (differ (line ∙ rw (same, named) e ∙ sym given))
