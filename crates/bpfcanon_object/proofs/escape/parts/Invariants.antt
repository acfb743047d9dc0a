use Rattle.std.proofs.Common.{◌≡◌, ◌++◌, ℕ, List, length, string_bytes, flat_map}
use Rattle.std.specs.Prelude.{encode_utf8_all}
use Rattle.std.specs.Str.{IsUtf8}
use Rattle.std.specs.Str.Iter.{chars_rest}
use Rattle.bpfcanon_object.specs.Escape.{escaped, escaped_char}
use Rattle.bpfcanon_object.proofs.escape.parts.Given as goal

abbrev pub invariant-loop-chars : goal.invariant-loop-chars
invariant-loop-chars g l = (name : List ℕ) → IsUtf8 name → escaped name ≡ l.text
    → (behind : List ℕ) × ((name ≡ string_bytes l.name ++ encode_utf8_all behind) × (flat_map escaped_char behind ≡ chars_rest l.chars))

abbrev pub decreases-loop-chars : goal.decreases-loop-chars
decreases-loop-chars g l = length (chars_rest l.chars)
