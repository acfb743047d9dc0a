use Rattle.std.proofs.Common.{◌≡◌, sym, ◌∙◌, rules, string_bytes}
use Rattle.std.proofs.lemmas.Str.{IsUtf8-string_bytes}
use Rattle.bpfcanon_object.specs.Escape.{escaped}
use Rattle.bpfcanon_object.proofs.TextLemmas.{escaped-same}
use Rattle.bpfcanon_object.proofs.escape.unescaped.Goals as goal

-- its text was compared, and no other name has it
pub returns-clause-only : goal.returns-clause-only
returns-clause-only g c = λ other utf8 e.
    let found : escaped (string_bytes c.in-Some.name) ≡ c.args.text.now = search rules in
    escaped-same other (string_bytes c.in-Some.name) utf8 (IsUtf8-string_bytes c.in-Some.name) (e ∙ sym found)
