use Rattle.std.proofs.Common.{◌≢◌, sym, ◌∙◌}
use Rattle.std.specs.Prelude.{slice_index}
use Rattle.btf_types.proofs.CheckLemmas.Utf8Steps.{front_and_rest, ok_where}
use Rattle.btf_types.proofs.checks.utf8.is_utf8_with.Goals as goal

pub returns-then-rest : goal.returns-then-rest
returns-then-rest c text t =
    let some : slice_index c.args.strings.now c.args.at ≢ 0 = c.if-strings-at-eq0.false in
    let both = front_and_rest c.args.strings.now c.args.at c.args.next c.args.rest text c.requires.next (c.requires.inside some) some t in
    let front = ok_where _ c.from_utf8.result c.from_utf8.ensures in
    let is = c.is_ok.ensures.value in
    (λ ok. both.0 (front.0 (sym is ∙ ok), c.if-rest.true), λ utf8. is ∙ front.1 (both.1 utf8).0)

pub returns-else-rest : goal.returns-else-rest
returns-else-rest c text t =
    let some : slice_index c.args.strings.now c.args.at ≢ 0 = c.if-strings-at-eq0.false in
    let both = front_and_rest c.args.strings.now c.args.at c.args.next c.args.rest text c.requires.next (c.requires.inside some) some t in
    let bad = c.if-rest.false in
    (λ ok. absurd cc, λ utf8. (both.1 utf8).1)
