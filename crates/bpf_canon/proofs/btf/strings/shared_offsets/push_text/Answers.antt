use Rattle.std.proofs.Common.{◌≡◌, ◌-◌, ◌<◌, List, [], ◌∷◌, ◌++◌, set, refl, ap, ◌∙◌, arith}
use Rattle.std.specs.Vec.{vec_len}
use Rattle.std.proofs.lemmas.List.{set-get_or}
use Rattle.bpf_canon.specs.declared.btf.strings.shared_offsets.Span.{Span}
use Rattle.bpf_canon.proofs.BtfLemmas.Strings.SpanSteps.{span_pushed, span_prolonged}
use Rattle.bpf_canon.proofs.btf.strings.shared_offsets.push_text.Goals as goal
use Rattle.bpf_canon.proofs.btf.strings.shared_offsets.push_text.Goals.{in-Some+else-last-text, else-last-text-via-then-last-text+else-text-last-eq1, else-last-text-via-else-last-text, in_default}

pub returns-then-text-last-eq1 : goal.returns-then-text-last-eq1
returns-then-text-last-eq1 g c section all is =
    let some : 0 < vec_len c.args.spans.now = c.in-Some.ensures.variant.0 refl in
    span_prolonged section c.args.spans.now.items (vec_len c.args.spans.now - 1) c.in-Some.last.now c.args.text (omega (arith, some)) c.in-Some.ensures.value (omega (arith, c.if-last-text.true, c.if-text-last-eq1.true)) all is

pub returns : goal.returns
returns g c section all is =
    let old = c.args.spans.now.items in
    let same : c.match-last_mut.spans.items ≡ old = elim c.match-last_mut.branch [
      | in-Some+else-last-text w ↦
          let kept : set old (vec_len c.args.spans.now - 1) w.in-Some.last.now ≡ old = ap (set old (vec_len c.args.spans.now - 1)) w.in-Some.ensures.value ∙ set-get_or old (vec_len c.args.spans.now - 1) w.in-Some.last.now in
          ap (λ v. v.items) w.spans-is ∙ elim w.else-last-text.branch [
            | else-last-text-via-then-last-text+else-text-last-eq1 x ↦ ap (λ v. v.items) x.spans-is ∙ kept
            | else-last-text-via-else-last-text x ↦ ap (λ v. v.items) x.spans-is ∙ kept
          ]
      | in_default w ↦ ap (λ v. v.items) w.spans-is
    ] in
    span_pushed section old c.push.new.self.items c.args.text (c.in_ok-push.ensures.items ∙ ap (λ (l : List Span). l ++ c.args.text ∷ []) same) all is
