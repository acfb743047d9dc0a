use Rattle.std.proofs.Common.{◌≡◌, ◌<◌, ◌++◌, ◌∷◌, [], ℕ, List, length, false, sym, ap, ◌∙◌, arith}
use Rattle.std.specs.Prelude.{◌==◌}
use Rattle.std.proofs.lemmas.{Bool.eqb-true, Bool.eqb-false}
use Rattle.bpf_canon.proofs.BtfLemmas.Strings.DistinctSteps.{offset_updated, adds_empty, adds_known, adds_none, adds_new}
use Rattle.bpf_canon.proofs.btf.strings.distinct_offsets.add_text.Goals as goal

some_text : (x : List ℕ) → false ≡ (length x == 0) → 0 < length x
some_text x e = omega (arith, eqb-false (length x) 0 (sym e))

pub returns-then-is_empty : goal.returns-then-is_empty
returns-then-is_empty g c xs t = adds_empty xs c.args.bytes.now.items c.args.by_text.now c.args.text.now c.args.limit t c.requires (eqb-true (length c.args.text.now) 0 (sym c.if-is_empty.ensures))

pub returns-in-Some : goal.returns-in-Some
returns-in-Some g c xs t =
    adds_known xs c.args.bytes.now.items c.args.by_text.now c.args.text.now c.args.limit t c.requires c.in-Some.text_offset.now (some_text c.args.text.now c.if-is_empty.ensures) (sym c.in-Some.ensures.value)

pub returns-then-text-limit : goal.returns-then-text-limit
returns-then-text-limit g c xs t =
    adds_none xs c.args.bytes.now.items c.args.by_text.now c.args.text.now c.args.limit t c.requires (some_text c.args.text.now c.if-is_empty.ensures) (sym c.in_default.ensures.value) (omega (arith, c.if-text-limit.true, c.len-text_offset.ensures))

pub returns : goal.returns
returns g c xs t =
    let x = c.args.text.now in
    let old = c.args.by_text.now in
    let new = c.insert.new.self in
    adds_new xs c.args.bytes.now.items old x c.args.limit t c.requires c.push.new.self.items new c.len-text_offset.result
    (some_text x c.if-is_empty.ensures) (sym c.in_default.ensures.value) (omega (arith, c.if-text-limit.false, c.len-text_offset.ensures)) (omega (arith, c.len-text_offset.ensures))
    (c.in_ok-push.ensures.items ∙ ap (λ (b : List ℕ). b ++ 0 ∷ []) c.in_ok-extend_from_slice.ensures.items)
    (λ y. offset_updated x y old new c.len-text_offset.result (c.in_ok-insert.ensures.updates.0 (length y, record { ref_ptr = (0, 0); now = y })))
