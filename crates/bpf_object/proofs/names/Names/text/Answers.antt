use Rattle.std.proofs.Common.{◌≡◌, ◌+◌, ◌-◌, ◌<◌, ℕ, List, length, false, sym, ap, subst, refl, arith}
use Rattle.std.specs.Prelude.{◌==◌}
use Rattle.std.proofs.lemmas.{Bool.eqb-true, Bool.eqb-false}
use Rattle.bpf_canon.specs.btf.names.Interned.{borrowed_texts}
use Rattle.bpf_object.specs.private.Names.{Strings, Adds, FailsToAdd}
use Rattle.bpf_object.proofs.NamesLemmas.{stored_empty, stored_known, stored_new, past_limit, forgotten, unchanged, fails_new}
use Rattle.bpf_object.proofs.ObjectWriterLemmas.{failed_one}
use Rattle.bpf_object.proofs.names.Names.text.Goals as goal

some_text : (x : List ℕ) → false ≡ (length x == 0) → 0 < length x
some_text x e = omega (arith, eqb-false (length x) 0 (sym e))

pub returns-then-is_empty : goal.returns-then-is_empty
returns-then-is_empty g c =
    let s = c.self.inside in
    let x = c.args.text.now in
    let it = stored_empty (borrowed_texts s.texts.items) s.len s.by_text s.source.now s.by_offset s.limit c.self.invariant x (eqb-true (length x) 0 (sym c.if-is_empty.ensures)) in
    subst (λ (o : Strings). Adds o o x 0) c.self.view_is (record { texts = it.texts; source = refl; limit = refl; offset_is = it.offset_is })

pub returns-then-offset-end : goal.returns-then-offset-end
returns-then-offset-end g c =
    let s = c.self.inside in
    let x = c.args.text.now in
    let it = stored_known (borrowed_texts s.texts.items) s.len s.by_text s.source.now s.by_offset s.limit c.self.invariant x c.find_or_store.new.by_text c.in_ok-offset.offset (some_text x c.if-is_empty.ensures) c.in_ok-offset.ensures c.if-offset-end.true in
    subst (λ (o : Strings). Adds o (record { texts = borrowed_texts s.texts.items; source = s.source.now; limit = s.limit }) x c.in_ok-offset.offset) c.self.view_is
    (record { texts = it.texts; source = refl; limit = refl; offset_is = it.offset_is })

pub invariant_of-self-then-offset-end : goal.invariant_of-self-then-offset-end
invariant_of-self-then-offset-end g c =
    let s = c.self.inside in
    let x = c.args.text.now in
    (stored_known (borrowed_texts s.texts.items) s.len s.by_text s.source.now s.by_offset s.limit c.self.invariant x c.find_or_store.new.by_text c.in_ok-offset.offset (some_text x c.if-is_empty.ensures) c.in_ok-offset.ensures c.if-offset-end.true).table

pub invariant_of-self-in_err-push_new : goal.invariant_of-self-in_err-push_new
invariant_of-self-in_err-push_new g c =
    let s = c.self.inside in
    let x = c.args.text.now in
    forgotten (borrowed_texts s.texts.items) s.len s.by_text s.source.now s.by_offset s.limit c.self.invariant x c.find_or_store.new.by_text c.in_ok-offset.offset (some_text x c.if-is_empty.ensures) c.in_ok-offset.ensures
    (borrowed_texts c.push_new.new.texts.items) c.push_new.new.by_text (omega (arith, c.if-offset-end.false)) (ap borrowed_texts c.in_err-push_new.ensures.1) c.in_err-push_new.ensures.2

pub returns-in_err-push_new : goal.returns-in_err-push_new
returns-in_err-push_new g c =
    let s = c.self.inside in
    let x = c.args.text.now in
    let past = past_limit (borrowed_texts s.texts.items) s.len s.by_text s.source.now s.by_offset s.limit c.self.invariant x c.find_or_store.new.by_text c.in_ok-offset.offset (some_text x c.if-is_empty.ensures) c.in_ok-offset.ensures (omega (arith, c.if-offset-end.false)) in
    failed_one c.from_residual-in_err-push_new.result _ (FailsToAdd c.args.self.now x) _ c.from_residual-in_err-push_new.ensures.0 c.from_residual-in_err-push_new.ensures.1
    (λ e is. subst (FailsToAdd c.args.self.now x) (sym is) (subst (λ (o : Strings). FailsToAdd o x c.in_err-push_new.field-0.0) c.self.view_is
    (fails_new (record { texts = borrowed_texts s.texts.items; source = s.source.now; limit = s.limit }) x (s.limit - s.len) c.in_err-push_new.field-0.0 past c.in_err-push_new.ensures.0)))

pub invariant_of-self : goal.invariant_of-self
invariant_of-self g c =
    let s = c.self.inside in
    unchanged (borrowed_texts s.texts.items) s.len s.by_text s.source.now s.by_offset s.limit c.self.invariant c.find_or_store.new.by_text c.in_err-offset.ensures

pub invariant_of-self-2 : goal.invariant_of-self-2
invariant_of-self-2 g c =
    let s = c.self.inside in
    let x = c.args.text.now in
    let push = c.in_ok-push_new.ensures in
    (stored_new (borrowed_texts s.texts.items) s.len s.by_text s.source.now s.by_offset s.limit c.self.invariant x c.find_or_store.new.by_text c.in_ok-offset.offset (some_text x c.if-is_empty.ensures) c.in_ok-offset.ensures
    (borrowed_texts c.push_new.new.texts.items) c.push_new.new.by_text _ (omega (arith, c.if-offset-end.false)) push.1 push.0.fits push.0.texts refl).table

pub returns : goal.returns
returns g c =
    let s = c.self.inside in
    let x = c.args.text.now in
    let push = c.in_ok-push_new.ensures in
    let it = stored_new (borrowed_texts s.texts.items) s.len s.by_text s.source.now s.by_offset s.limit c.self.invariant x c.find_or_store.new.by_text c.in_ok-offset.offset (some_text x c.if-is_empty.ensures) c.in_ok-offset.ensures
    (borrowed_texts c.push_new.new.texts.items) c.push_new.new.by_text (s.len + length x + 1) (omega (arith, c.if-offset-end.false)) push.1 push.0.fits push.0.texts refl in
    subst (λ (o : Strings). Adds o (record { texts = borrowed_texts c.push_new.new.texts.items; source = s.source.now; limit = s.limit }) x c.in_ok-offset.offset) c.self.view_is
    (record { texts = it.texts; source = refl; limit = refl; offset_is = it.offset_is })
