use Rattle.std.proofs.Common.{refl, sym, ap, ◌∙◌, subst}
use Rattle.bpf_elf.specs.Names.{string_at as spec_string_at}
use Rattle.bpf_canon.specs.btf.names.Interned.{borrowed_texts}
use Rattle.bpf_object.specs.private.Names.{Strings, Adds}
use Rattle.bpf_object.proofs.NamesLemmas.{known_again, known_stored, known_same, IsKnown, known_now}
use Rattle.bpf_object.proofs.names.Names.at.Goals as goal

pub returns-in-Some : goal.returns-in-Some
returns-in-Some g c =
    let s = c.self.inside in
    let it = c.self.invariant in
    let x = spec_string_at s.source.now c.args.off in
    let k = it.offsets c.args.off c.in-Some.offset.now (sym c.in-Some.ensures.value) in
    subst (λ (o : Strings). Adds o o (spec_string_at o.source c.args.off) c.in-Some.offset.now) c.self.view_is
    (record { texts = sym (known_again _ it.own x k.0); source = refl; limit = refl; offset_is = k.1 })

pub invariant_of-self-in_err-store : goal.invariant_of-self-in_err-store
invariant_of-self-in_err-store g c =
    let s = c.self-2.inside in
    known_same (borrowed_texts s.texts.items) s.len s.by_text s.source.now s.by_offset s.limit c.self-2.invariant c.store.new.by_offset c.in_err-store.ensures

pub invariant_of-self : goal.invariant_of-self
invariant_of-self g c =
    let s = c.self-2.inside in
    let known = subst (λ (n : Strings). IsKnown n c.args.off c.in_ok-offset.offset) (sym c.self-2.view_is)
    (known_now c.args.self.now c.text.new.self c.string_at-text.result.now c.args.off c.in_ok-offset.offset c.in_ok-offset.ensures (c.string_at-text.ensures ∙ ap (λ (o : Strings). spec_string_at o.source c.args.off) c.self.view_is)) in
    known_stored (borrowed_texts s.texts.items) s.len s.by_text s.source.now s.by_offset s.limit c.self-2.invariant c.store.new.by_offset c.args.off c.in_ok-offset.offset known.0 known.1 c.in_ok-store.ensures
