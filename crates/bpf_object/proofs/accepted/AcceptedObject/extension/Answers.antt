use Rattle.std.proofs.Common.{◌≡◌, ℕ, ◌<◌, List, refl, ap, ◌∙◌, subst, arith}
use Rattle.bpf_object.specs.Denotes.{extension_at, extension_of}
use Rattle.bpf_object.specs.SourceLines.{types_strings, extension}
use Rattle.bpf_object.specs.Sources.{section}
use Rattle.bpf_object.proofs.AcceptedLemmas.{has_extension, extension_known}
use Rattle.bpf_object.proofs.accepted.AcceptedObject.extension.Goals as goal

pub strings_in-strings-requires : goal.strings_in-strings-requires
strings_in-strings-requires c =
    let b = c.self.inside.elf in
    let found : 0 < c.section_of.result = omega (arith, c.if-section_of-eq0.false) in
    let some : 0 < extension_at b = subst (λ (n : ℕ). 0 < n) c.section_of.ensures.value found in
    rw (c.order.ensures, c.content-types.ensures.value, c.section_of-2.ensures.value) (has_extension b c.self.invariant some).table

pub returns : goal.returns
returns c =
    let b = c.self.inside.elf in
    let found : 0 < c.section_of.result = omega (arith, c.if-section_of-eq0.false) in
    let some : 0 < extension_at b = subst (λ (n : ℕ). 0 < n) c.section_of.ensures.value found in
    let strings : c.strings_in-strings.result.now ≡ types_strings b =
    c.strings_in-strings.ensures.value ∙ rw (c.order.ensures, c.content-types.ensures.value, c.section_of-2.ensures.value) (refl {a = types_strings b}) in
    let is : section c.own_extension.result ≡ extension b = c.own_extension.ensures.is ∙ ap (extension_of b) strings in (
      subst (λ (x : List ℕ). section c.own_extension.result ≡ extension x) c.self.view_is is,
      extension_known c.own_extension.result b (has_extension b c.self.invariant some) c.own_extension.ensures.source is,
    )
