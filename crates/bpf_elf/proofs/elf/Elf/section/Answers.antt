use Rattle.std.proofs.Common.{◌<◌, ℕ, List, length, sym, subst}
use Rattle.std.proofs.lemmas.Bool.{ltb-true}
use Rattle.bpf_elf.specs.{Numbers.count, Numbers.names, Numbers.name_off, Sections.content}
use Rattle.bpf_elf.proofs.KeptFacts.{target_there, both}
use Rattle.bpf_elf.proofs.elf.Elf.section.Goals as goal

pub returns-clause-named : goal.returns-clause-named
returns-clause-named c =
    let b = c.self.inside.bytes.now in
    let known = c.self.invariant.1.table.sections.known c.args.i (rw (← c.self.view_is) at c.requires) in
    let there : name_off b c.args.i < length (content b (names b)) = ltb-true _ _ (both _ _ known.named).0 in
    subst (λ (x : List ℕ). c.section_header.result.name_offset < length (content x (names x))) c.self.view_is
    (subst (λ (n : ℕ). n < length (content b (names b))) (sym c.section_header.ensures.name_offset) there)

pub returns-clause-target : goal.returns-clause-target
returns-clause-target c =
    λ is.
    let b = c.self.inside.bytes.now in
    let there = target_there b c.args.i c.self.invariant.0 (rw (← c.self.view_is) at c.requires) (rw (← c.self.view_is) at is) in
    subst (λ (x : List ℕ). c.section_header.result.info < count x) c.self.view_is
    (subst (λ (n : ℕ). n < count b) (sym c.section_header.ensures.info) there)
