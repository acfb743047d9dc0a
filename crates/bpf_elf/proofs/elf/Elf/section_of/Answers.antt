use Rattle.std.proofs.Common.{◌<◌, ℕ, List, ap, sym, ◌∙◌, subst}
use Rattle.bpf_elf.specs.{Numbers.count, Sections.section_of}
use Rattle.bpf_elf.proofs.SectionFacts.{section_there}
use Rattle.bpf_elf.proofs.elf.Elf.section_of.Goals as goal

pub returns-clause-there : goal.returns-clause-there
returns-clause-there c =
    let b = c.self.inside.bytes.now in
    let header = c.self.invariant.1.table.sections.names.header in
    let same = c.section_of.ensures ∙ ap (section_of b c.args.wanted) header.count in
    subst (λ (x : List ℕ). c.section_of.result < count x) c.self.view_is
    (subst (λ (n : ℕ). n < count b) (sym same) (section_there b c.args.wanted header.some))
