use Rattle.std.proofs.Common.{◌<◌, ℕ, List, sym, subst}
use Rattle.bpf_elf.specs.Symbols.{symbol_count}
use Rattle.bpf_elf.proofs.KeptFacts.{symbol_there}
use Rattle.bpf_elf.proofs.SectionFacts.{has_rows}
use Rattle.bpf_elf.proofs.elf.Elf.relocation.Goals as goal

pub relocation_at-requires-clause-rows : goal.relocation_at-requires-clause-rows
relocation_at-requires-clause-rows c =
    has_rows _ _ c.args.i c.self.invariant.1.table.sections (rw (← c.self.view_is) at c.requires.there) (rw (← c.self.view_is) at c.requires.kind)

pub returns-clause-there : goal.returns-clause-there
returns-clause-there c =
    let b = c.self.inside.bytes.now in
    let there =
    symbol_there b c.args.i c.args.k c.self.invariant.0 (rw (← c.self.view_is) at c.requires.there) (rw (← c.self.view_is) at c.requires.kind)
    (rw (← c.self.view_is) at c.requires.row) in
    subst (λ (x : List ℕ). c.relocation_at.result.symbol < symbol_count x) c.self.view_is
    (subst (λ (n : ℕ). n < symbol_count b) (sym c.relocation_at.ensures.symbol) there)
