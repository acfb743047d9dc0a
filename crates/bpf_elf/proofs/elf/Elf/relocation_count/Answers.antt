use Rattle.bpf_elf.proofs.SectionFacts.{has_rows}
use Rattle.bpf_elf.proofs.elf.Elf.relocation_count.Goals as goal

pub relocation_count-requires : goal.relocation_count-requires
relocation_count-requires c =
    has_rows _ _ c.args.i c.self.invariant.1.table.sections (rw (← c.self.view_is) at c.requires.there) (rw (← c.self.view_is) at c.requires.kind)
