use Rattle.std.proofs.Common.{sym, ◌∙◌}
use Rattle.bpf_elf.proofs.SectionFacts.{has_rows}
use Rattle.bpf_elf.proofs.relocations.check_table.Goals as goal

pub check_kept_table-requires-clause-rows : goal.check_kept_table-requires-clause-rows
check_kept_table-requires-clause-rows c =
    has_rows c.args.bytes.now c.args.header c.args.i c.requires.symbols.table.sections c.requires.there
    (rw c.kind.ensures at (sym c.is_kind.ensures ∙ c.if-is_kind.true))
