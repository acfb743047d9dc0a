use Rattle.std.proofs.Common.{rules}
use Rattle.bpf_elf.proofs.SectionFacts.{has_symbol_section}
use Rattle.bpf_elf.proofs.symbols.read_symbol_table.Goals as goal

pub check_symbol_table-requires : goal.check_symbol_table-requires
check_symbol_table-requires c =
    has_symbol_section c.args.bytes.now c.args.header _ c.requires (rw c.requires.names.header.count at c.section_of-i.ensures) (search rules)
