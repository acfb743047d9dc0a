use Rattle.bpf_elf.proofs.NameStarts.{nameless_start}
use Rattle.bpf_elf.proofs.kept_symbols.is_empty.Goals as goal

pub returns : goal.returns
returns c = nameless_start c.args.strings.now c.args.off c.requires
