use Rattle.std.proofs.lemmas.List.{take_rest}
use Rattle.bpf_elf.proofs.NameLemmas.{string_found}
use Rattle.bpf_elf.proofs.names.string_at.Goals as goal

pub returns : goal.returns
returns c =
    let found = rw (c.unwrap.ensures, take_rest) at c.memchr.ensures in
    string_found c.args.strings.now c.args.off _ found.0 found.1
