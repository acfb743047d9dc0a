use Rattle.bpf_object.proofs.TableLemmas.{written_is}
use Rattle.std.proofs.Common.{refl}
use Rattle.bpf_object.proofs.section_writer.new_header.Goals as goal

pub returns : goal.returns
returns c place is =
    let row = c.section-section.ensures.fields in
    written_is c.args.elf.now place c.args.symtab c.args.i _ is row.section_type row.flags row.address row.size c.link_of.ensures c.target.ensures row.alignment row.entry_size refl
