use Rattle.std.proofs.Common.{sym, length}
use Rattle.bpf_object.specs.Denotes.{result_limit}
use Rattle.bpf_object.proofs.ObjectWriterLemmas.{kept_written}
use Rattle.bpf_object.proofs.section_writer.push_if_kept.Goals as goal

pub returns : goal.returns
returns g c =
    kept_written c.args.elf.now (result_limit (length c.args.elf.now)) c.args.symtab c.args.i c.args.names.now c.push_section.new.names c.args.file.now c.push_section.new.file c.push_section.result
    (sym c.if-not-is_kept_section.ensures) c.push_section.ensures
