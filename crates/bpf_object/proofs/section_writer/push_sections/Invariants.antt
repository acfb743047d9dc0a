use Rattle.std.proofs.Common.{ℕ, List, ◌++◌, length}
use Rattle.btf_types.specs.Names.{kept}
use Rattle.bpf_object.specs.Denotes.{result_limit}
use Rattle.bpf_object.specs.private.ObjectWriter.{HasWritten, section_names, written_first}
use Rattle.bpf_object.specs.Canonical.{offset_of}
use Rattle.bpf_object.specs.private.Names.{Extends}
use Rattle.bpf_object.proofs.section_writer.push_sections.Given as goal

abbrev pub invariant-loop-i : goal.invariant-loop-i
invariant-loop-i g l =
    (all : List (List ℕ)) → Extends all (kept (l.initial.names.texts ++ section_names l.elf l.i))
    → HasWritten (result_limit (length l.elf)) (section_names l.elf l.i) (written_first l.elf l.symtab l.i (offset_of all)) l.initial.names l.names l.initial.file l.file
