-- The first fields are there.
use Rattle.std.proofs.Common.{◌≡◌, ◌++◌}
use Rattle.btf_raw.specs.Frames.{bytes_of}
use Rattle.btf_types.specs.Reading.{tabulate}
use Rattle.bpf_object.specs.TypeOrder.{renewed_frame}
use Rattle.bpf_object.specs.private.{NotedStrings.text_offset, TypeSteps.numbered, WrittenRecords.placed_word}
use Rattle.bpf_object.proofs.record_writer.push_record.Given as goal

abbrev pub invariant-loop-j : goal.invariant-loop-j
invariant-loop-j g l =
    l.out.items ≡ l.initial.out.items ++ bytes_of l.to (tabulate (placed_word (text_offset l.names) l.names.strings (renewed_frame (numbered l.numbers) l.this)) l.j)
