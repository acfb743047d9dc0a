-- The first records are there.
use Rattle.std.proofs.Common.{◌≡◌, ◌++◌, take}
use Rattle.std.specs.List.{flat_map}
use Rattle.bpf_object.specs.private.{NotedStrings.text_offset, TypeSteps.numbered}
use Rattle.bpf_object.proofs.WritableRecords.{new_bytes}
use Rattle.bpf_object.proofs.record_writer.push_records.Given as goal

abbrev pub invariant-loop-k : goal.invariant-loop-k
invariant-loop-k g l =
    l.out.items ≡ l.initial.out.items ++ flat_map (new_bytes l.to (text_offset l.names) l.sections (numbered l.numbers)) (take l.k l.ids)
