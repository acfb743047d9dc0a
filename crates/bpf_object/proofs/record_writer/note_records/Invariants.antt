-- The names of the first records are noted.
use Rattle.std.proofs.Common.{◌≡◌, take}
use Rattle.std.specs.List.{flat_map}
use Rattle.bpf_canon.specs.btf.{strings.FirstUses.noted_all, write.NameOffsets.name_offsets}
use Rattle.bpf_object.specs.TypeOrder.{frame_of}
use Rattle.bpf_object.proofs.record_writer.note_records.Given as goal

abbrev pub invariant-loop-k : goal.invariant-loop-k
invariant-loop-k g l = record {
  strings : l.uses.strings ≡ l.sections.strings;
  offsets : l.uses.offsets ≡ noted_all l.initial.uses.offsets (flat_map (λ id. name_offsets (frame_of l.sections id)) (take l.k l.ids));
}
