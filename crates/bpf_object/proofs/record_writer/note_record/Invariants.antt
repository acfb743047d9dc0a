-- The names of the first items are noted.
use Rattle.std.proofs.Common.{◌≡◌}
use Rattle.btf_types.specs.Reading.{tabulate}
use Rattle.bpf_canon.specs.btf.{strings.FirstUses.noted_all, write.NameOffsets.item_word}
use Rattle.bpf_object.proofs.record_writer.note_record.Given as goal

abbrev pub invariant-loop-k : goal.invariant-loop-k
invariant-loop-k g l = record {
  strings : l.uses.strings ≡ l.initial.uses.strings;
  offsets : l.uses.offsets ≡ noted_all l.initial.uses.offsets (tabulate (item_word l.this) l.k);
}
