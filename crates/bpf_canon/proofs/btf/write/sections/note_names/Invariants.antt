use Rattle.std.proofs.Common.{◌≡◌, take}
use Rattle.bpf_canon.specs.btf.{strings.FirstUses.noted_all, write.NameOffsets.all_offsets}
use Rattle.bpf_canon.proofs.btf.write.sections.note_names.Given as goal

-- the records so far
abbrev pub invariant-loop-index : goal.invariant-loop-index
invariant-loop-index g l = record {
  strings : l.uses.strings ≡ l.sections.strings;
  offsets : l.uses.offsets ≡ noted_all l.initial.uses.offsets (all_offsets (take l.index l.sections.frames));
}
