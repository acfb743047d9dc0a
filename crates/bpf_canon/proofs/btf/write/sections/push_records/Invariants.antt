use Rattle.std.proofs.Common.{◌≡◌, ◌++◌, map, take}
use Rattle.btf_raw.specs.Frames.{section_of}
use Rattle.btf_types.specs.Reading.{record_of}
use Rattle.bpf_canon.specs.btf.CanonicalBtf.{record_words}
use Rattle.bpf_canon.proofs.btf.write.sections.push_records.Given as goal

-- the records so far
abbrev pub invariant-loop-index : goal.invariant-loop-index
invariant-loop-index g l =
    l.out.items ≡ l.initial.out.items
    ++ section_of l.to (map (record_words (g.N.NewOffsets.offset_of l.names)) (map (record_of l.sections.strings) (take l.index l.sections.frames)))
