use Rattle.std.proofs.Common.{◌≡◌, map, take}
use Rattle.btf_raw.specs.Frames.{section_of}
use Rattle.btf_types.specs.{Names.kept, Names.names, strings.SharedNames.shared_among}
use Rattle.bpf_canon.specs.btf.CanonicalBtf.{record_words}
use Rattle.bpf_canon.proofs.btf.write.table.write_named.Given as goal

-- the records so far
abbrev pub invariant-loop-index : goal.invariant-loop-index
invariant-loop-index g l =
    let v = g.T.TypeTable.meaning l.table in
    l.types.items ≡ section_of l.order (map (record_words (shared_among (kept (names v)))) (take l.index v))
