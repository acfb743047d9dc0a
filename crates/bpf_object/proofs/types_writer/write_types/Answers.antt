use Rattle.std.proofs.Common.{◌<◌, length, inl, refl, sym}
use Rattle.bpf_canon.specs.btf.strings.{NamesByOffset.texts_by_offset, DistinctNames.distinct_table}
use Rattle.bpf_object.specs.Sources.{section}
use Rattle.bpf_object.specs.private.{TypeSteps.numbered, WrittenRecords.renewed, WrittenTypes.both_names}
use Rattle.bpf_object.proofs.FitLemmas.{long_table}
use Rattle.bpf_object.proofs.types_writer.write_types.Goals as goal

pub find_names-requires-clause-ids : goal.find_names-requires-clause-ids
find_names-requires-clause-ids g c = c.requires.writable.inside

pub returns-in_default : goal.returns-in_default
returns-in_default g c =
    let w = renewed c.args.sections.now c.args.ids.now c.args.x.numbers.now in
    let names = both_names w (section c.args.x) in
    let long : c.min-short.result < length (distinct_table (texts_by_offset names)) = rw c.in_default.is at c.in_ok-names.ensures in
    inl (rw c.min-short.ensures at (long_table w (section c.args.x) (numbered c.args.x.numbers.now) (sym c.requires.strings) c.requires.writable.table names refl c.min-short.result long))
