use Rattle.std.proofs.Common.{ap, sym, ◌∙◌}
use Rattle.std.proofs.lemmas.Result.{on_ok_weaker}
use Rattle.bpf_canon.specs.btf.{strings.FirstUses.noted_all, write.NameOffsets.all_offsets}
use Rattle.bpf_object.specs.declared.extension.Part.TheVariants.{Functions, Relocations}
use Rattle.bpf_object.specs.Extension.{groups}
use Rattle.bpf_object.specs.Sources.{section}
use Rattle.bpf_object.specs.private.WrittenGroups.{groups_offsets}
use Rattle.bpf_object.specs.private.{TypeSteps.numbered, WrittenRecords.renewed}
use Rattle.bpf_object.proofs.{NotedLemmas.three_noted, WritableRecords.all_names_kept}
use Rattle.bpf_object.proofs.types_writer.note_both.Goals as goal

pub returns-clause-offsets : goal.returns-clause-offsets
returns-clause-offsets g c =
    let s = section c.args.x in
    on_ok_weaker c.note_groups-2.result
    (λ e. three_noted c.args.uses.now.offsets _ _ _ (all_offsets (renewed c.args.sections.now c.args.ids.now c.args.x.numbers.now).frames) (groups_offsets s Functions c.args.functions.now)
    (groups_offsets s Relocations c.args.relocations.now) (groups_offsets s Functions (groups s Functions)) (groups_offsets s Relocations (groups s Relocations))
    (c.in_ok-note_records.ensures.offsets ∙ ap (noted_all c.args.uses.now.offsets) (sym (all_names_kept c.args.sections.now (numbered c.args.x.numbers.now) c.args.ids.now)))
    c.in_ok-note_groups.ensures.offsets e (ap (groups_offsets s Functions) c.requires.functions.all)
    (ap (groups_offsets s Relocations) c.requires.relocations.all))
    c.note_groups-2.ensures.offsets
