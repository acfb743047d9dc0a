use Rattle.std.proofs.Common.{◌∙◌, take, get_or}
use Rattle.bpf_object.specs.Sources.{section}
use Rattle.bpf_object.specs.private.WrittenGroups.{group_offsets, groups_offsets}
use Rattle.bpf_object.proofs.NotedLemmas.{noted_after}
use Rattle.bpf_object.proofs.WrittenStrings.{taken_next}
use Rattle.bpf_object.proofs.extension_strings.note_groups.Goals as goal

pub note_group-requires-clause-inside : goal.note_group-requires-clause-inside
note_group-requires-clause-inside g c = c.requires.inside c.loop-k.k 0 c.loop-k-test.true

pub loop-k-preserved : goal.loop-k-preserved
loop-k-preserved g c =
    let s = section c.args.x in
    let gs = c.args.groups.now in
    let next = taken_next (group_offsets s c.args.part) gs c.loop-k.k 0 c.loop-k-test.true in (
      c.note_group.ensures.strings ∙ c.loop-k.invariant.0,
      noted_after _ _ _ (groups_offsets s c.args.part (take c.loop-k.k gs)) (group_offsets s c.args.part (get_or gs c.loop-k.k 0)) _ c.loop-k.invariant.1
          c.in_ok-note_group.ensures.offsets next,
    )
