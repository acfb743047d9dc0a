use Rattle.std.proofs.Common.{◌≡◌, take}
use Rattle.bpf_canon.specs.btf.strings.FirstUses.{noted_all}
use Rattle.bpf_object.specs.Sources.{section}
use Rattle.bpf_object.specs.private.WrittenGroups.{groups_offsets}
use Rattle.bpf_object.proofs.extension_strings.note_groups.Given as goal

abbrev pub invariant-loop-k : goal.invariant-loop-k
invariant-loop-k g l =
    (l.uses.strings ≡ l.x.strings.now)
    × (l.uses.offsets ≡ noted_all l.initial.uses.offsets (groups_offsets (section l.x) l.part (take l.k l.groups)))
