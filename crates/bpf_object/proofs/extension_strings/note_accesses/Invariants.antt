use Rattle.std.proofs.Common.{◌≡◌, true}
use Rattle.bpf_canon.specs.btf.strings.FirstUses.{noted_all}
use Rattle.bpf_object.specs.Groups.{access_off}
use Rattle.bpf_object.specs.Kept.{listed}
use Rattle.bpf_object.specs.Sources.{section}
use Rattle.bpf_object.proofs.extension_strings.note_accesses.Given as goal

abbrev pub invariant-loop-k : goal.invariant-loop-k
invariant-loop-k g l =
    (l.uses.strings ≡ l.x.strings.now)
    × (l.uses.offsets ≡ noted_all l.initial.uses.offsets (listed (λ k. true) (access_off (section l.x) l.group) l.k))
