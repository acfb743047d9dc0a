use Rattle.std.proofs.Common.{◌≡◌, take}
use Rattle.bpf_object.specs.private.TakenNames.{names_of}
use Rattle.bpf_object.proofs.taken_names.all_offsets.Given as goal

abbrev pub invariant-loop-index : goal.invariant-loop-index
invariant-loop-index g l = l.offsets.items ≡ names_of l.kind (take l.index l.sections.frames)
