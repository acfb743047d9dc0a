-- The names of the first records are there.
use Rattle.bpf_object.specs.private.TypeSteps.{AreNameOffsets}
use Rattle.bpf_object.proofs.type_names.name_offsets.Given as goal

abbrev pub invariant-loop-index : goal.invariant-loop-index
invariant-loop-index g l = AreNameOffsets l.sections l.index l.offsets.items
