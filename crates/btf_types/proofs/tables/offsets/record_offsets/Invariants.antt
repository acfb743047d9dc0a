use Rattle.std.proofs.Common.{◌-◌, length}
use Rattle.btf_types.proofs.CheckLemmas.FramingSteps.{IsFramedTo}
use Rattle.btf_types.proofs.tables.offsets.record_offsets.Given as goal

abbrev pub invariant-loop-pos : goal.invariant-loop-pos
invariant-loop-pos g l = IsFramedTo l.order l.types l.offsets.items l.pos

abbrev pub decreases-loop-pos : goal.decreases-loop-pos
decreases-loop-pos g l = length l.initial.types - l.pos
