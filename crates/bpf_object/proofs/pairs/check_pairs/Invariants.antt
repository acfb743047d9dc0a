use Rattle.std.proofs.Common.{length}
use Rattle.bpf_object.specs.declared.extension.Part.TheVariants.{Functions}
use Rattle.bpf_object.specs.private.Cursors.{rest_of}
use Rattle.bpf_object.specs.Sources.{section}
use Rattle.bpf_object.proofs.PairLemmas.{IsLeft}
use Rattle.bpf_object.proofs.pairs.check_pairs.Given as goal

abbrev pub invariant-loop-functions : goal.invariant-loop-functions
invariant-loop-functions g l = IsLeft l.x l.part l.by_name l.functions l.lines

abbrev pub decreases-loop-functions : goal.decreases-loop-functions
decreases-loop-functions g l = length (rest_of (section l.x) Functions l.functions)
