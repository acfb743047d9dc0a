use Rattle.std.proofs.Common.{take}
use Rattle.bpfcanon_c.specs.BtfPlanSteps as spec
use Rattle.bpfcanon_c.proofs.btf_plain.with_type.Given as goal

abbrev pub invariant-loop-k : goal.invariant-loop-k
invariant-loop-k l = spec.AddsNames l.strings l.fn.part l.part l.row (take l.k l.own)
