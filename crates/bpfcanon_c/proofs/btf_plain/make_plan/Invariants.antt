use Rattle.std.proofs.Common.{take}
use Rattle.bpfcanon_c.specs.BtfPlanSteps as spec
use Rattle.bpfcanon_c.proofs.btf_plain.make_plan.Given as goal

abbrev pub invariant-loop-k : goal.invariant-loop-k
invariant-loop-k l = spec.AddsTypes l.strings l.items l.names l.types_len (take l.k l.types)
