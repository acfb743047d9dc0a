use Rattle.std.proofs.Common.{take}
use Rattle.std.specs.List.{AllZip}
use Rattle.bpfcanon_c.specs.BtfPlanSteps.{HasFields}
use Rattle.bpfcanon_c.proofs.btf_encode.first_unlike.Given as goal

abbrev pub invariant-loop-k : goal.invariant-loop-k
invariant-loop-k l = AllZip (HasFields l.items) (take l.k l.types) (take l.k l.table)
