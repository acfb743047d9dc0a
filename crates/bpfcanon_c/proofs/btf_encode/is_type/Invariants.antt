use Rattle.std.proofs.Common.{take}
use Rattle.std.specs.List.{AllZip}
use Rattle.btf_types.specs.tables.TableWords.{record_at}
use Rattle.bpfcanon_c.specs.BtfPlanSteps.{HasItemFields}
use Rattle.bpfcanon_c.proofs.btf_encode.is_type.Given as goal

abbrev pub invariant-loop-k : goal.invariant-loop-k
invariant-loop-k l = AllZip HasItemFields (take l.k l.own) (take l.k (record_at l.table l.id).items)
