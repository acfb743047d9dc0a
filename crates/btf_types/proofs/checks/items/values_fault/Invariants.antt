use Rattle.std.proofs.Common.{◌+◌, ◌*◌}
use Rattle.btf_types.specs.checks.RecordFaults.{NoneWithin}
use Rattle.btf_types.proofs.checks.items.values_fault.Given as goal

abbrev pub invariant-loop-k : goal.invariant-loop-k
invariant-loop-k l = NoneWithin l.section l.this 3 (3 + l.step * l.k)
