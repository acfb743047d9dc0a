use Rattle.std.proofs.Common.{◌≡◌, ◌+◌, ◌-◌, take}
use Rattle.std.specs.List.{sum_by}
use Rattle.bpfcanon_c.specs.BtfPlain.{row_size}
use Rattle.bpfcanon_c.proofs.btf_plain.index_at.Given as goal

-- what is left of the offset after the records so far
abbrev pub invariant-loop-k : goal.invariant-loop-k
invariant-loop-k l = l.left + sum_by row_size (take l.k l.types) ≡ l.pos - 24
