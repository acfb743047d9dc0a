use Rattle.std.proofs.Common.{◌≡◌, length, take}
use Rattle.bpfcanon_c.specs.BtfRows.{items_of}
use Rattle.bpfcanon_c.proofs.btf_decode.item_total.Given as goal

abbrev pub invariant-loop-k : goal.invariant-loop-k
invariant-loop-k l = l.total ≡ length (items_of (take l.k l.table))
