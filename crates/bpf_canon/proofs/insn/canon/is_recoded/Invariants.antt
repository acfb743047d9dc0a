use Rattle.std.proofs.Common.{length}
use Rattle.bpf_canon.proofs.InsnLemmas.Comparing.{SwappedFront}
use Rattle.bpf_canon.proofs.insn.canon.is_recoded.Given as goal

abbrev pub invariant-slots : goal.invariant-slots
invariant-slots l = SwappedFront l.fn.order_a l.fn.order_b l.fn.a l.left l.fn.b l.right

abbrev pub decreases-slots : goal.decreases-slots
decreases-slots l = length l.left
