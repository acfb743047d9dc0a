use Rattle.std.proofs.Common.{◌≡◌, ℕ, List, ◌<◌, ◌≤◌, false, get_or}
use Rattle.std.specs.Borrow.{Bor}
use Rattle.bpf_text.specs.insn.Operands.{is_comma}
use Rattle.bpf_text.proofs.insn.read_operand.part_end.Given as goal

abbrev pub invariant-loop-i : goal.invariant-loop-i
invariant-loop-i l = (k : ℕ) (d : Bor (List ℕ)) → l.start ≤ k → k < l.i → is_comma (get_or l.tokens k d).now ≡ false
