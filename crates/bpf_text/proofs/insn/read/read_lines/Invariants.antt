use Rattle.std.proofs.Common.{◌+◌, ◌≤◌, length}
use Rattle.bpf_text.proofs.InsnLemmas.TakenLines.{TakenSoFar}
use Rattle.bpf_text.proofs.insn.read.read_lines.Given as goal

abbrev pub invariant-lines : goal.invariant-lines
invariant-lines g l = record {
  so_far : TakenSoFar (goal.F-post g l.take) l.text l.rest l.fn.sink l.sink l.number;
  bound : l.number + length l.rest ≤ length l.text + 1;
}

abbrev pub decreases-lines : goal.decreases-lines
decreases-lines g l = length l.rest
