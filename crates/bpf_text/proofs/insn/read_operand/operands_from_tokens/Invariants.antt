use Rattle.std.proofs.Common.{◌-◌, ◌+◌, ◌≤◌, length, map, drop}
use Rattle.bpf_text.proofs.InsnLemmas.OperandsLemmas.{ReadSoFar, bytes_of}
use Rattle.bpf_text.proofs.insn.read_operand.operands_from_tokens.Given as goal

abbrev pub invariant-parts : goal.invariant-parts
invariant-parts l = record {
  so_far : ReadSoFar (map bytes_of l.tokens) (map bytes_of (drop l.start l.tokens)) l.operands.items;
  within : l.start ≤ length l.tokens;
}

abbrev pub decreases-parts : goal.decreases-parts
decreases-parts l = (length l.tokens + 1) - l.start
