use Rattle.std.proofs.Common.{ℕ, ◌<◌, ◌≤◌}
use Rattle.bpf_object.specs.Lines.{insn_off}
use Rattle.bpf_object.specs.Sources.{section}
use Rattle.bpf_object.proofs.line_checks.record_from.Given as goal

abbrev pub invariant-loop-k : goal.invariant-loop-k
invariant-loop-k l = (j : ℕ) → l.from ≤ j → j < l.k → insn_off (section l.x) l.part l.group j < l.off
