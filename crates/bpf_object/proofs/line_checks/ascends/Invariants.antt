use Rattle.std.proofs.Common.{◌≡◌, ◌-◌, ◌==◌, ◌||◌, true}
use Rattle.std.specs.Prelude.{nat_lt}
use Rattle.bpf_object.specs.Lines.{all_of, insn_off}
use Rattle.bpf_object.specs.Sources.{section}
use Rattle.bpf_object.proofs.line_checks.ascends.Given as goal

abbrev pub invariant-loop-k : goal.invariant-loop-k
invariant-loop-k l =
    all_of l.k (λ k. k == 0 || nat_lt (insn_off (section l.x) l.part l.group (k - 1)) (insn_off (section l.x) l.part l.group k)) ≡ true
