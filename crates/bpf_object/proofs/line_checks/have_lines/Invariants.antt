use Rattle.std.proofs.Common.{◌≡◌, ℕ, ◌<◌, ◌≤◌, true}
use Rattle.bpf_object.specs.declared.extension.Part.TheVariants.{Functions}
use Rattle.bpf_object.specs.Extension.{group_count}
use Rattle.bpf_object.specs.Lines.{all_of, has_record, insn_off}
use Rattle.bpf_object.specs.Sources.{section}
use Rattle.bpf_object.proofs.line_checks.have_lines.Given as goal

abbrev pub invariant-loop-k : goal.invariant-loop-k
invariant-loop-k l =
    (all_of l.k (λ k. has_record (section l.x) l.part l.lines (insn_off (section l.x) Functions l.functions k)) ≡ true)
    × ((l.line ≤ group_count (section l.x) l.lines)
    × (l.k < group_count (section l.x) l.functions
    → (j : ℕ) → j < l.line → insn_off (section l.x) l.part l.lines j < insn_off (section l.x) Functions l.functions l.k))
