use Rattle.std.proofs.Common.{◌≡◌}
use Rattle.bpf_object.specs.Kept as spec
use Rattle.bpf_object.proofs.numbering.section_numbers.Given as goal

abbrev pub invariant-loop-i : goal.invariant-loop-i
invariant-loop-i g l =
    (l.numbers.items ≡ spec.numbers (spec.is_kept_section l.elf) l.i) × (l.number ≡ spec.number_of (spec.is_kept_section l.elf) l.i)
