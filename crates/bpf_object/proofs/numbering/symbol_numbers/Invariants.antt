use Rattle.std.proofs.Common.{◌≡◌}
use Rattle.bpf_elf.specs.Symbols.{is_kept_symbol}
use Rattle.bpf_object.specs.Kept as spec
use Rattle.bpf_object.proofs.numbering.symbol_numbers.Given as goal

abbrev pub invariant-loop-j : goal.invariant-loop-j
invariant-loop-j g l =
    (l.numbers.items ≡ spec.numbers (is_kept_symbol l.elf) l.j) × (l.number ≡ spec.number_of (is_kept_symbol l.elf) l.j)
