use Rattle.std.proofs.Common.{◌≡◌}
use Rattle.bpf_elf.specs.Symbols.{is_kept_symbol}
use Rattle.bpf_object.specs.{Kept.number_of, private.SymbolRows.globals_from}
use Rattle.bpf_object.proofs.symbol_rows.first_global.Given as goal

abbrev pub invariant-loop-j : goal.invariant-loop-j
invariant-loop-j l = (l.number ≡ number_of (is_kept_symbol l.elf) l.j) × (l.first ≡ globals_from l.elf l.j)
