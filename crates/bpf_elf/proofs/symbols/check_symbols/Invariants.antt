use Rattle.bpf_elf.specs.Rules.{each, AllHold}
use Rattle.bpf_elf.specs.Symbols.{symbol_rules}
use Rattle.bpf_elf.proofs.symbols.check_symbols.Given as goal

abbrev pub invariant-loop-j : goal.invariant-loop-j
invariant-loop-j l = AllHold (each l.j (symbol_rules l.bytes))
