use Rattle.bpf_elf.specs.Rules.{each, AllHold}
use Rattle.bpf_elf.specs.Relocations.{relocation_table_rules}
use Rattle.bpf_elf.proofs.relocations.check_relocations.Given as goal

abbrev pub invariant-loop-i : goal.invariant-loop-i
invariant-loop-i l = AllHold (each l.i (relocation_table_rules l.bytes))
