use Rattle.bpf_elf.specs.Rules.{each, AllHold}
use Rattle.bpf_elf.specs.Relocations.{relocation_rules}
use Rattle.bpf_elf.proofs.relocations.check_rows.Given as goal

abbrev pub invariant-loop-k : goal.invariant-loop-k
invariant-loop-k l = AllHold (each l.k (relocation_rules l.bytes l.i))
