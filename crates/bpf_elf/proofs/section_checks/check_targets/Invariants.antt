use Rattle.bpf_elf.specs.Rules.{each, AllHold}
use Rattle.bpf_elf.specs.Sections.{target_rules}
use Rattle.bpf_elf.proofs.section_checks.check_targets.Given as goal

abbrev pub invariant-loop-i : goal.invariant-loop-i
invariant-loop-i l = AllHold (each l.i (target_rules l.bytes))
