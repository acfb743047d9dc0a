use Rattle.bpf_elf.specs.Rules.{each, AllHold}
use Rattle.bpf_elf.specs.Sections.{section_rules}
use Rattle.bpf_elf.specs.Headers.{AreKnown, IsTotal}
use Rattle.bpf_elf.proofs.section_checks.check_sections.Given as goal

abbrev pub invariant-loop-i : goal.invariant-loop-i
invariant-loop-i l = AllHold (each l.i (section_rules l.bytes)) × AreKnown l.bytes l.i × IsTotal l.bytes l.i l.total
