use Rattle.bpf_elf.specs.Rules.{each, AllHold}
use Rattle.bpf_object.specs.Lines.{access_rules}
use Rattle.bpf_object.specs.Sources.{section}
use Rattle.bpf_object.proofs.access_checks.check_group_accesses.Given as goal

abbrev pub invariant-loop-k : goal.invariant-loop-k
invariant-loop-k l = AllHold (each l.k (access_rules (section l.x) l.group))
