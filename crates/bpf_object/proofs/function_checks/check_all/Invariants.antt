use Rattle.bpf_elf.specs.Rules.{each, AllHold}
use Rattle.bpf_object.specs.FunctionLines.{function_rules}
use Rattle.bpf_object.specs.Sources.{section}
use Rattle.bpf_object.proofs.function_checks.check_all.Given as goal

abbrev pub invariant-loop-j : goal.invariant-loop-j
invariant-loop-j l = AllHold (each l.j (function_rules l.elf (section l.x)))
