use Rattle.bpf_elf.specs.Rules.{each, AllHold}
use Rattle.bpf_object.specs.Types.{item_rules}
use Rattle.bpf_object.proofs.type_checks.check_items.Given as goal

abbrev pub invariant-loop-k : goal.invariant-loop-k
invariant-loop-k l = AllHold (each l.k (item_rules l.strings l.pos l.this))
