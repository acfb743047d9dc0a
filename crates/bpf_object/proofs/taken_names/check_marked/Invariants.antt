use Rattle.std.proofs.Common.{◌≡◌}
use Rattle.bpf_elf.specs.Rules.{each, AllHold}
use Rattle.bpf_object.specs.Types.{record_offset, name_rules}
use Rattle.bpf_object.proofs.taken_names.check_marked.Given as goal

abbrev pub invariant-loop-k : goal.invariant-loop-k
invariant-loop-k l = record {
  place : l.pos ≡ record_offset l.first l.sections l.k;
  before : AllHold (each l.k (name_rules l.first l.sections));
}
