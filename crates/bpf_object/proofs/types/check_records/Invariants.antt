use Rattle.std.proofs.Common.{◌≡◌}
use Rattle.bpf_elf.specs.Rules.{each, AllHold}
use Rattle.bpf_object.specs.Types.{record_offset, rules_of}
use Rattle.bpf_object.proofs.types.check_records.Given as goal

abbrev pub invariant-loop-k : goal.invariant-loop-k
invariant-loop-k l = record {
  place : l.pos ≡ record_offset l.first l.sections l.k;
  before : AllHold (each l.k (rules_of l.first l.sections));
}
