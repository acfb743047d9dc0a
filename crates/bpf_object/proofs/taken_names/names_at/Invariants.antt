use Rattle.std.proofs.Common.{◌≡◌, map, take}
use Rattle.bpf_elf.specs.Names.{string_at}
use Rattle.bpf_object.specs.private.NameRanks.{name_key}
use Rattle.bpf_object.specs.private.TakenNames.{key_of}
use Rattle.bpf_object.proofs.taken_names.names_at.Given as goal

abbrev pub invariant-loop-off : goal.invariant-loop-off
invariant-loop-off g l = record {
  known : l.known ≡ string_at l.strings l.last;
  names : map key_of l.names.items ≡ map (name_key l.strings) (take l.off-index l.offsets);
}
