use Rattle.std.proofs.Common.{◌≡◌, map, take}
use Rattle.bpf_canon.specs.btf.strings.HostOffsets.{new_name_offset}
use Rattle.bpf_canon.proofs.btf.strings.shared_offsets.new_name_offsets.Given as goal

abbrev pub invariant-loop-at : goal.invariant-loop-at
invariant-loop-at g l = l.text_offsets.items ≡ map (new_name_offset l.by_rank) (take l.at-index l.in_hosts)
