use Rattle.std.proofs.Common.{◌≡◌, ◌∷◌, ◌++◌, take}
use Rattle.std.specs.List.{flat_map}
use Rattle.bpf_canon.specs.btf.strings.HostOffsets.{span_bytes}
use Rattle.bpf_canon.proofs.btf.strings.shared_offsets.SharedOffsets.push_table.Given as goal

abbrev pub invariant-loop-span : goal.invariant-loop-span
invariant-loop-span g l = l.out.items ≡ l.fn.out.items ++ 0 ∷ flat_map (span_bytes l.self-inside.strings.now) (take l.span-index l.self-inside.spans.items)
