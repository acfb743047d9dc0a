use Rattle.std.proofs.Common.{◌≡◌, ◌<◌, length, get_or}
use Rattle.bpf_canon.specs.btf.names.Interned.{borrowed_texts}
use Rattle.bpf_canon.proofs.BtfLemmas.Names.HostIndices.{Named, HostsFrom}
use Rattle.bpf_canon.proofs.btf.names.found_hosts.Given as goal

-- the names from this rank on, and the host of this one
abbrev pub invariant-loop-rank : goal.invariant-loop-rank
invariant-loop-rank g l =
    HostsFrom (borrowed_texts l.names) l.sorted.items l.host_indices.items l.rank
    × ((e : Named) → l.rank < length l.sorted.items → l.host ≡ get_or l.host_indices.items ((get_or l.sorted.items l.rank e).1) 0)
