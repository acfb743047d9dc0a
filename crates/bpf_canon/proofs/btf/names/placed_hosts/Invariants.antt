use Rattle.bpf_canon.specs.btf.names.Interned.{borrowed_texts}
use Rattle.bpf_canon.proofs.BtfLemmas.Names.HostTable.{PlacedTo}
use Rattle.bpf_canon.proofs.btf.names.placed_hosts.Given as goal

abbrev pub invariant-loop-index : goal.invariant-loop-index
invariant-loop-index g l = PlacedTo (borrowed_texts l.names) l.host_indices l.text_offsets.items l.len l.index
