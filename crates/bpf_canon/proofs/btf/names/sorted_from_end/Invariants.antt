use Rattle.bpf_canon.proofs.BtfLemmas.Names.IndexedNames.{IndexedTo}
use Rattle.bpf_canon.proofs.btf.names.sorted_from_end.Given as goal

abbrev pub invariant-loop-index : goal.invariant-loop-index
invariant-loop-index g l = IndexedTo l.names l.sorted.items l.index
