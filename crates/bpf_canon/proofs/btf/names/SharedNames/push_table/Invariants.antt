use Rattle.std.proofs.Common.{◌≡◌, ◌++◌}
use Rattle.btf_types.specs.Names.{table_of}
use Rattle.bpf_canon.specs.btf.names.Interned.{borrowed_texts}
use Rattle.bpf_canon.proofs.BtfLemmas.Names.HostSteps.{hosts_among}
use Rattle.bpf_canon.proofs.btf.names.SharedNames.push_table.Given as goal

abbrev pub invariant-loop-index : goal.invariant-loop-index
invariant-loop-index g l = l.out.items ≡ l.fn.out.items ++ table_of (hosts_among (borrowed_texts l.names) l.index)
