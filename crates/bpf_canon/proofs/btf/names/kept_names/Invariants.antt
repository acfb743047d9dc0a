use Rattle.std.proofs.Common.{◌≡◌, take}
use Rattle.btf_types.specs.Names.{kept, names}
use Rattle.bpf_canon.specs.btf.names.Interned.{borrowed_texts}
use Rattle.bpf_canon.proofs.btf.names.kept_names.Given as goal

abbrev pub invariant-loop-index : goal.invariant-loop-index
invariant-loop-index g l = borrowed_texts l.found.keys ≡ kept (names (take l.index (g.T.TypeTable.meaning l.table)))
