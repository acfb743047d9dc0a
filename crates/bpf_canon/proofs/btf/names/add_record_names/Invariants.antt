use Rattle.std.proofs.Common.{◌∷◌, map, take}
use Rattle.btf_types.specs.{Names.head_name, Names.item_name, tables.TableWords.record_at}
use Rattle.bpf_canon.specs.btf.names.Interned.{borrowed_texts, AddsNames}
use Rattle.bpf_canon.proofs.btf.names.add_record_names.Given as goal

abbrev pub invariant-loop-k : goal.invariant-loop-k
invariant-loop-k g l =
    let r = record_at (g.T.TypeTable.meaning l.table) l.id in
    AddsNames (borrowed_texts l.fn.names.keys) (borrowed_texts l.names.keys) (head_name r.head ∷ map item_name (take l.k r.items))
