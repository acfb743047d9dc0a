use Rattle.std.proofs.Common.{sym, subst}
use Rattle.btf_types.specs.{Values.TypeHead, Values.item_value, Names.head_name}
use Rattle.bpf_canon.specs.btf.{names.Interned.IsInTable}
use Rattle.bpf_canon.proofs.BtfLemmas.Names.Gathering.{head_placed, item_placed}
use Rattle.bpf_canon.proofs.btf.write.table.push_table_record.Goals as goal

pub push_head-requires-clause-in_table : goal.push_head-requires-clause-in_table
push_head-requires-clause-in_table g c =
    subst (λ (h : TypeHead). IsInTable c.args.names.now (head_name h)) (sym c.head.ensures)
    (head_placed (g.T.TypeTable.meaning c.args.table.now) c.args.names.now c.args.id c.requires.first c.requires.last c.requires.kept)

pub push_item-requires-clause-in_table : goal.push_item-requires-clause-in_table
push_item-requires-clause-in_table g c =
    item_placed (g.T.TypeTable.meaning c.args.table.now) c.args.names.now c.args.id c.loop-k.k (item_value c.item.result) c.requires.first c.requires.last c.requires.kept c.item.ensures
