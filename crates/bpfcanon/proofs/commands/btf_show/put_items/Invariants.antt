use Rattle.std.proofs.Common.{◌++◌, take}
use Rattle.std.specs.List.{flat_map}
use Rattle.btf_types.specs.tables.TableWords.{record_at}
use Rattle.bpf_text.specs.btf.BtfText.{item_line}
use Rattle.bpfcanon.specs.{Devices.change, commands.Pieces.Gathered}
use Rattle.bpfcanon.proofs.commands.btf_show.put_items.Given as goal

abbrev pub invariant-loop-k : goal.invariant-loop-k
invariant-loop-k g l = Gathered (change (g.W.ByteSink.contents l.initial.sink) (g.W.ByteSink.contents l.sink)
    (g.W.ByteSink.failures l.initial.sink) (g.W.ByteSink.failures l.sink)) l.piece.items
    (l.fn.piece.items ++ flat_map (item_line l.signed) (take l.k (record_at (g.T.TypeTable.meaning l.table) l.id).items))
