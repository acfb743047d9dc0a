use Rattle.std.proofs.Common.{take}
use Rattle.bpf_text.specs.btf.BtfText.{text_of}
use Rattle.bpfcanon.specs.{Devices.change, commands.Pieces.Gathered}
use Rattle.bpfcanon.proofs.commands.btf_show.put_types.Given as goal

abbrev pub invariant-loop-index : goal.invariant-loop-index
invariant-loop-index g l = Gathered (change (g.W.ByteSink.contents l.initial.sink) (g.W.ByteSink.contents l.sink)
    (g.W.ByteSink.failures l.initial.sink) (g.W.ByteSink.failures l.sink)) l.piece.items
    (text_of (take l.index (g.T.TypeTable.meaning l.table)))
