use Rattle.std.proofs.Common.{◌-◌, ◌++◌, length, take}
use Rattle.std.specs.List.{flat_map}
use Rattle.bpf_text.specs.btf.BtfText.{quoted_byte}
use Rattle.bpfcanon.specs.{Devices.change, commands.Pieces.Gathered}
use Rattle.bpfcanon.proofs.commands.btf_show.put_name.Given as goal

abbrev pub invariant-loop-start : goal.invariant-loop-start
invariant-loop-start g l = Gathered (change (g.W.ByteSink.contents l.initial.sink) (g.W.ByteSink.contents l.sink)
    (g.W.ByteSink.failures l.initial.sink) (g.W.ByteSink.failures l.sink)) l.piece.items
    (l.fn.piece.items ++ flat_map quoted_byte (take l.start l.name))

abbrev pub decreases-loop-start : goal.decreases-loop-start
decreases-loop-start g l = length l.name - l.start
