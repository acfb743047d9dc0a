use Rattle.std.proofs.Common.{◌-◌, length}
use Rattle.bpfcanon.specs.Devices.{change}
use Rattle.bpfcanon.proofs.CommandsLemmas.InsnShowLemmas.{Listed}
use Rattle.bpfcanon.proofs.commands.insn_show.put_listing.Given as goal

abbrev pub invariant-loop-pos : goal.invariant-loop-pos
invariant-loop-pos g l = Listed l.order l.input l.pos (change (g.W.ByteSink.contents l.initial.sink) (g.W.ByteSink.contents l.sink)
    (g.W.ByteSink.failures l.initial.sink) (g.W.ByteSink.failures l.sink)) l.piece.items

abbrev pub decreases-loop-pos : goal.decreases-loop-pos
decreases-loop-pos g l = length l.input - l.pos
