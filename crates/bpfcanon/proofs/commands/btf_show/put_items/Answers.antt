use Rattle.bpfcanon.proofs.CommandsLemmas.BtfShowLemmas.{items_stopped}
use Rattle.bpfcanon.proofs.CommandsLemmas.PiecesLemmas.{gathers_handed}
use Rattle.bpfcanon.proofs.commands.btf_show.put_items.Goals as goal

pub returns-in_err-put_item : goal.returns-in_err-put_item
returns-in_err-put_item g c =
    gathers_handed _ _ _ c.in_err-put_item.field-0.0 c.from_residual.result c.from_residual.ensures.1
    (items_stopped _ _ _ _ _ _ _ c.put_item.new.piece.items c.args.piece.now.items c.args.signed _ c.loop-k.k _ c.item.ensures c.loop-k.invariant c.in_err-put_item.field-0.0 c.in_err-put_item.ensures.gathered)
