use Rattle.std.proofs.Common.{length, ◌-◌, ◌≡◌, List}
use Rattle.bpfcanon_object.specs.Items.{Item, latest}
use Rattle.bpfcanon_object.proofs.ItemLemmas.{AreBefore}
use Rattle.bpfcanon_object.proofs.items.latest_in.Given as goal

abbrev pub invariant-loop-pos : goal.invariant-loop-pos
invariant-loop-pos l = (items : List Item) × (AreBefore l.order l.bytes l.pos items × (l.latest ≡ latest l.fn.before items))

abbrev pub decreases-loop-pos : goal.decreases-loop-pos
decreases-loop-pos l = length l.bytes - l.pos
