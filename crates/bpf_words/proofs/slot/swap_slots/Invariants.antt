use Rattle.std.proofs.Common.{◌≡◌, ◌≢◌, ◌≤◌, ◌-◌, [], length, take, drop}
use Rattle.bpf_words.specs.declared.Order.{Order}
use Rattle.bpf_words.proofs.SwappedSlots.{Rewrites}
use Rattle.bpf_words.proofs.slot.swap_slots.Given as goal

abbrev pub invariant-slots : goal.invariant-slots
invariant-slots l =
    ((order to : Order) → order ≢ to → Rewrites order to l.fn.bytes (drop l.pos l.bytes) [] (take l.pos l.bytes))
    × (l.pos ≤ length l.bytes) × (length l.bytes ≡ length l.fn.bytes)

abbrev pub decreases-slots : goal.decreases-slots
decreases-slots l = length l.bytes - l.pos
