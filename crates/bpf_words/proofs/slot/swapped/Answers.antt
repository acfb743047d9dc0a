use Rattle.std.proofs.Common.{◌∙◌, refl}
use Rattle.bpf_words.proofs.SlotLemmas.{any_slot}
use Rattle.bpf_words.proofs.SwappedBytes.{slot_swapped}
use Rattle.bpf_words.proofs.slot.swapped.Goals as goal

pub returns : goal.returns
returns c = λ order to other.
    let slot = any_slot order c.args.slot.now c.told-slot c.fits-slot in
    let fit = slot.1.0 in
    let read = slot.1.1 in
    let written = slot_swapped order to other c.args.slot.now c.from_le_bytes-word.result c.swap_halfwords-halfwords.result _ c.told-slot c.fits-slot
    c.from_le_bytes-word.ensures c.swap_halfwords-halfwords.ensures refl slot.0 fit read in
    (slot.0, (fit, (read, c.to_le_bytes.ensures ∙ written)))
