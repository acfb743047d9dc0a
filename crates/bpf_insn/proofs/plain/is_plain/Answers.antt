use Rattle.std.proofs.Common.{◌≡◌, ◌∙◌, ℕ, List, ap, slice_index}
use Rattle.bpf_insn.specs.Plain.{zero_bits_at}
use Rattle.bpf_words.proofs.SlotLemmas.{any_slot}
use Rattle.bpf_insn.proofs.ZeroBits.{plain_by_bits}
use Rattle.bpf_insn.proofs.plain.is_plain.Goals as goal

pub returns : goal.returns
returns c = λ h.
    let slot = any_slot c.args.order c.args.bytes.now c.told-bytes c.fits-bytes in
    let bits : c.zero_bits.result ≡ zero_bits_at c.args.order slot.0.opcode =
    c.zero_bits.ensures ∙ ap (λ (xs : List ℕ). zero_bits_at c.args.order (slice_index xs 0)) slot.1.1 in
    (slot.0, (slot.1.0, (slot.1.1, plain_by_bits c.args.order slot.0 c.args.bytes.now _ _ _ slot.1.0 slot.1.1 c.from_le_bytes-word.ensures bits c.registers_above_ten.ensures h)))
