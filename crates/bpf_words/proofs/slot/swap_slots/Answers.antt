use Rattle.std.proofs.Common.{◌≤◌, ◌+◌, ◌-◌, ◌∙◌, [], length, drop, refl, arith, length-drop}
use Rattle.std.proofs.lemmas.List.{length-take}
use borrow.Rule.Slice.PartMut.{same_len_mid}
use Rattle.bpf_words.proofs.SwappedSlots.{all_swapped, none_rewritten, one_swapped}
use Rattle.bpf_words.proofs.slot.swap_slots.Goals as goal

pub slots-init : goal.slots-init
slots-init c = (λ order to other. none_rewritten order to c.args.bytes.now [], omega arith, refl)

pub slots-preserved : goal.slots-preserved
slots-preserved c =
    let first = c.in-Some.ensures.cases in
    let within : c.slots.pos + 8 ≤ length c.slots.bytes = omega (arith, first.enough, length-take (length c.slots.bytes - c.slots.pos) (drop c.slots.pos c.slots.bytes), length-drop c.slots.pos c.slots.bytes) in
    let kept = same_len_mid c.slots.pos (c.slots.pos + 8 - c.slots.pos) c.slots.bytes c.copy_from_slice.new.self c.copy_from_slice.ensures.len in (
      λ order to other.
          let slot = c.swapped-other.ensures order to other in
          one_swapped order to c.args.bytes.now c.slots.bytes c.copy_from_slice.new.self c.in-Some.slot.now c.slots.pos slot.0
          (c.slots.invariant.0 order to other) within first.same slot.1.1.0 slot.1.0 (c.copy_from_slice.ensures.after ∙ slot.1.1.1),
      omega (arith, within, kept),
      kept ∙ c.slots.invariant.2,
    )

pub returns : goal.returns
returns c = λ order to slots rest other are.
    all_swapped order to c.args.bytes.now c.slots.bytes c.slots.pos (c.slots.invariant.0 order to other) c.in_default.ensures.cases slots rest are
