use Rattle.std.proofs.Common.{rules, ◌∙◌, ◌++◌, List, ℕ, ap}
use Rattle.bpf_words.proofs.SwappedSlots.{slot_first}
use Rattle.bpf_canon.proofs.InsnLemmas.Comparing.{prefix_found, swapped_apart, swapped_end, swapped_more}
use Rattle.bpf_canon.proofs.insn.canon.is_recoded.Goals as goal

pub slots-preserved : goal.slots-preserved
slots-preserved c =
    let slot = c.swapped.ensures c.args.order_a c.args.order_b (search rules) in
    let cases = c.in-Some.ensures.cases in
    let first = slot_first c.args.order_a c.slots.left.now c.in-Some.slot.now c.in-Some.following.now slot.0 cases.0 cases.1 slot.1.1.0 in
    let others = c.in-Some-strip_prefix.others.now in
    let prefix = c.in-Some-strip_prefix.ensures.cases in
    swapped_more c.args.order_a c.args.order_b c.args.a.now c.slots.left.now c.in-Some.following.now c.args.b.now c.slots.right.now slot.0 c.slots.invariant first slot.1.0
    others (prefix_found c.slots.right.now c.swapped.result others prefix.0 prefix.1 ∙ ap (λ (xs : List ℕ). xs ++ others) slot.1.1.1)

pub returns-in-None : goal.returns-in-None
returns-in-None c = λ insns file.
    let slot = c.swapped.ensures c.args.order_a c.args.order_b (search rules) in
    let cases = c.in-Some.ensures.cases in
    let first = slot_first c.args.order_a c.slots.left.now c.in-Some.slot.now c.in-Some.following.now slot.0 cases.0 cases.1 slot.1.1.0 in (
      λ t. cc,
      λ same. absurd (
          swapped_apart c.args.order_a c.args.order_b c.args.a.now c.slots.left.now c.in-Some.following.now c.args.b.now c.slots.right.now slot.0 c.slots.invariant first slot.1.0
          c.swapped.result slot.1.1.1 c.in-None.ensures.cases insns file same
          ),
    )

pub returns : goal.returns
returns c = λ insns file.
    swapped_end c.args.order_a c.args.order_b c.args.a.now c.slots.left.now c.args.b.now c.slots.right.now c.is_empty.result c.slots.invariant c.in_default.ensures.cases c.is_empty.ensures insns file
