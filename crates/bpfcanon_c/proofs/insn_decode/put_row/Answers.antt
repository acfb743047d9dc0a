-- The bytes begin with the slots of the instruction.
use Rattle.std.proofs.Common.{◌≡◌, ◌∙◌, ℕ, ℤ, length-append, length, w32, refl, sym, ap, arith, subst}
use Rattle.std.proofs.lemmas.Int.{to_z-of_z}
use Rattle.bpf_words.specs.Slots.{Fields}
use Rattle.bpf_insn.specs.{Encoding.encoding}
use Rattle.bpf_insn.proofs.FileLaws.{at_least_a_slot}
use Rattle.bpfcanon_c.specs.OpcodeRows.{MakesRows, wide_row}
use Rattle.bpfcanon_c.proofs.OpcodeRows.{puts_row, puts_wide, has_second}
use Rattle.bpfcanon_c.proofs.insn_decode.put_row.Goals as goal

pub unreachable-requires : goal.unreachable-requires
unreachable-requires c =
    let o = c.args.order in
    let i = c.requires.0 in
    omega (arith, at_least_a_slot o i, ap length c.requires.1.1.1, length-append (encoding o i) c.requires.1.1.0, c.in_default.ensures.cases)

pub returns-in-Some-opcode_row : goal.returns-in-Some-opcode_row
returns-in-Some-opcode_row c = λ i b.
    let row = c.in-Some-opcode_row.row in
    let slot = c.slot_of-slot.result in
    let makes : MakesRows slot.opcode row = subst (λ (n : ℕ). MakesRows n row) (ap (λ (f : Fields). f.opcode) c.slot.view_is) c.in-Some-opcode_row.ensures in
    let put =
    puts_row c.args.order c.args.bytes.now c.in-Some.first.now slot row c.args.pos c.in-Some.ensures.cases.0 c.slot_of-slot.ensures.encoded c.slot_of-slot.ensures.in_range makes (c.if-allows.ensures.0 refl) i b
    in
    (c.slot_row.ensures ∙ put.0, put.1)

pub unreachable-requires-in_default-split_first_chunk : goal.unreachable-requires-in_default-split_first_chunk
unreachable-requires-in_default-split_first_chunk c =
    let slot = c.slot_of-slot.result in
    let wide : slot.opcode ≡ 0x18 = sym (ap (λ (f : Fields). f.opcode) c.slot-2.view_is) ∙ c.if-slot-eq-WIDE.true in
    let second =
    has_second c.args.order c.args.bytes.now c.in-Some.first.now c.in-Some.rest.now slot c.in-Some.ensures.cases.0 c.slot_of-slot.ensures.encoded c.slot_of-slot.ensures.in_range wide c.in-Some.ensures.cases.1 c.requires.0 c.requires.1
    in
    omega (arith, second, c.in_default-split_first_chunk.ensures.cases)

pub returns-in-Some-split_first_chunk : goal.returns-in-Some-split_first_chunk
returns-in-Some-split_first_chunk c = λ i b.
    let slot = c.slot_of-slot.result in
    let wide : slot.opcode ≡ 0x18 = sym (ap (λ (f : Fields). f.opcode) c.slot-2.view_is) ∙ c.if-slot-eq-WIDE.true in
    let put =
    puts_wide c.args.order c.args.bytes.now c.in-Some.first.now c.in-Some.rest.now c.in-Some-split_first_chunk.second.now slot c.slot_of.result c.args.pos c.in-Some.ensures.cases.0 c.slot_of-slot.ensures.encoded c.slot_of-slot.ensures.in_range wide c.in-Some.ensures.cases.1 c.in-Some-split_first_chunk.ensures.cases.0 c.slot_of.ensures.encoded c.slot_of.ensures.in_range i b
    in
    let fit = rw (sym c.wide_row.view_is) at c.slot_of.ensures.in_range in
    let next = to_z-of_z w32 c.wide_row.inside.imm fit.imm ∙ ap (λ (f : Fields). f.imm) c.wide_row.view_is in
    (c.wide_row-in_default-opcode_row.ensures ∙ ap (λ (k : ℤ). wide_row c.args.pos slot k) next ∙ put.0, put.1)
