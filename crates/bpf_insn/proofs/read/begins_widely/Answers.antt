use Rattle.std.proofs.Common.{◌≡◌, ◌∙◌, sym, refl, ap, rules, w32, pos, None}
use Rattle.std.proofs.lemmas.Int.{to_z-of_z}
use Rattle.bpf_words.specs.Slots.{Fields, fields}
use Rattle.bpf_words.proofs.OneEncoding.{same_fields}
use Rattle.bpf_insn.specs.declared.insn.{Insn.TheVariants.Wide, Reg.Reg}
use Rattle.bpf_insn.specs.declared.form.Form.TheVariants as form
use Rattle.bpf_insn.specs.Forms.{AllowsFields}
use Rattle.bpf_insn.proofs.ReadLemmas.{allowed_if_none, read_two, value_if_ok}
use Rattle.bpf_insn.proofs.read.begins_widely.Goals as goal

pub returns : goal.returns
returns c = λ reported.
    let none : c.field_fault.result ≡ None = search rules in
    let found : AllowsFields form.Wide c.slot_of-slot.result = allowed_if_none c.field_fault.result _ _ c.field_fault.ensures none in
    let fit = rw (sym c.slot-2.view_is) at c.slot_of-slot.ensures.in_range in
    let allowed = rw (sym c.slot-2.view_is) at found in
    let dst : Reg = record { number = c.slot-2.inside.dst; in_range = allowed.0 } in
    let opcode = ap (λ (x : Fields). x.opcode) (c.slot-2.view_is ∙ sym c.slot.view_is) ∙ c.if-slot-ne-WIDE.false in
    let same : c.slot_of-slot.result ≡ fields 0x18 dst.number c.slot-2.inside.src (pos 0) c.slot-2.inside.imm =
    sym c.slot-2.view_is ∙ same_fields _ _ opcode refl refl allowed.2 refl in
    let ends = rw (to_z-of_z w32 c.slot-2.inside.imm fit.imm) at c.read_wide.ensures in
    let wide = value_if_ok _ _ _ ends (rw c.is_ok.ensures.value at reported) in
    let two = read_two c.args.order c.args.bytes.now _ _ c.slot_of-slot.result c.in-Some.ensures.cases.0 c.in-Some.ensures.cases.1 c.slot_of-slot.ensures.encoded
    dst c.slot-2.inside.src c.slot-2.inside.imm (Wide dst wide.0) 16 (allowed.1, fit.imm, same) (wide.1 dst) refl in
    (Wide dst wide.0, (two.0, sym two.1))
