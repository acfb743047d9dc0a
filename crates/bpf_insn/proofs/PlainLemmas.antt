-- A slot that its opcode's rule allows is an instruction.
use Rattle.std.proofs.Common.{◌≡◌, ℕ, ℤ, pos, List, length, take, Option, Some, None, Result, Ok, Err, IfOk, IfErr, refl, ap, sym, ◌∙◌, subst, drop}
use Rattle.std.specs.Option.{IsSomeAnd, option_and_then}
use Rattle.bpf_words.specs.{declared.Order.Order, Slots.Fields, Slots.AreFields, Slots.fields, Slots.encoded}
use Rattle.bpf_words.proofs.OneEncoding.{same_fields}
use Rattle.bpf_insn.specs.Table.{fields_of, next_imm_of, IsInsn, IsOffset, IsImm, alu_class, code_opcode}
use Rattle.bpf_insn.specs.{Encoding.encoding, Faults.BeginsWith, Faults.IsSlotFault, declared.fault.SlotFault.SlotFault}
use Rattle.bpf_insn.specs.{Forms.form_at, Forms.form_opcode, Plain.IsWithin, Plain.IsPlain, Plain.rule_of_form}
use Rattle.bpf_insn.proofs.{OpcodeLemmas.opcode_from_form_at, ReadLemmas.read_whole, WitnessLemmas.reg, WitnessLemmas.plain_op, WitnessLemmas.plain_code, WitnessLemmas.plain_offset, FileLaws.begins_once}
use Rattle.bpf_insn.specs.declared.insn.Operand.TheVariants as arg
use Rattle.bpf_insn.specs.declared.{insn.Insn.Insn, form.Source.TheVariants.K, form.Source.TheVariants.X}
use Rattle.bpf_insn.specs.declared.insn.Insn.TheVariants.{Alu, Neg, Jump, JumpLong, Branch, CallHelper, Exit, Load, LoadSigned, StoreImm, StoreReg, PacketAbs, PacketInd}
use Rattle.bpf_insn.specs.declared.form.Form.{Form}
use Rattle.bpf_insn.specs.declared.form.Form.TheVariants as form

-- an instruction of one slot with these fields
record IsOneSlot (slot : Fields) : Type 0 where
  insn : Insn
  is : IsInsn insn
  fields : fields_of insn ≡ slot
  alone : next_imm_of insn ≡ None

-- fields that the rule of a form allows are those of an instruction
plain_insn : (f : Form) (d s : ℕ) (o k : ℤ) → IsSomeAnd (rule_of_form f) (λ r. IsWithin r (fields (form_opcode f) d s o k)) → IsOffset o → IsImm k
    → IsOneSlot (fields (form_opcode f) d s o k)
plain_insn (form.Alu width op K) d s o k h ho hk = record {
  insn = Alu width (plain_op op) (reg d h.dst) (arg.Imm k);
  is = (h.dst, hk);
  fields = same_fields _ _ (ap (λ (c : ℕ). code_opcode c 0 (alu_class width)) (plain_code op)) refl (sym h.no_src) (ap pos (plain_offset op) ∙ sym h.no_off) refl;
  alone = refl;
}
plain_insn (form.Alu width op X) d s o k h ho hk = record {
  insn = Alu width (plain_op op) (reg d h.dst) (arg.Reg (reg s h.src));
  is = (h.dst, h.src);
  fields = same_fields _ _ (ap (λ (c : ℕ). code_opcode c 1 (alu_class width)) (plain_code op)) refl refl (ap pos (plain_offset op) ∙ sym h.no_off) (sym h.no_imm);
  alone = refl;
}
plain_insn (form.Neg width) d s o k h ho hk =
    record { insn = Neg width (reg d h.dst); is = h.dst; fields = same_fields _ _ refl refl (sym h.no_src) (sym h.no_off) (sym h.no_imm); alone = refl }
plain_insn (form.Swap kind) d s o k h ho hk = absurd h
plain_insn form.Jump d s o k h ho hk =
    record { insn = Jump o; is = ho; fields = same_fields _ _ refl (sym h.no_dst) (sym h.no_src) refl (sym h.no_imm); alone = refl }
plain_insn form.JumpLong d s o k h ho hk =
    record { insn = JumpLong k; is = hk; fields = same_fields _ _ refl (sym h.no_dst) (sym h.no_src) (sym h.no_off) refl; alone = refl }
plain_insn (form.Branch width op K) d s o k h ho hk =
    record { insn = Branch width op (reg d h.dst) (arg.Imm k) o; is = (h.dst, hk, ho); fields = same_fields _ _ refl refl (sym h.no_src) refl refl; alone = refl }
plain_insn (form.Branch width op X) d s o k h ho hk =
    record { insn = Branch width op (reg d h.dst) (arg.Reg (reg s h.src)) o; is = (h.dst, h.src, ho); fields = same_fields _ _ refl refl refl refl (sym h.no_imm); alone = refl }
plain_insn form.Call d s o k h ho hk =
    record { insn = CallHelper k; is = hk; fields = same_fields _ _ refl (sym h.no_dst) (sym h.no_src) (sym h.no_off) refl; alone = refl }
plain_insn form.Exit d s o k h ho hk =
    record { insn = Exit; is = tt; fields = same_fields _ _ refl (sym h.no_dst) (sym h.no_src) (sym h.no_off) (sym h.no_imm); alone = refl }
plain_insn (form.Load z) d s o k h ho hk =
    record { insn = Load z (reg d h.dst) (reg s h.src) o; is = (h.dst, h.src, ho); fields = same_fields _ _ refl refl refl refl (sym h.no_imm); alone = refl }
plain_insn (form.LoadSigned z) d s o k h ho hk =
    record { insn = LoadSigned z (reg d h.dst) (reg s h.src) o; is = (h.dst, h.src, ho); fields = same_fields _ _ refl refl refl refl (sym h.no_imm); alone = refl }
plain_insn (form.StoreImm z) d s o k h ho hk =
    record { insn = StoreImm z (reg d h.dst) o k; is = (h.dst, ho, hk); fields = same_fields _ _ refl refl (sym h.no_src) refl refl; alone = refl }
plain_insn (form.StoreReg z) d s o k h ho hk =
    record { insn = StoreReg z (reg d h.dst) (reg s h.src) o; is = (h.dst, h.src, ho); fields = same_fields _ _ refl refl refl refl (sym h.no_imm); alone = refl }
plain_insn (form.Atomic width) d s o k h ho hk = absurd h
plain_insn form.Wide d s o k h ho hk = absurd h
plain_insn (form.PacketAbs z) d s o k h ho hk =
    record { insn = PacketAbs z k; is = hk; fields = same_fields _ _ refl (sym h.no_dst) (sym h.no_src) (sym h.no_off) refl; alone = refl }
plain_insn (form.PacketInd z) d s o k h ho hk =
    record { insn = PacketInd z (reg s h.src) k; is = (h.src, hk); fields = same_fields _ _ refl (sym h.no_dst) refl (sym h.no_off) refl; alone = refl }

plain_is_insn : (slot : Fields) → AreFields slot → IsPlain slot → IsOneSlot slot
plain_is_insn slot a h = by_form (form_at slot.opcode) refl h
  where
    by_form : (o : Option Form) → form_at slot.opcode ≡ o → IsSomeAnd (option_and_then rule_of_form o) (λ r. IsWithin r slot) → IsOneSlot slot
    by_form None e h = absurd h
    by_form (Some f) e h =
        let opcode : form_opcode f ≡ slot.opcode = opcode_from_form_at slot.opcode f a.opcode e in
        let whole : fields (form_opcode f) slot.dst slot.src slot.off slot.imm ≡ slot = same_fields _ _ opcode refl refl refl refl in
        subst IsOneSlot whole (plain_insn f slot.dst slot.src slot.off slot.imm (subst (λ (x : Fields). IsSomeAnd (rule_of_form f) (λ r. IsWithin r x)) (sym whole) h) a.off a.imm)

-- bytes that begin with a plain slot begin with an instruction of 8 bytes
pub plain_begins : (order : Order) (s front rest : List ℕ) (slot : Fields) → front ≡ take 8 s → rest ≡ drop 8 s → front ≡ encoded order slot → AreFields slot → IsPlain slot
    → (i : Insn) × (BeginsWith order i s × (length (encoding order i) ≡ 8))
plain_begins order s front rest slot f b encoded_so a h =
    let one = plain_is_insn slot a h in
    let begins = read_whole order s front rest slot f b encoded_so one.insn 8 (one.is, one.fields, one.alone) refl in
    (one.insn, (begins.0, sym begins.1))

-- if the bytes begin with an instruction, a correct result is its length
pub len_answered : (order : Order) (s : List ℕ) (r : Result ℕ SlotFault) → IfOk r (λ n. (i : Insn) × (BeginsWith order i s × (n ≡ length (encoding order i)))) → IfErr r (IsSlotFault order s)
    → (i : Insn) → BeginsWith order i s → r ≡ Ok (length (encoding order i))
len_answered order s (Ok n) found fault i b =
    let same : found.0 ≡ i = begins_once order found.0 i s found.1.0 b in
    let len : n ≡ length (encoding order found.0) = found.1.1 in
    cc
len_answered order s (Err e) found fault i b = absurd (fault.unencoded i b)
