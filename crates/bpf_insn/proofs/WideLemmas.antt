-- The faults of a second slot by its two 4-byte halves are the faults of the bytes by the set of all instructions.
use Rattle.std.proofs.Common.{◌≡◌, ◌≢◌, ℕ, ◌+◌, ◌≤◌, ℤ, pos, List, ◌++◌, length, slice_range, refl, ap, sym, ◌∙◌, arith, inl, inr, subst, Some, length-append}
use Rattle.std.proofs.lemmas.Int.{ints}
use Rattle.std.specs.Int.{w32, cast_unsigned}
use Rattle.bpf_words.specs.declared.Order.{Order, TheVariants.Little, TheVariants.Big}
use Rattle.bpf_words.specs.{Words.word32, Slots.Fields, Slots.AreFields, Slots.fields, Slots.encoded}
use Rattle.bpf_insn.specs.Table.{fields_of, IsInsn, IsImm, wide_source, wide_next_imm}
use Rattle.bpf_insn.specs.{Encoding.encoding, Encoding.second_slot, Forms.LacksNextImm, Forms.IsWideFault, Forms.wide_offset}
use Rattle.bpf_insn.specs.Faults.{field_value, Agrees, AgreesThrough, SomeAgreesThrough, BeginsWith, IsSlotFault}
use Rattle.bpf_insn.proofs.FormLemmas.{insn_form, same_form}
use Rattle.bpf_insn.proofs.WitnessLemmas.{wide_load}
use Rattle.bpf_insn.proofs.FieldLemmas as field
use Rattle.bpf_words.proofs.SlotLemmas.{slot_length}
use Rattle.bpf_insn.proofs.FaultLemmas.{begins_agrees}
use Rattle.bpf_insn.specs.declared.{fault.SlotCause.SlotCause, insn.Reg.Reg, insn.WideOf.WideOf, insn.Insn.Insn, insn.Insn.TheVariants.Wide}
use Rattle.bpf_insn.specs.declared.fault.SlotCause.TheVariants.{Truncated, Opcode, Imm, Reserved, NextImm}
use Rattle.bpf_insn.specs.declared.insn.WideOf.TheVariants.{MapFd, CodeAddr, MapIdx}
use Rattle.bpf_insn.specs.declared.form.Form.TheVariants as form

-- an instruction of the wide form is a wide load
pub record IsWideLoad (i : Insn) : Type 0 where
  pub dst : Reg
  pub what : WideOf
  pub is : i ≡ Wide dst what

pub wide_of_form : (i : Insn) → insn_form i ≡ form.Wide → IsWideLoad i
wide_of_form (Wide d what) e = record { dst = d; what = what; is = refl }
wide_of_form _ e = absurd (cc)

pub wide_of_opcode : (i : Insn) → (fields_of i).opcode ≡ 0x18 → IsWideLoad i
wide_of_opcode i e = wide_of_form i (same_form i form.Wide e)

-- next_imm is 0 if src is one of the values that lack it
lacks_next : (what : WideOf) → LacksNextImm (wide_source what) → wide_next_imm what ≡ pos 0
lacks_next (MapFd k) h = refl
lacks_next (CodeAddr k) h = refl
lacks_next (MapIdx k) h = refl
lacks_next _ h = absurd (elim h [ inl e ↦ omega arith | inr g ↦ elim g [ inl e ↦ omega arith | inr e ↦ omega arith ] ])

-- the two 32-bit words after a first slot
pub value_of_reserved : (order : Order) (f : Fields) (r : List ℕ) → field_value order Reserved (encoded order f ++ r) ≡ slice_range r 0 4
value_of_reserved Little f r = refl
value_of_reserved Big f r = refl

pub value_of_next : (order : Order) (f : Fields) (r : List ℕ) → field_value order NextImm (encoded order f ++ r) ≡ slice_range r 4 8
value_of_next Little f r = refl
value_of_next Big f r = refl

pub second_next : (order : Order) (m : ℤ) (r : List ℕ) → slice_range (second_slot order (Some m) ++ r) 4 8 ≡ word32 order (cast_unsigned w32 m)
second_next Little m r = refl
second_next Big m r = refl

pub second_length : (order : Order) (m : ℤ) → length (second_slot order (Some m)) ≡ 8
second_length Little m = refl
second_length Big m = refl

-- the second slot of a wide load
wide_words : (order : Order) (d : Reg) (what : WideOf)
    → (field_value order Reserved (encoding order (Wide d what)) ≡ word32 order 0) × (field_value order NextImm (encoding order (Wide d what)) ≡ word32 order (cast_unsigned w32 (wide_next_imm what)))
unfolding encoding
wide_words Little d what = (refl, refl)
wide_words Big d what = (refl, refl)

wide_length : (order : Order) (d : Reg) (what : WideOf) → length (encoding order (Wide d what)) ≡ 16
unfolding encoding
wide_length Little d what = refl
wide_length Big d what = refl

-- bytes that begin with a wide load agree with it on all fields
wide_agrees : (order : Order) (d : Reg) (what : WideOf) (s : List ℕ) → BeginsWith order (Wide d what) s → AgreesThrough order NextImm (Wide d what) s
unfolding encoding
wide_agrees Little d what s h = subst (AgreesThrough Little NextImm (Wide d what)) (sym h.1.1) (refl, refl, refl, refl, refl, refl, refl)
wide_agrees Big d what s h = subst (AgreesThrough Big NextImm (Wide d what)) (sym h.1.1) (refl, refl, refl, refl, refl, refl, refl)

abbrev head : Reg → ℕ → ℤ → Fields
head d s k = fields 0x18 d.number s (pos 0) k

module _ (order : Order) (d : Reg) (s : ℕ) (k : ℤ) (rest : List ℕ) (hs : s ≤ 6) (hk : IsImm k) where
  head_in_range : AreFields (head d s k)
  head_in_range =
      record { opcode = omega arith; dst = omega (arith, d.in_range); src = omega arith; off = omega (arith, ints); imm = hk }

  -- the bytes agree with a wide load on the first slot
  agrees_imm : AgreesThrough order Imm (Wide d (wide_load s k hs hk).what) (encoded order (head d s k) ++ rest)
  agrees_imm =
      let load = wide_load s k hs hk in
      let same = field.compared order (Wide d load.what) (head d s k) rest (d.in_range, load.is) head_in_range in
      (same.opcode.1 refl, same.dst.1 refl, same.src.1 load.source, same.off.1 refl, same.imm.1 load.imm)

  some_imm : SomeAgreesThrough order Imm (encoded order (head d s k) ++ rest)
  some_imm = (Wide d (wide_load s k hs hk).what, (d.in_range, (wide_load s k hs hk).is), agrees_imm)

  -- an instruction that agrees on the opcode is a wide load
  wide_by_opcode : (i : Insn) → IsInsn i → Agrees order Opcode i (encoded order (head d s k) ++ rest) → IsWideLoad i
  wide_by_opcode i hi g = wide_of_opcode i ((field.compared order i (head d s k) rest hi head_in_range).opcode.0 g)

  begins_wide : (i : Insn) → BeginsWith order i (encoded order (head d s k) ++ rest) → IsWideLoad i
  begins_wide i b = wide_by_opcode i b.0 (begins_agrees order i _ b).0

  begins_agrees_wide : (i : Insn) → BeginsWith order i (encoded order (head d s k) ++ rest) → AgreesThrough order NextImm i (encoded order (head d s k) ++ rest)
  begins_agrees_wide i b =
      let w = begins_wide i b in
      let P : Insn → Type 0 = λ x. BeginsWith order x (encoded order (head d s k) ++ rest) → AgreesThrough order NextImm x (encoded order (head d s k) ++ rest) in
      subst P (sym w.is) (wide_agrees order w.dst w.what _) b

  -- no instruction agrees through a reserved half that isn't 0
  none_reserved : slice_range rest 0 4 ≢ word32 order 0 → ¬ SomeAgreesThrough order Reserved (encoded order (head d s k) ++ rest)
  none_reserved ne some =
      let w = wide_by_opcode some.0 some.1 some.2.0 in
      ne (sym (value_of_reserved order (head d s k) rest) ∙ sym some.2.5 ∙ ap (λ (x : Insn). field_value order Reserved (encoding order x)) w.is ∙ (wide_words order w.dst w.what).0)

  none_next : LacksNextImm s → slice_range rest 4 8 ≢ word32 order 0 → ¬ SomeAgreesThrough order NextImm (encoded order (head d s k) ++ rest)
  none_next lacks ne some =
      let w = wide_by_opcode some.0 some.1 some.2.0 in
      let src : wide_source w.what ≡ s =
      sym (ap (λ (x : Insn). (fields_of x).src) w.is) ∙ (field.compared order some.0 (head d s k) rest some.1 head_in_range).src.0 some.2.2 in
      let zero : wide_next_imm w.what ≡ pos 0 = lacks_next w.what (subst LacksNextImm (sym src) lacks) in
      ne (sym (value_of_next order (head d s k) rest) ∙ sym some.2.6 ∙ ap (λ (x : Insn). field_value order NextImm (encoding order x)) w.is
      ∙ (wide_words order w.dst w.what).1 ∙ ap (λ (x : ℤ). word32 order (cast_unsigned w32 x)) zero)

  some_reserved : slice_range rest 0 4 ≡ word32 order 0 → SomeAgreesThrough order Reserved (encoded order (head d s k) ++ rest)
  some_reserved e =
      let load = wide_load s k hs hk in
      let g = agrees_imm in
      (Wide d load.what, (d.in_range, load.is), (g.0, g.1, g.2, g.3, g.4, (wide_words order d load.what).0 ∙ sym e ∙ sym (value_of_reserved order (head d s k) rest)))

  whole_length : length (encoded order (head d s k) ++ rest) ≡ 8 + length rest
  whole_length = omega (arith, length-append (encoded order (head d s k)) rest, slot_length order (head d s k))

  pub wide_faults : (cause : SlotCause) (at : ℕ) → IsWideFault order s rest cause → at ≡ wide_offset cause
      → IsSlotFault order (encoded order (head d s k) ++ rest) (record { pos = at; cause = cause })
  wide_faults Truncated at h p = record {
    unencoded = λ i b.
        let w = begins_wide i b in
        let long : length (encoding order i) ≡ 16 = ap (λ (x : Insn). length (encoding order x)) w.is ∙ wide_length order w.dst w.what in
        omega (arith, h, whole_length, long, ap length b.1.1, length-append (encoding order i) b.1.0);
    first = inr (omega (arith, whole_length), omega (arith, whole_length, h), some_imm, p);
  }
  wide_faults Reserved at h p = record {
    unencoded = λ i b. let g = begins_agrees_wide i b in none_reserved h.1 (i, b.0, (g.0, g.1, g.2, g.3, g.4, g.5));
    first = (omega (arith, whole_length, h.0), (some_imm, none_reserved h.1), p);
  }
  wide_faults NextImm at h p = record {
    unencoded = λ i b. none_next h.2 h.3 (i, b.0, begins_agrees_wide i b);
    first = (omega (arith, whole_length, h.0), (some_reserved h.1, none_next h.2 h.3), p);
  }
  wide_faults _ at h p = absurd h
