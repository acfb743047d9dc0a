-- Tokens spell at most one operand, up to how its sign is written.
use Rattle.std.proofs.Common.{◌≡◌, ℕ, ◌<◌, ℤ, pos, neg_ℤ, List, [], ◌∷◌, ◌++◌, ◌⊎◌, inl, inr, drop, refl, sym, ap, ◌∙◌, subst, arith, codes, map}
use Rattle.std.specs.{List.AllZip, List.slice_split, Fmt.decimal, Str.Parse.IsNumeral, Str.Parse.digits_value}
use Rattle.std.proofs.lemmas.Fmt.{decimal_is_IsNumeral}
use Rattle.bpf_insn.proofs.InsnLaws.{same_reg}
use Rattle.bpf_insn.specs.declared.insn.Reg.{Reg}
use Rattle.bpf_text.specs.insn.Operands.{LineOperand, register, number, signed, memory, SpellsMagnitude, SpellsSigned, SpellsNumber, SpellsRegister, SpellsMemory, SpellsOperand, SpellsOperands, is_comma}
use Rattle.bpf_text.specs.insn.OperandFields.{plain}
use Rattle.bpf_text.proofs.InsnLemmas.NumberLemmas.{one_magnitude}

one_register : (t : List ℕ) (r s : Reg) → SpellsRegister t r → SpellsRegister t s → r ≡ s
one_register t r s h k =
    let same : decimal r.number ≡ decimal s.number = ap (drop 1) (sym h ∙ k) in
    same_reg r s (sym (decimal_is_IsNumeral r.number (omega (arith, r.in_range))).1 ∙ ap (digits_value 10) same ∙ (decimal_is_IsNumeral s.number (omega (arith, s.in_range))).1)

letter_no_numeral : (ds : List ℕ) → IsNumeral 10 (114 ∷ ds) → ⊥
letter_no_numeral ds h = let large : 27 < 10 = h.1.0 in omega arith

letter_no_hex : (ds es : List ℕ) → 114 ∷ ds ≡ codes "0x" ++ es → ⊥
letter_no_hex ds es e = cc

no_number : (t ds : List ℕ) (n : ℕ) → t ≡ 114 ∷ ds → SpellsMagnitude t n → ⊥
no_number t ds n e (inl k) = letter_no_numeral ds (subst (IsNumeral 10) e k.0)
no_number t ds n e (inr k) = letter_no_hex ds k.0 (sym e ∙ k.1)

one_signed : (s t : List ℕ) (y z : ℤ) → SpellsSigned s t y → SpellsSigned s t z → y ≡ z
one_signed s t y z h k =
    let n : h.0 ≡ k.0 = one_magnitude t h.0 k.0 h.1 k.1 in by_sign n h.2 k.2
  where
    by_sign : h.0 ≡ k.0 → ((s ≡ codes "+") × (y ≡ pos h.0)) ⊎ ((s ≡ codes "-") × (y ≡ neg_ℤ (pos h.0)))
        → ((s ≡ codes "+") × (z ≡ pos k.0)) ⊎ ((s ≡ codes "-") × (z ≡ neg_ℤ (pos k.0))) → y ≡ z
    by_sign n (inl a) (inl b) = a.1 ∙ ap pos n ∙ sym b.1
    by_sign n (inl a) (inr b) = let clash : codes "+" ≡ codes "-" = sym a.0 ∙ b.0 in cc
    by_sign n (inr a) (inl b) = let clash : codes "-" ≡ codes "+" = sym a.0 ∙ b.0 in cc
    by_sign n (inr a) (inr b) = a.1 ∙ ap (λ m. neg_ℤ (pos m)) n ∙ sym b.1

one_number : (ts : List (List ℕ)) (y z : ℤ) → SpellsNumber ts y → SpellsNumber ts z → y ≡ z
one_number (t ∷ []) y z h k = h.2 ∙ ap pos (one_magnitude t h.0 k.0 h.1 k.1) ∙ sym k.2
one_number (s ∷ t ∷ []) y z h k = one_signed s t y z h k
one_number _ y z h k = absurd h

one_memory : (ts : List (List ℕ)) (q r : Reg) (y z : ℤ) → SpellsMemory ts q y → SpellsMemory ts r z → (q ≡ r) × (y ≡ z)
one_memory (a ∷ b ∷ c ∷ []) q r y z h k = (one_register b q r h.1 k.1, h.3 ∙ sym k.3)
one_memory (a ∷ b ∷ c ∷ d ∷ e ∷ []) q r y z h k = (one_register b q r h.1 k.1, one_signed c d y z h.2 k.2)
one_memory _ q r y z h k = absurd h

register_number : (ts : List (List ℕ)) (r : Reg) (z : ℤ) → SpellsOperand ts (register r) → SpellsNumber ts z → ⊥
register_number (t ∷ []) r z h k = no_number t (decimal r.number) k.0 h k.1
register_number _ r z h k = h

register_memory : (ts : List (List ℕ)) (r s : Reg) (z : ℤ) → SpellsOperand ts (register r) → SpellsMemory ts s z → ⊥
register_memory (t ∷ []) r s z h k = k
register_memory _ r s z h k = h

number_memory : (ts : List (List ℕ)) (y : ℤ) (s : Reg) (z : ℤ) → SpellsNumber ts y → SpellsMemory ts s z → ⊥
number_memory (t ∷ u ∷ v ∷ more) y s z h k = h
number_memory _ y s z h k = k

one_register_operand : (ts : List (List ℕ)) (r s : Reg) → SpellsOperand ts (register r) → SpellsOperand ts (register s) → r ≡ s
one_register_operand (t ∷ []) r s h k = one_register t r s h k
one_register_operand _ r s h k = absurd h

pub one_operand : (ts : List (List ℕ)) (a b : LineOperand) → SpellsOperand ts a → SpellsOperand ts b → plain a ≡ plain b
one_operand ts (register r) (register s) h k = ap register (one_register_operand ts r s h k)
one_operand ts (register r) (memory s z) h k = absurd (register_memory ts r s z h k)
one_operand ts (register r) _ h k = absurd (register_number ts r _ h k)
one_operand ts (memory r y) (register s) h k = absurd (register_memory ts s r y k h)
one_operand ts (memory r y) (memory s z) h k = let same = one_memory ts r s y z h k in let base : r ≡ s = same.0 in let offset : y ≡ z = same.1 in cc
one_operand ts (memory r y) _ h k = absurd (number_memory ts _ r y k h)
one_operand ts _ (register s) h k = absurd (register_number ts s _ k h)
one_operand ts _ (memory s z) h k = absurd (number_memory ts _ s z h k)
one_operand ts (number y) _ h k = ap number (one_number ts y _ h k)
one_operand ts (signed y) _ h k = ap number (one_number ts y _ h k)

one_zip : (tss : List (List (List ℕ))) (xs bs : List LineOperand) → AllZip SpellsOperand tss xs → AllZip SpellsOperand tss bs → map plain xs ≡ map plain bs
one_zip [] [] [] h k = refl
one_zip (t ∷ ts) (a ∷ xs) (b ∷ bs) h k =
    let first : plain a ≡ plain b = one_operand t a b h.0 k.0 in
    let more : map plain xs ≡ map plain bs = one_zip ts xs bs h.1 k.1 in cc
one_zip [] [] _ h k = absurd k
one_zip (t ∷ ts) (a ∷ xs) _ h k = absurd k
one_zip _ _ bs h k = absurd h

no_part : (a : LineOperand) → SpellsOperand [] a → ⊥
no_part (register r) h = h
no_part (number z) h = h
no_part (signed z) h = h
no_part (memory r z) h = h

none_spelled : (b : LineOperand) (bs : List LineOperand) (ts : List (List ℕ)) → ts ≡ [] → SpellsOperands ts (b ∷ bs) → ⊥
none_spelled b bs ts e k = no_part b (rw e at k).0

pub one_operands : (ts : List (List ℕ)) (xs bs : List LineOperand) → SpellsOperands ts xs → SpellsOperands ts bs → map plain xs ≡ map plain bs
one_operands ts [] [] h k = refl
one_operands ts [] (b ∷ bs) h k = absurd (none_spelled b bs ts h k)
one_operands ts (a ∷ xs) [] h k = absurd (none_spelled a xs ts k h)
one_operands ts (a ∷ xs) (b ∷ bs) h k = one_zip (slice_split is_comma ts) (a ∷ xs) (b ∷ bs) h k
