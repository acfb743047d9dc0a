-- The number that the digits of a token spell.
use Rattle.std.proofs.Common.{◌≡◌, ℕ, zero, suc, ◌<◌, List, [], ◌∷◌, ◌++◌, ◌⊎◌, inl, inr, length, get_or, drop, refl, sym, ap, ◌∙◌, codes, ◌^◌, arith, ℤ, pos, neg_ℤ, ◌≤ℤ◌, Option, Some, None, IfNone}
use Rattle.std.specs.{Char.digit_value, Str.Parse.AllDigits, Str.Parse.IsNumeral, Str.Parse.digits_value}
use Rattle.bpf_text.specs.insn.{Operands.SpellsMagnitude, Operands.SpellsSigned, Numbers.IsNumber, Numbers.IsFar}
use Rattle.std.proofs.lemmas.Int.{ints}

pub digit_below : (radix : ℕ) (ds : List ℕ) (i : ℕ) → AllDigits radix ds → i < length ds → digit_value (get_or ds i 0) < radix
digit_below radix [] i all h = absurd (omega arith)
digit_below radix (c ∷ cs) zero all h = all.0
digit_below radix (c ∷ cs) (suc i) all h = digit_below radix cs i all.1 (omega arith)

-- 0x does not begin decimal digits
pub not_decimal : (ds : List ℕ) → ¬ IsNumeral 10 (codes "0x" ++ ds)
not_decimal ds h = let large : 33 < 10 = h.1.1.0 in absurd (omega arith)

-- a token spells at most one number
pub one_magnitude : (token : List ℕ) (m n : ℕ) → SpellsMagnitude token m → SpellsMagnitude token n → m ≡ n
one_magnitude token m n (inl a) (inl b) = a.1 ∙ sym b.1
one_magnitude token m n (inl a) (inr b) = absurd (not_decimal b.0 (rw b.1 at a.0))
one_magnitude token m n (inr a) (inl b) = absurd (not_decimal a.0 (rw a.1 at b.0))
one_magnitude token m n (inr a) (inr b) =
    let same : a.0 ≡ b.0 = ap (drop 2) (sym a.1 ∙ b.1) in
    a.3 ∙ ap (digits_value 16) same ∙ sym b.3

-- a sign makes no number of a token that isn't a magnitude
pub no_signed : (sign token : List ℕ) (r : Option ℤ) → IfNone r ((n : ℕ) → ¬ SpellsMagnitude token n) → IfNone r ((z : ℤ) → ¬ SpellsSigned sign token z)
no_signed sign token (Some k) h = tt
no_signed sign token None h = λ z s. h s.0 s.1

-- a minus before the number k
pub minus_spells : (sign token : List ℕ) (k v : ℤ) → sign ≡ codes "-" → (pos 0 ≤ℤ k) × (k ≤ℤ pos (2 ^ 64)) → v ≡ neg_ℤ k
    → (n : ℕ) × SpellsMagnitude token n × IsNumber k (pos n) → (z : ℤ) × SpellsSigned sign token z × IsNumber v z
minus_spells sign token k v e within minus m =
    (neg_ℤ (pos m.0), (m.0, m.1, inr (e, refl)), (omega (arith, ints), negated m.2.1))
  where
    negated : (k ≡ pos m.0) ⊎ (IsFar k × IsFar (pos m.0)) → (v ≡ neg_ℤ (pos m.0)) ⊎ (IsFar v × IsFar (neg_ℤ (pos m.0)))
    negated (inl same) = inl (minus ∙ ap neg_ℤ same)
    negated (inr (inl a, inl b)) = inr (inr (omega (arith, ints)), inr (omega (arith, ints)))
    negated (inr (inr a, b)) = absurd (omega (arith, ints))
    negated (inr (a, inr b)) = absurd (omega (arith, ints))
