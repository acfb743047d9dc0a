-- How registers are written.
use Rattle.std.proofs.Common.{◌≡◌, ℕ, ◌+◌, ◌<◌, ◌≤◌, List, [], ◌∷◌, ◌++◌, length, get_or, inl, inr, Option, Some, None, refl, sym, ap, ◌∙◌, subst, codes, arith, IfSome, MatchOption}
use Rattle.std.specs.Fmt.{digits, decimal}
use Rattle.std.proofs.lemmas.Bool.{cases_lt}
use Rattle.bpf_insn.specs.{Table.IsReg, declared.insn.Reg.Reg}
use Rattle.bpf_text.specs.insn.Operands.{SpellsRegister}

-- a number from k on is k, or from k + 1 on
from : (P : ℕ → Type 0) (k n : ℕ) → k ≤ n → P k → (k + 1 ≤ n → P n) → P n
from P k n h here above =
    elim (cases_lt k n) [ inl l ↦ above (omega arith) | inr l ↦ let e : k ≡ n = omega arith in subst P e here ]

pub small_register_text : (d : ℕ) → d ≤ 9 → codes "r" ++ decimal d ≡ 114 ∷ (48 + d) ∷ []
unfolding digits
small_register_text d h =
    let P : ℕ → Type 0 = λ n. codes "r" ++ decimal n ≡ 114 ∷ (48 + n) ∷ [] in
    from P 0 d (omega arith) refl (λ l. from P 1 d l refl (λ l. from P 2 d l refl (λ l. from P 3 d l refl (λ l. from P 4 d l refl
    (λ l. from P 5 d l refl (λ l. from P 6 d l refl (λ l. from P 7 d l refl (λ l. from P 8 d l refl (λ l. from P 9 d l refl (λ l. absurd (omega arith)))))))))))

pub last_register_text : codes "r" ++ decimal 10 ≡ codes "r10"
unfolding digits
last_register_text = refl

-- what `Reg::new` returns for the register that the token spells
pub spelled_by_new : (token : List ℕ) (n : ℕ) (r : Option Reg) → token ≡ codes "r" ++ decimal n → MatchOption r (10 < n) (λ k. IsReg n × (k.number ≡ n)) → IfSome r (SpellsRegister token)
spelled_by_new token n None e h = tt
spelled_by_new token n (Some k) e h = e ∙ ap (λ x. codes "r" ++ decimal x) (sym h.1)

-- a token of two or three bytes that spells a register
pub two_bytes_spell : (token : List ℕ) (n : ℕ) → 2 ≤ length token → length token < 3 → get_or token 0 0 ≡ 114 → get_or token 1 0 ≡ 48 + n → n ≤ 9 → token ≡ codes "r" ++ decimal n
two_bytes_spell (a ∷ b ∷ []) n l m e f small = (let same : a ∷ b ∷ [] ≡ 114 ∷ (48 + n) ∷ [] = cc in same) ∙ sym (small_register_text n small)
two_bytes_spell _ n l m e f small = absurd (omega arith)

pub three_bytes_spell : (token : List ℕ) → 3 ≤ length token → length token < 4 → get_or token 0 0 ≡ 114 → get_or token 1 0 ≡ 49 → get_or token 2 0 ≡ 48 → token ≡ codes "r" ++ decimal 10
three_bytes_spell (a ∷ b ∷ c ∷ []) l m e f g = (let same : a ∷ b ∷ c ∷ [] ≡ 114 ∷ 49 ∷ 48 ∷ [] = cc in same) ∙ sym last_register_text
three_bytes_spell _ l m e f g = absurd (omega arith)

-- no other token spells a register
pub not_register : (token : List ℕ) → (length token ≡ 2 → get_or token 0 0 ≡ 114 → 48 ≤ get_or token 1 0 → get_or token 1 0 ≤ 57 → ⊥)
    → (length token ≡ 3 → get_or token 0 0 ≡ 114 → get_or token 1 0 ≡ 49 → get_or token 2 0 ≡ 48 → ⊥) → (r : Reg) → ¬ SpellsRegister token r
not_register token two three r h =
    elim (cases_lt r.number 10) [
      | inl l ↦
          let text : token ≡ 114 ∷ (48 + r.number) ∷ [] = h ∙ small_register_text r.number (omega arith) in
          two (ap length text) (ap (λ (t : List ℕ). get_or t 0 0) text) (rw text (omega arith)) (rw text (omega arith))
      | inr l ↦
          let ten : r.number ≡ 10 = omega (arith, r.in_range) in
          let text : token ≡ codes "r10" = h ∙ ap (λ x. codes "r" ++ decimal x) ten ∙ last_register_text in
          three (ap length text) (ap (λ (t : List ℕ). get_or t 0 0) text) (ap (λ (t : List ℕ). get_or t 1 0) text) (ap (λ (t : List ℕ). get_or t 2 0) text)
    ]

-- how a register with a known number is written
pub small_register_is : (d n : ℕ) → d ≤ 9 → d ≡ n → 114 ∷ (48 + d) ∷ [] ≡ codes "r" ++ decimal n
small_register_is d n small e = sym (small_register_text d small) ∙ ap (λ (m : ℕ). codes "r" ++ decimal m) e

pub last_register_is : (n : ℕ) → 10 ≡ n → codes "r10" ≡ codes "r" ++ decimal n
last_register_is n e = sym last_register_text ∙ ap (λ (m : ℕ). codes "r" ++ decimal m) e
