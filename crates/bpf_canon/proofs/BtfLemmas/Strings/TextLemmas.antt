-- The string at an offset ends before the next NUL.
use Rattle.std.proofs.Common.{◌≡◌, ◌≢◌, ℕ, zero, suc, ◌-◌, ◌<◌, ◌≤◌, List, [], ◌∷◌, length, get_or, take, drop, refl, ap, arith}
use Rattle.std.proofs.lemmas.List.{get_or-drop, length-drop}
use Rattle.btf_types.specs.Reading.{before_nul, text_from}

before_is : (n : ℕ) (xs : List ℕ) → n < length xs → get_or xs n 0 ≡ 0 → ((k : ℕ) → k < n → get_or xs k 0 ≢ 0) → take n xs ≡ before_nul xs
before_is n [] h z f = absurd (omega (arith, h))
before_is zero (zero ∷ xs) h z f = refl
before_is zero (suc b ∷ xs) h z f = absurd (omega (arith, z))
before_is (suc n) (zero ∷ xs) h z f = absurd (f 0 (omega arith) refl)
before_is (suc n) (suc b ∷ xs) h z f = ap (λ (t : List ℕ). suc b ∷ t) (before_is n xs (omega (arith, h)) z (λ k l. f (suc k) (omega (arith, l))))

pub text_is : (section : List ℕ) (start end : ℕ) → start ≤ end → end < length section → get_or section end 0 ≡ 0 → ((k : ℕ) → start ≤ k → k < end → get_or section k 0 ≢ 0) → take (end - start) (drop start section) ≡ text_from section start
text_is section start end low high nul before = grind (arith, before_is, length-drop, get_or-drop)
