-- A table agrees with a definition if both have the same values at each index, which is checked by computation.
use Rattle.std.proofs.Common.{◌≡◌, ℕ, zero, suc, ◌<◌, List, [], ◌∷◌, inl, inr, get_or, drop, ap, arith}
use Rattle.std.proofs.lemmas.Bool.{cases_eq}

-- the values of a function below n
abbrev pub listed : {X : Type 0} → (ℕ → X) → ℕ → List X
listed f zero = []
listed f (suc n) = f n ∷ listed f n

pub same_table : {X : Type 0} (f g : ℕ → X) (n : ℕ) → listed f n ≡ listed g n → (k : ℕ) → k < n → f k ≡ g k
same_table f g zero e k h = absurd (omega (arith, h))
same_table {X} f g (suc n) e k h = elim (cases_eq k n) [
  | inl same ↦ rw same (ap (λ (xs : List X). get_or xs 0 (f n)) e)
  | inr other ↦ same_table f g n (ap (λ (xs : List X). drop 1 xs) e) k (omega arith)
]
