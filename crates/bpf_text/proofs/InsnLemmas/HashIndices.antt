-- Each index in the table of hashes is that of a mnemonic.
use Rattle.std.proofs.Common.{◌≡◌, ℕ, zero, suc, ◌≤◌, true, List, [], ◌∷◌, get_or, arith}
use Rattle.std.specs.{Prelude.nat_le, List.list_all}
use Rattle.std.proofs.lemmas.Bool.{and_parts, Decides.nat_tests}

one_within : (x n : ℕ) → nat_le x n ≡ true → x ≤ n
one_within x n e = grind (arith, nat_tests)

-- no element is greater than n
pub all_within : (xs : List ℕ) (n : ℕ) → list_all (λ x. nat_le x n) xs ≡ true → (k : ℕ) → get_or xs k 0 ≤ n
all_within [] n h k = omega arith
all_within (x ∷ xs) n h zero = one_within x n (and_parts (nat_le x n) (list_all (λ y. nat_le y n) xs) h).0
all_within (x ∷ xs) n h (suc k) = all_within xs n (and_parts (nat_le x n) (list_all (λ y. nat_le y n) xs) h).1 k
