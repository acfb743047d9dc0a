-- Tests of numbers that pass.
use Rattle.std.proofs.Common.{◌≡◌, ℕ, ◌<◌, ◌≤◌, ◌==◌, true, false, arith}
use Rattle.std.specs.Prelude.{nat_le, nat_lt}
use Rattle.std.proofs.lemmas.Bool.Decides.{nat_tests}

pub equal_test : (a b : ℕ) → a ≡ b → (a == b) ≡ true
equal_test a b e = grind (arith, nat_tests)

pub most_test : (a b : ℕ) → a ≤ b → nat_le a b ≡ true
most_test a b le = grind (arith, nat_tests)

pub less_test : (a b : ℕ) → a < b → nat_lt a b ≡ true
less_test a b lt = grind (arith, nat_tests)

pub test_below : (a b : ℕ) → nat_lt a b ≡ true → a < b
test_below a b h = grind (arith, nat_tests)

pub over_test : (a b : ℕ) → b < a → nat_le a b ≡ false
over_test a b lt = grind (arith, nat_tests)
