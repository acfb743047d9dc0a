-- A test that decides a proposition.
use Rattle.std.proofs.Common.{◌↔◌, IsTrue, Bool, true, false, MatchBool, refl}

pub test_decides : (P : Type 0) (r : Bool) → MatchBool r P (P → ⊥) → IsTrue r ↔ P
test_decides P true h = (λ t. h, λ p. refl)
test_decides P false h = (λ t. cc, λ p. absurd (h p))
