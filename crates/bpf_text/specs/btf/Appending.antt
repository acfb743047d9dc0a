-- A vector after a call that appends bytes to it.
use Rattle.std.specs.Prelude.{◌≡◌, ◌++◌, ℕ, List, Result, MatchResult}
use Rattle.std.specs.declared.vec.Vec.{Vec}

-- after `Ok` the vector has grown by exactly these bytes; after `Err` it still begins with its earlier contents
abbrev pub Appends : {E Z : Type 0} → Result (Unit {0}) E → Vec ℕ Z → List ℕ → Vec ℕ Z → Type 0
Appends r old more new = MatchResult r (λ _. new.items ≡ old.items ++ more) (λ _. (rest : List ℕ) × (new.items ≡ old.items ++ rest))
