-- Calls that append keep the old bytes at the start.
use Rattle.std.proofs.Common.{◌≡◌, ℕ, suc, ◌+◌, ◌<◌, List, [], ◌∷◌, ◌++◌, length, take, get_or, sym, ap, ◌∙◌, arith, append_assoc, subst}
use Rattle.std.specs.Prelude.{Result, Ok, Err, MatchResult, OnOk, is_ok, cond}
use Rattle.std.specs.List.{flat_map}
use Rattle.std.proofs.{lemmas.List.flat_map_more, Math.Seq.take-suc}

-- the bytes for one more element of a list
pub one_more : {X : Type 0} (f : X → List ℕ) (old : List ℕ) (xs : List X) (k : ℕ) (d : X) → k < length xs
    → (old ++ flat_map f (take k xs)) ++ f (get_or xs k d) ≡ old ++ flat_map f (take (k + 1) xs)
one_more {X} f old xs k d h =
    let next : k + 1 ≡ suc k = omega arith in
    let more : take (k + 1) xs ≡ take k xs ++ get_or xs k d ∷ [] = rw next (take-suc xs k d h) in
    flat_map_more f old (take k xs) (get_or xs k d) ∙ ap (λ (t : List X). old ++ flat_map f t) (sym more)

-- likewise for a call that appends these bytes
pub one_more_appended : {X : Type 0} (f : X → List ℕ) (old : List ℕ) (xs : List X) (k : ℕ) (d : X) (mid new : List ℕ) → k < length xs
    → mid ≡ old ++ flat_map f (take k xs) → new ≡ mid ++ f (get_or xs k d) → new ≡ old ++ flat_map f (take (k + 1) xs)
one_more_appended f old xs k d mid new h m n = n ∙ ap (λ (t : List ℕ). t ++ f (get_or xs k d)) m ∙ one_more f old xs k d h

-- more bytes, after bytes that begin with the earlier ones
pub kept_more : (before mid after more : List ℕ) → ((rest : List ℕ) × (mid ≡ before ++ rest)) → after ≡ mid ++ more → (rest : List ℕ) × (after ≡ before ++ rest)
kept_more before mid after more kept e = (kept.0 ++ more, e ∙ ap (λ (t : List ℕ). t ++ more) kept.1 ∙ append_assoc before kept.0 more)

-- likewise for a call of `extend_from_slice`
pub kept_extended : {E : Type 0} (r : Result (Unit {0}) E) (before mid after more : List ℕ) → ((rest : List ℕ) × (mid ≡ before ++ rest)) → after ≡ cond (is_ok r) (mid ++ more) mid
    → (rest : List ℕ) × (after ≡ before ++ rest)
kept_extended (Ok u) before mid after more kept e = kept_more before mid after more kept e
kept_extended (Err x) before mid after more kept e = (kept.0, e ∙ kept.1)

-- what a call that appends says about the lists
abbrev pub Extends : {E : Type 0} → Result (Unit {0}) E → List ℕ → List ℕ → List ℕ → Type 0
Extends r before more after = MatchResult r (λ _. after ≡ before ++ more) (λ _. (rest : List ℕ) × (after ≡ before ++ rest))

pub appends : {E : Type 0} (r : Result (Unit {0}) E) (before more after : List ℕ) → ((rest : List ℕ) × (after ≡ before ++ rest)) → OnOk r (after ≡ before ++ more) → Extends r before more after
appends (Ok u) before more after kept whole = whole
appends (Err x) before more after kept whole = kept

-- two calls append in sequence
pub appended_after : {E : Type 0} (r : Result (Unit {0}) E) (old a b one two : List ℕ) → one ≡ old ++ a → Extends r one b two → Extends r old (a ++ b) two
appended_after (Ok u) old a b one two e h = h ∙ ap (λ (t : List ℕ). t ++ b) e ∙ append_assoc old a b
appended_after (Err x) old a b one two e h = kept_more old one two h.0 (a, e) h.1

-- likewise if the first appends a label of several parts and a number, and the second two parts
pub appended_after_label : {E : Type 0} (r : Result (Unit {0}) E) (old label parts n a b one two : List ℕ) → label ≡ parts → one ≡ old ++ (label ++ n)
    → Extends r one (a ++ b) two → Extends r old (parts ++ n ++ a ++ b) two
appended_after_label r old label parts n a b one two l e h =
    let same : (label ++ n) ++ (a ++ b) ≡ parts ++ n ++ a ++ b = ap (λ (t : List ℕ). (t ++ n) ++ (a ++ b)) l ∙ sym (append_assoc (parts ++ n) a b) in
    subst (λ (t : List ℕ). Extends r old t two) same (appended_after r old (label ++ n) (a ++ b) one two e h)
