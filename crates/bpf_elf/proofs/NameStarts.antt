-- What the bytes at the offset of a name tell of the name.
use Rattle.std.proofs.Common.{◌≡◌, ℕ, zero, suc, ◌+◌, ◌<◌, ◌==◌, ◌&&◌, Bool, true, false, not, cond, List, [], ◌∷◌, length, drop, codes, refl, ap, sym, ◌∙◌, arith}
use Rattle.std.specs.Prelude.{nat_eq, slice_index}
use Rattle.std.specs.List.{take_while, list_all}
use Rattle.std.proofs.lemmas.{Bool.Decides.nat_tests, List.Sums.take_while-cons}
use Rattle.bpf_elf.specs.Kinds.{begins}
use Rattle.bpf_elf.specs.Names.{string_at}

abbrev is_letter : ℕ → Bool
is_letter c = not (c == 0)

next_begins : (passes : Bool) (x y : ℕ) (xs ys text : List ℕ) → begins ys text ≡ begins xs text → (passes ≡ false → nat_eq y x ≡ false)
    → begins (cond passes (x ∷ ys) []) (y ∷ text) ≡ begins (x ∷ xs) (y ∷ text)
next_begins true x y xs ys text same other = ap (λ b. nat_eq y x && b) same
next_begins false x y xs ys text same other = rw (other refl) refl

no_letter : (x y : ℕ) → is_letter x ≡ false → is_letter y ≡ true → nat_eq y x ≡ false
no_letter x y low high = grind (arith, nat_tests)

letters : (x y : Bool) → (x && y) ≡ true → (x ≡ true) × (y ≡ true)
letters true true h = (refl, refl)
letters true false h = cc
letters false y h = cc

before_nul : (xs text : List ℕ) → list_all is_letter text ≡ true → begins (take_while is_letter xs) text ≡ begins xs text
before_nul xs [] all = refl
before_nul [] (y ∷ text) all = refl
before_nul (x ∷ xs) (y ∷ text) all =
    let both = letters (is_letter y) (list_all is_letter text) all in
    ap (λ t. begins t (y ∷ text)) (take_while-cons is_letter x xs)
    ∙ next_begins (is_letter x) x y xs (take_while is_letter xs) text (before_nul xs text both.1) (λ low. no_letter x y low both.0)

-- a name begins with a text if the bytes at its offset do
pub label_start : (strings : List ℕ) (off : ℕ) → begins (drop off strings) (codes "LBB") ≡ begins (string_at strings off) (codes "LBB")
label_start strings off = sym (before_nul (drop off strings) (codes "LBB") refl)

first_letter : (passes : Bool) (x : ℕ) (xs : List ℕ) → (length (cond passes (x ∷ xs) []) == 0) ≡ not passes
first_letter true x xs = grind (arith, nat_tests)
first_letter false x xs = refl

twice_not : (x : Bool) → not (not x) ≡ x
twice_not true = refl
twice_not false = refl

-- a name has no letters if the byte at its offset is NUL
pub nameless_start : (strings : List ℕ) (off : ℕ) → off < length strings → (slice_index strings off == 0) ≡ (length (string_at strings off) == 0)
nameless_start [] off lt = absurd (omega (arith, lt))
nameless_start (x ∷ xs) zero lt =
    sym (ap (λ (t : List ℕ). length t == 0) (take_while-cons is_letter x xs) ∙ first_letter (is_letter x) x (take_while is_letter xs) ∙ twice_not (x == 0))
nameless_start (x ∷ xs) (suc off) lt = nameless_start xs off (omega (arith, lt))
