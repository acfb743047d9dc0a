-- Lists of rules that are checked one after the other.
use Rattle.std.proofs.Common.{◌≡◌, ℕ, suc, zero, ◌+◌, ◌<◌, ◌≤◌, ◌⊎◌, inl, inr, ◌==◌, ◌&&◌, true, false, Bool, Option, Some, None, List, [], ◌∷◌, ◌++◌, refl, sym, ◌∙◌, subst, cond, add-one, arith}
use Rattle.std.proofs.lemmas.Bool.{cases_lt}
use Rattle.std.proofs.lemmas.Bool.Decides.{nat_tests}
use Rattle.std.specs.Prelude.{Result, MatchResult}
use Rattle.bpf_elf.specs.declared.fault.{ElfCause.ElfCause, ElfFault.ElfFault}
use Rattle.bpf_elf.specs.Rules.{Rule, ElfRule, rule, Broken, broken, first_broken, AllHold, Checks, each, first_of}

after_one : {C : Type 0} (x : Bool) (f : Broken C) (a b c : Option (Broken C)) → cond x a (Some f) ≡ None → (a ≡ None → b ≡ c) → cond x b (Some f) ≡ c
after_one true f a b c h next = next h
after_one false f a b c h next = cc

-- what comes after rules that hold decides
pub after_holding : {C : Type 0} (xs ys : List (Rule C)) → AllHold xs → first_broken (xs ++ ys) ≡ first_broken ys
after_holding [] ys h = refl
after_holding (r ∷ rs) ys h =
    after_one r.holds (broken r.cause r.pos) (first_broken rs) (first_broken (rs ++ ys)) (first_broken ys) h (after_holding rs ys)

before_one : {C : Type 0} (x : Bool) (f g : Broken C) (a b : Option (Broken C)) → cond x a (Some f) ≡ Some g → (a ≡ Some g → b ≡ Some g) → cond x b (Some f) ≡ Some g
before_one true f g a b h next = next h
before_one false f g a b h next = h

-- a rule that is broken stays the first one
pub stays_first : {C : Type 0} (xs ys : List (Rule C)) (f : Broken C) → first_broken xs ≡ Some f → first_broken (xs ++ ys) ≡ Some f
stays_first [] ys f h = cc
stays_first (r ∷ rs) ys f h =
    before_one r.holds (broken r.cause r.pos) f (first_broken rs) (first_broken (rs ++ ys)) h (stays_first rs ys f)

pub both_hold : {C : Type 0} (xs ys : List (Rule C)) → AllHold xs → AllHold ys → AllHold (xs ++ ys)
both_hold xs ys h k = after_holding xs ys h ∙ k

first_one : {C : Type 0} (x : Bool) (f : Broken C) (a b : Option (Broken C)) → cond x a (Some f) ≡ None → (a ≡ None → b ≡ None) → cond x b (Some f) ≡ None
first_one true f a b h next = next h
first_one false f a b h next = cc

pub first_hold : {C : Type 0} (xs ys : List (Rule C)) → AllHold (xs ++ ys) → AllHold xs
first_hold [] ys h = refl
first_hold (r ∷ rs) ys h =
    first_one r.holds (broken r.cause r.pos) (first_broken (rs ++ ys)) (first_broken rs) h (first_hold rs ys)

pub rest_hold : {C : Type 0} (xs ys : List (Rule C)) → AllHold (xs ++ ys) → AllHold ys
rest_hold xs ys h = sym (after_holding xs ys (first_hold xs ys h)) ∙ h

-- ---- rules of each of a sequence

pub each_more : {C : Type 0} (n : ℕ) (rules : ℕ → List (Rule C)) → AllHold (each n rules) → AllHold (rules n) → AllHold (each (n + 1) rules)
each_more n rules h k = rw add-one (both_hold (each n rules) (rules n) h k)

each_stays : {C : Type 0} (n m : ℕ) (rules : ℕ → List (Rule C)) (f : Broken C) → m ≤ n → first_broken (each m rules) ≡ Some f → first_broken (each n rules) ≡ Some f
each_stays zero m rules f le h =
    let same : m ≡ zero = omega arith in
    subst (λ (k : ℕ). first_broken (each k rules) ≡ Some f) same h
each_stays (suc n) m rules f le h =
    elim (cases_lt n m) [
      | inl above ↦
          let same : m ≡ suc n = omega arith in
          subst (λ (k : ℕ). first_broken (each k rules) ≡ Some f) same h
      | inr below ↦ stays_first (each n rules) (rules n) f (each_stays n m rules f below h)
    ]

-- the first rule that one of them breaks is the first of all
pub each_fault : {C : Type 0} (n i : ℕ) (rules : ℕ → List (Rule C)) (f : Broken C) → i < n → AllHold (each i rules) → first_broken (rules i) ≡ Some f
    → first_broken (each n rules) ≡ Some f
each_fault n i rules f lt h k =
    let here : first_broken (each (suc i) rules) ≡ Some f = after_holding (each i rules) (rules i) h ∙ k in
    each_stays n (suc i) rules f (omega arith) here

-- each of them holds
pub each_holds : {C : Type 0} (n i : ℕ) (rules : ℕ → List (Rule C)) → i < n → AllHold (each n rules) → AllHold (rules i)
each_holds zero i rules lt h = absurd (omega (arith, lt))
each_holds (suc n) i rules lt h =
    elim (cases_lt i n) [
      | inl below ↦ each_holds n i rules below (first_hold (each n rules) (rules n) h)
      | inr from ↦
          let same : n ≡ i = omega arith in
          subst (λ (m : ℕ). AllHold (rules m)) same (rest_hold (each n rules) (rules n) h)
    ]

-- ---- the first of a sequence that passes a test

pub first_of_none : (n : ℕ) (test : ℕ → Bool) → ((k : ℕ) → k < n → test k ≡ false) → first_of n test ≡ 0
first_of_none zero test none = refl
first_of_none (suc n) test none =
    let before = first_of_none n test (λ k lt. none k (omega arith)) in
    let here = none n (omega arith) in
    rw (before, here) refl

keeps_first : (a : ℕ) (x : Bool) (i n : ℕ) → a ≡ i → 0 < i → cond (0 == a && x) n a ≡ i
keeps_first a x i n e some =
    let other : (0 == a) ≡ false = grind (arith, nat_tests) in
    rw other e

takes_first : (a : ℕ) (x : Bool) (n : ℕ) → a ≡ 0 → x ≡ true → cond (0 == a && x) n a ≡ n
takes_first a x n e h = rw (e, h) refl

-- a test that 0 doesn't pass
pub first_of_found : (n i : ℕ) (test : ℕ → Bool) → i < n → ((k : ℕ) → k < i → test k ≡ false) → test i ≡ true → 0 < i → first_of n test ≡ i
first_of_found zero i test lt none here some = absurd (omega (arith, lt))
first_of_found (suc n) i test lt none here some =
    elim (cases_lt i n) [
      | inl below ↦ keeps_first (first_of n test) (test n) i n (first_of_found n i test below none here some) some
      | inr from ↦
          let same : i ≡ n = omega arith in
          let before : first_of n test ≡ 0 = first_of_none n test (λ k l. none k (omega (arith, l, from))) in
          takes_first (first_of n test) (test n) n before (subst (λ (m : ℕ). test m ≡ true) same here) ∙ sym same
    ]

chosen : (y x : Bool) (n a i : ℕ) → cond (y && x) n a ≡ i → ((i ≡ n) × (x ≡ true)) ⊎ (a ≡ i)
chosen true true n a i e = inl (sym e, refl)
chosen true false n a i e = inr e
chosen false x n a i e = inr e

-- and one that is found passes it
pub first_of_there : (n i : ℕ) (test : ℕ → Bool) → first_of n test ≡ i → 0 < i → (i < n) × (test i ≡ true)
first_of_there zero i test e some = absurd (omega (arith, e, some))
first_of_there (suc n) i test e some =
    elim (chosen (0 == first_of n test) (test n) n (first_of n test) i e) [
      | inl here ↦ (omega (arith, here.0), subst (λ (m : ℕ). test m ≡ true) (sym here.0) here.1)
      | inr before ↦ let there = first_of_there n i test before some in (omega (arith, there.0), there.1)
    ]

-- ---- lists of rules that are checked one after the other

pub then_checks : {A : Type 0} (xs ys : List ElfRule) (result : Result A ElfFault) → AllHold xs → Checks ys result → Checks (xs ++ ys) result
then_checks xs ys result h k =
    subst (λ (o : Option (Broken ElfCause)). MatchResult result (λ _. o ≡ None) (λ f. o ≡ Some (broken f.cause f.pos))) (sym (after_holding xs ys h)) k

-- the first rule that is broken after rules that hold
pub next_fault : {C : Type 0} (xs ys : List (Rule C)) (f : Broken C) → AllHold xs → first_broken ys ≡ Some f → first_broken (xs ++ ys) ≡ Some f
next_fault xs ys f h k = after_holding xs ys h ∙ k

some_none : {C : Type 0} (f : Broken C) → Some f ≡ None → ⊥
some_none f e = cc

one_holds : {C : Type 0} (x : Bool) (f : Broken C) (a : Option (Broken C)) → cond x a (Some f) ≡ None → (x ≡ true) × (a ≡ None)
one_holds true f a h = (refl, h)
one_holds false f a h = absurd (some_none f h)

-- the first of a list of rules that hold, and the others
pub head_holds : {C : Type 0} (cause : C) (pos : ℕ) (holds : Bool) (rs : List (Rule C)) → AllHold (rule cause pos holds ∷ rs) → (holds ≡ true) × AllHold rs
head_holds cause pos holds rs h = one_holds holds (broken cause pos) (first_broken rs) h
