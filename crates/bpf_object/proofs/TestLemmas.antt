-- Tests of the first numbers.
use Rattle.std.proofs.Common.{◌≡◌, ℕ, zero, suc, ◌+◌, ◌-◌, ◌<◌, ◌≤◌, ◌==◌, ◌&&◌, ◌||◌, Bool, true, false, inl, inr, refl, sym, ◌∙◌, subst, add-one, arith}
use Rattle.std.specs.Prelude.{nat_lt, nat_le}
use Rattle.std.proofs.lemmas.Bool.{cases_lt, cases_Bool, ltb-true, lt-ltb, le-ltb, le-leb, lt-leb}
use Rattle.std.proofs.lemmas.Bool.Decides.{nat_tests}
use Rattle.bpf_object.specs.Lines.{all_of, any_of}

true_false : true ≡ false → ⊥
true_false e = cc

and_true : (x y : Bool) → x ≡ true → y ≡ true → (x && y) ≡ true
and_true x y a b = rw (a, b) refl

pub all_more : (n : ℕ) (test : ℕ → Bool) → all_of n test ≡ true → test n ≡ true → all_of (n + 1) test ≡ true
all_more n test h k = rw add-one (and_true (all_of n test) (test n) h k)

and_false_right : (x y : Bool) → y ≡ false → (x && y) ≡ false
and_false_right true y e = e
and_false_right false y e = refl

and_false_left : (x y : Bool) → x ≡ false → (x && y) ≡ false
and_false_left x y e = rw e refl

pub all_fails : (n k : ℕ) (test : ℕ → Bool) → k < n → test k ≡ false → all_of n test ≡ false
all_fails zero k test lt h = absurd (omega (arith, lt))
all_fails (suc n) k test lt h =
    elim (cases_lt k n) [
      | inl below ↦ and_false_left (all_of n test) (test n) (all_fails n k test below h)
      | inr from ↦
          let same : k ≡ n = omega arith in
          and_false_right (all_of n test) (test n) (subst (λ (m : ℕ). test m ≡ false) same h)
    ]

pub first_true : (x y : Bool) → (x && y) ≡ true → x ≡ true
first_true true y e = refl
first_true false y e = cc

second_true : (x y : Bool) → (x && y) ≡ true → y ≡ true
second_true true y e = e
second_true false y e = cc

pub all_holds : (n k : ℕ) (test : ℕ → Bool) → k < n → all_of n test ≡ true → test k ≡ true
all_holds zero k test lt h = absurd (omega (arith, lt))
all_holds (suc n) k test lt h =
    elim (cases_lt k n) [
      | inl below ↦ all_holds n k test below (first_true (all_of n test) (test n) h)
      | inr from ↦
          let same : n ≡ k = omega arith in
          subst (λ (m : ℕ). test m ≡ true) same (second_true (all_of n test) (test n) h)
    ]

or_true_left : (x y : Bool) → x ≡ true → (x || y) ≡ true
or_true_left x y e = rw e refl

or_true_right : (x y : Bool) → y ≡ true → (x || y) ≡ true
or_true_right true y e = refl
or_true_right false y e = e

pub any_found : (n k : ℕ) (test : ℕ → Bool) → k < n → test k ≡ true → any_of n test ≡ true
any_found zero k test lt h = absurd (omega (arith, lt))
any_found (suc n) k test lt h =
    elim (cases_lt k n) [
      | inl below ↦ or_true_left (any_of n test) (test n) (any_found n k test below h)
      | inr from ↦
          let same : k ≡ n = omega arith in
          or_true_right (any_of n test) (test n) (subst (λ (m : ℕ). test m ≡ true) same h)
    ]

or_false : (x y : Bool) → x ≡ false → y ≡ false → (x || y) ≡ false
or_false x y a b = rw (a, b) refl

pub any_none : (n : ℕ) (test : ℕ → Bool) → ((k : ℕ) → k < n → test k ≡ false) → any_of n test ≡ false
any_none zero test h = refl
any_none (suc n) test h = or_false (any_of n test) (test n) (any_none n test (λ k lt. h k (omega (arith, lt)))) (h n (omega arith))

-- ---- numbers that ascend

next_holds : (x y : Bool) → x ≡ false → (x || y) ≡ true → y ≡ true
next_holds x y e h = rw e at h

pub above : (n : ℕ) (f : ℕ → ℕ) → all_of n (λ k. k == 0 || nat_lt (f (k - 1)) (f k)) ≡ true → (j k : ℕ) → j < k → k < n → f j < f k
above n f h j zero lt there = absurd (omega (arith, lt))
above n f h j (suc k) lt there =
    let test = all_holds n (suc k) (λ i. i == 0 || nat_lt (f (i - 1)) (f i)) there h in
    let not_first : (suc k == 0) ≡ false = grind (arith, nat_tests) in
    let step : f (suc k - 1) < f (suc k) = ltb-true _ _ (next_holds (suc k == 0) (nat_lt (f (suc k - 1)) (f (suc k))) not_first test) in
    let last : suc k - 1 ≡ k = omega arith in
    let here : f k < f (suc k) = subst (λ (i : ℕ). f i < f (suc k)) last step in
    elim (cases_lt j k) [
      | inl below ↦ let before = above n f h j k below (omega (arith, there)) in omega (arith, before, here)
      | inr from ↦
          let same : k ≡ j = omega (arith, lt, from) in
          subst (λ (i : ℕ). f i < f (suc k)) same here
    ]

other_above : (a b : ℕ) → a < b → (a == b) ≡ false
other_above a b lt = grind (arith, nat_tests)

other_below : (a b : ℕ) → b < a → (a == b) ≡ false
other_below a b lt = grind (arith, nat_tests)

not_less : (a b : ℕ) → b ≤ a → (a == b) ≡ false → b < a
not_less a b le other =
    elim (cases_lt b a) [
      | inl lt ↦ lt
      | inr ge ↦ let same : (a == b) ≡ true = grind (arith, nat_tests) in absurd (true_false (sym same ∙ other))
    ]

-- the first number that isn't less tells whether one is equal
pub found_is : (n : ℕ) (f : ℕ → ℕ) (i off : ℕ) → all_of n (λ k. k == 0 || nat_lt (f (k - 1)) (f k)) ≡ true → ((k : ℕ) → k < i → f k < off)
    → i < n → off ≤ f i → (f i == off) ≡ any_of n (λ k. f k == off)
found_is n f i off ascends before there le =
    elim (cases_Bool (f i == off)) [
      | inl same ↦ same ∙ sym (any_found n i (λ k. f k == off) there same)
      | inr other ↦
          let less : off < f i = not_less (f i) off le other in
          other ∙ sym (any_none n (λ k. f k == off) (λ k lt.
          elim (cases_lt k i) [
            | inl below ↦ other_above (f k) off (before k below)
            | inr from ↦
                elim (cases_lt i k) [
                  | inl over ↦ let greater = above n f ascends i k over lt in other_below (f k) off (omega (arith, less, greater))
                  | inr to ↦
                      let here : i ≡ k = omega arith in
                      subst (λ (m : ℕ). (f m == off) ≡ false) here other
                ]
          ]))
    ]

pub none_is : (n : ℕ) (f : ℕ → ℕ) (i off : ℕ) → ((k : ℕ) → k < i → f k < off) → n ≤ i → any_of n (λ k. f k == off) ≡ false
none_is n f i off before le = any_none n (λ k. f k == off) (λ k lt. other_above (f k) off (before k (omega (arith, lt))))

-- ---- numbers from one to below another

-- the first number that isn't less tells whether one is from there on and below another
pub within_is : (n : ℕ) (f : ℕ → ℕ) (i from size : ℕ) → all_of n (λ k. k == 0 || nat_lt (f (k - 1)) (f k)) ≡ true → ((k : ℕ) → k < i → f k < from)
    → i < n → from ≤ f i → nat_lt (f i - from) size ≡ any_of n (λ k. nat_le from (f k) && nat_lt (f k) (from + size))
within_is n f i from size ascends before there le = elim (cases_lt (f i) (from + size)) [
  | inl inside ↦
      lt-ltb (f i - from) size (omega (arith, inside, le))
      ∙ sym (any_found n i (λ k. nat_le from (f k) && nat_lt (f k) (from + size)) there
      (and_true (nat_le from (f i)) (nat_lt (f i) (from + size)) (le-leb from (f i) le) (lt-ltb (f i) (from + size) inside)))
  | inr past ↦
      le-ltb (f i - from) size (omega (arith, past, le))
      ∙ sym (any_none n (λ k. nat_le from (f k) && nat_lt (f k) (from + size))
      (λ k lt. elim (cases_lt k i) [
        | inl below ↦ and_false_left (nat_le from (f k)) (nat_lt (f k) (from + size)) (lt-leb from (f k) (before k below))
        | inr after ↦ and_false_right (nat_le from (f k)) (nat_lt (f k) (from + size)) (le-ltb (f k) (from + size) (not_below k lt after past))
      ]))
]
  where
    not_below : (k : ℕ) → k < n → i ≤ k → from + size ≤ f i → from + size ≤ f k
    not_below k lt after past = elim (cases_lt i k) [
      | inl over ↦ let greater = above n f ascends i k over lt in omega (arith, greater, past)
      | inr to ↦
          let same : i ≡ k = omega (arith, after, to) in
          subst (λ (m : ℕ). from + size ≤ f m) same past
    ]

pub none_within : (n : ℕ) (f : ℕ → ℕ) (i from to : ℕ) → ((k : ℕ) → k < i → f k < from) → n ≤ i → any_of n (λ k. nat_le from (f k) && nat_lt (f k) to) ≡ false
none_within n f i from to before le =
    any_none n (λ k. nat_le from (f k) && nat_lt (f k) to)
    (λ k lt. and_false_left (nat_le from (f k)) (nat_lt (f k) to) (lt-leb from (f k) (before k (omega (arith, lt, le)))))
