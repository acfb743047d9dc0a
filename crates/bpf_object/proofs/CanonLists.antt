-- The values that pass a test, by how many pass before them.
use Rattle.std.proofs.Common.{◌≡◌, ℕ, zero, suc, ◌+◌, ◌<◌, ◌≤◌, Bool, true, false, cond, List, [], ◌∷◌, ◌++◌, length, get_or, inl, inr, refl, sym, ap, subst, ◌∙◌, length-append, ext_get_or, arith}
use Rattle.std.proofs.Math.Seq.{get_or-append_seam}
use Rattle.std.proofs.lemmas.Bool.{cases_lt, cases_Bool}
use Rattle.std.proofs.lemmas.List.{get_or_append_left}
use Rattle.bpf_object.specs.Kept.{listed, number_of}

-- ---- how many pass

one_length : {A : Type 0} (y : Bool) (n : ℕ) (a : A) → n + length (cond y (a ∷ []) []) ≡ cond y (suc n) n
one_length true n a = omega arith
one_length false n a = omega arith

pub length-listed : {A : Type 0} (test : ℕ → Bool) (f : ℕ → A) (n : ℕ) → length (listed test f n) ≡ number_of test n
length-listed test f zero = refl
length-listed test f (suc n) =
    length-append (listed test f n) (cond (test n) (f n ∷ []) []) ∙ ap (λ (k : ℕ). k + length (cond (test n) (f n ∷ []) [])) (length-listed test f n)
    ∙ one_length (test n) (number_of test n) (f n)

not_fewer : (y : Bool) (n : ℕ) → n ≤ cond y (suc n) n
not_fewer true n = omega arith
not_fewer false n = omega arith

pub number_grows : (test : ℕ → Bool) (n m : ℕ) → n ≤ m → number_of test n ≤ number_of test m
number_grows test n zero le = let same : n ≡ zero = omega (arith, le) in subst (λ (k : ℕ). number_of test k ≤ zero) (sym same) (omega arith)
number_grows test n (suc m) le = elim (cases_lt n (suc m)) [
  | inl below ↦ omega (arith, number_grows test n m (omega (arith, below)), not_fewer (test m) (number_of test m))
  | inr from ↦ let same : n ≡ suc m = omega (arith, le, from) in omega (arith, ap (number_of test) same)
]

pub number_passed : (test : ℕ → Bool) (i : ℕ) → test i ≡ true → number_of test (suc i) ≡ suc (number_of test i)
number_passed test i is = ap (λ (y : Bool). cond y (suc (number_of test i)) (number_of test i)) is

pub number_skipped : (test : ℕ → Bool) (i : ℕ) → test i ≡ false → number_of test (suc i) ≡ number_of test i
number_skipped test i is = ap (λ (y : Bool). cond y (suc (number_of test i)) (number_of test i)) is

-- one that passes has fewer before it
pub number_less : (test : ℕ → Bool) (i n : ℕ) → i < n → test i ≡ true → number_of test i < number_of test n
number_less test i n lt is = omega (arith, number_passed test i is, number_grows test (suc i) n (omega (arith, lt)))

-- ---- the value of one that passes

last_listed : {A : Type 0} (xs : List A) (y : Bool) (a d : A) → y ≡ true → get_or (xs ++ cond y (a ∷ []) []) (length xs) d ≡ a
last_listed xs true a d is = get_or-append_seam xs a [] d
last_listed xs false a d is = absurd cc

pub get-listed : {A : Type 0} (test : ℕ → Bool) (f : ℕ → A) (n i : ℕ) (d : A) → i < n → test i ≡ true → get_or (listed test f n) (number_of test i) d ≡ f i
get-listed test f zero i d lt is = absurd (omega (arith, lt))
get-listed test f (suc n) i d lt is = elim (cases_lt i n) [
  | inl below ↦
      get_or_append_left (listed test f n) (cond (test n) (f n ∷ []) []) d (number_of test i) (rw (length-listed test f n) (number_less test i n below is))
      ∙ get-listed test f n i d below is
  | inr from ↦
      let same : n ≡ i = omega (arith, lt, from) in
      let here : test n ≡ true = subst (λ (k : ℕ). test k ≡ true) (sym same) is in
      ap (λ (k : ℕ). get_or (listed test f (suc n)) (number_of test k) d) (sym same)
      ∙ ap (λ (k : ℕ). get_or (listed test f (suc n)) k d) (sym (length-listed test f n))
      ∙ last_listed (listed test f n) (test n) (f n) d here ∙ ap f same
]

-- which value a place of the list has
pub record IsListedAt (test : ℕ → Bool) (n k : ℕ) : Type 0 where
  pub from : ℕ
  pub below : from < n
  pub passes : test from ≡ true
  pub number : number_of test from ≡ k

pub listed_from : (test : ℕ → Bool) (n k : ℕ) → k < number_of test n → IsListedAt test n k
listed_from test zero k lt = absurd (omega (arith, lt))
listed_from test (suc n) k lt = elim (cases_lt k (number_of test n)) [
  | inl before ↦ let it = listed_from test n k before in let below = it.below in record { from = it.from; below = omega (arith, below); passes = it.passes; number = it.number }
  | inr from ↦ elim (cases_Bool (test n)) [
    | inl is ↦ record { from = n; below = omega arith; passes = is; number = omega (arith, lt, from, number_passed test n is) }
    | inr not ↦ absurd (omega (arith, lt, from, number_skipped test n not))
  ]
]

pub listed_at : {A : Type 0} (test : ℕ → Bool) (f : ℕ → A) (n k : ℕ) (d : A) → (it : IsListedAt test n k) → get_or (listed test f n) k d ≡ f it.from
listed_at test f n k d it = ap (λ (j : ℕ). get_or (listed test f n) j d) (sym it.number) ∙ get-listed test f n it.from d it.below it.passes

-- ---- all of the first pass

pub number_all : (test : ℕ → Bool) (n : ℕ) → ((i : ℕ) → i < n → test i ≡ true) → number_of test n ≡ n
number_all test zero all = refl
number_all test (suc n) all = number_passed test n (all n (omega arith)) ∙ ap suc (number_all test n (λ i lt. all i (omega (arith, lt))))

-- all but 0
pub number_after : (test : ℕ → Bool) (n : ℕ) → test 0 ≡ false → ((i : ℕ) → i < n → test (suc i) ≡ true) → number_of test (suc n) ≡ n
number_after test zero first all = number_skipped test 0 first
number_after test (suc n) first all = number_passed test (suc n) (all n (omega arith)) ∙ ap suc (number_after test n first (λ i lt. all i (omega (arith, lt))))

pub number_stays : (test : ℕ → Bool) (n k : ℕ) → ((i : ℕ) → i < k → test (n + i) ≡ false) → number_of test (n + k) ≡ number_of test n
number_stays test n zero none = let same : n + zero ≡ n = omega arith in ap (number_of test) same
number_stays test n (suc k) none =
    let same : n + suc k ≡ suc (n + k) = omega arith in
    ap (number_of test) same ∙ number_skipped test (n + k) (none k (omega arith)) ∙ number_stays test n k (λ i lt. none i (omega (arith, lt)))

-- a list has the values of those that pass
pub listed_is : {A : Type 0} (test : ℕ → Bool) (f : ℕ → A) (n : ℕ) (xs : List A) (d : A) → number_of test n ≡ length xs
    → ((i : ℕ) → i < n → test i ≡ true → f i ≡ get_or xs (number_of test i) d) → listed test f n ≡ xs
listed_is test f n xs d count each =
    ext_get_or d (listed test f n) xs (length-listed test f n ∙ count) (λ k lt. place k (listed_from test n k (subst (λ (m : ℕ). k < m) (length-listed test f n) lt)))
  where
    place : (k : ℕ) → IsListedAt test n k → get_or (listed test f n) k d ≡ get_or xs k d
    place k it = listed_at test f n k d it ∙ each it.from it.below it.passes ∙ ap (λ (j : ℕ). get_or xs j d) it.number
