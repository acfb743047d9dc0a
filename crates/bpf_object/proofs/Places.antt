-- The places of numbers in a list.
use Rattle.std.proofs.Common.{◌≡◌, ◌≢◌, ◌⊎◌, ℕ, zero, suc, ◌+◌, ◌<◌, ◌≤◌, ◌==◌, true, false, List, [], ◌∷◌, ◌++◌, length, get_or, take, drop, append-nil, inl, inr, refl, sym, ap, subst, ◌∙◌, arith}
use Rattle.std.specs.Prelude.{slice_index}
use Rattle.std.specs.{List.Contains, List.range_with_len, List.All}
use Rattle.std.specs.List.Sorted.{IsPermutation}
use Rattle.std.proofs.lemmas.Bool.{ne_eqb}
use Rattle.std.proofs.lemmas.List.{drop_all, take_all}
use Rattle.std.proofs.lemmas.List.FromFn.{length-range_with_len, get_or-range_with_len}
use Rattle.std.proofs.lemmas.List.Sorted.{length_permutation, Contains-permutation, All-permutation, IsPermutation-put_mid, IsPermutation-trans, IsPermutation-refl}
use borrow.Rule.Slice.PartMut.{mid_of, put_mid}
use Rattle.bpf_object.specs.TypeOrder.{place_from}

-- the place of the first element that is the number
pub place_at : (k : ℕ) (ids : List ℕ) (i d : ℕ) → i < length ids → ((j : ℕ) → j < i → get_or ids j d ≢ get_or ids i d) → place_from k ids (get_or ids i d) ≡ k + i
place_at k [] i d lt apart = absurd (omega (arith, lt))
place_at k (a ∷ ids) zero d lt apart =
    let same : (a == a) ≡ true = grind arith in
    rw same (omega arith)
place_at k (a ∷ ids) (suc i) d lt apart =
    let other : (a == get_or ids i d) ≡ false = ne_eqb a (get_or ids i d) (apart 0 (omega arith)) in
    rw other (place_at (suc k) ids i d (omega (arith, lt)) (λ j l. apart (suc j) (omega (arith, l))) ∙ omega arith)

-- a number that isn't there
pub place_out : (k : ℕ) (ids : List ℕ) (id : ℕ) → ((j : ℕ) → j < length ids → get_or ids j 0 ≢ id) → place_from k ids id ≡ id
place_out k [] id out = refl
place_out k (a ∷ ids) id out =
    let other : (a == id) ≡ false = ne_eqb a id (out 0 (omega arith)) in
    rw other (place_out (suc k) ids id (λ j l. out (suc j) (omega (arith, l))))

range_more : (a n : ℕ) → range_with_len a (n + 1) ≡ range_with_len a n ++ (a + n) ∷ []
range_more a zero =
    let at : a + 0 ≡ a = omega arith in
    rw at refl
range_more a (suc n) =
    let next : suc n + 1 ≡ suc (n + 1) = omega arith in
    let at : a + 1 + n ≡ a + suc n = omega arith in
    rw next (ap (λ (t : List ℕ). a ∷ t) (range_more (a + 1) n ∙ ap (λ (m : ℕ). range_with_len (a + 1) n ++ m ∷ []) at))

pub all_more : (n : ℕ) → range_with_len 1 (n + 1) ≡ range_with_len 1 n ++ (n + 1) ∷ []
all_more n = let at : 1 + n ≡ n + 1 = omega arith in range_more 1 n ∙ ap (λ (m : ℕ). range_with_len 1 n ++ m ∷ []) at

-- what a list is after a write to a slice of all of it
pub written_back : {X : Type 0} (new items : List X) (len : ℕ) → length new ≡ length items → length items ≡ len → take len (new ++ drop (length new) items) ≡ new
written_back {X = X} new items len same whole =
    let none : drop (length new) items ≡ [] = drop_all (length new) items (omega (arith, same)) in
    ap (λ (xs : List X). take len (new ++ xs)) none ∙ ap (take len) (append-nil new) ∙ take_all len new (omega (arith, same, whole))

-- ---- a permutation of the numbers from 1

pub in_range : (n i : ℕ) → i < n → get_or (range_with_len 1 n) i 0 ≡ suc i
in_range n i lt = get_or-range_with_len 1 n i 0 lt ∙ omega arith

module _ (n : ℕ) (ids : List ℕ) (are : IsPermutation (range_with_len 1 n) ids) where
  pub ids_length : length ids ≡ n
  ids_length = length_permutation (range_with_len 1 n) ids are ∙ length-range_with_len 1 n

  range_above : All (λ a. (0 < a) × (a ≤ n)) (range_with_len 1 n)
  range_above i d lt =
      let there : i < n = omega (arith, lt, length-range_with_len 1 n) in
      let at : get_or (range_with_len 1 n) i d ≡ 1 + i = get_or-range_with_len 1 n i d there in
      (omega (arith, at), omega (arith, at, there))

  pub ids_in_range : All (λ a. (0 < a) × (a ≤ n)) ids
  ids_in_range = All-permutation (λ a. (0 < a) × (a ≤ n)) (range_with_len 1 n) ids are range_above

  pub id_above : (i : ℕ) → i < length ids → (0 < get_or ids i 0) × (get_or ids i 0 ≤ n)
  id_above i lt = All-permutation (λ a. (0 < a) × (a ≤ n)) (range_with_len 1 n) ids are range_above i 0 lt

  -- where a number is
  pub record IsAt (id : ℕ) : Type 0 where
    pub index : ℕ
    pub inside : index < length ids
    pub is : get_or ids index 0 ≡ id

  pub find : (id : ℕ) → 0 < id → id ≤ n → IsAt id
  find (suc i) some le =
      let lt : i < n = omega (arith, le) in
      let there : Contains (range_with_len 1 n) (suc i) = (i, omega (arith, lt, length-range_with_len 1 n), get_or-range_with_len 1 n i (suc i) lt ∙ omega arith) in
      let found = Contains-permutation (range_with_len 1 n) ids (suc i) are there in
      record { index = found.0; inside = found.1; is = same_default ids found.0 (suc i) found.1 ∙ found.2 }
    where
      same_default : (xs : List ℕ) (j d : ℕ) → j < length xs → get_or xs j 0 ≡ get_or xs j d
      same_default [] j d lt = absurd (omega (arith, lt))
      same_default (x ∷ xs) zero d lt = refl
      same_default (x ∷ xs) (suc j) d lt = same_default xs j d (omega (arith, lt))
  find zero some le = absurd (omega (arith, some))

  pub not_there : (id : ℕ) → (id ≡ 0) ⊎ (n < id) → (j : ℕ) → j < length ids → get_or ids j 0 ≢ id
  not_there id out j lt e =
      let above = id_above j lt in
      elim out [ inl none ↦ omega (arith, above, e, none) | inr over ↦ omega (arith, above, e, over) ]
