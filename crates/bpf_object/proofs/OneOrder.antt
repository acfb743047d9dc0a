-- Two orders by keys of records are one, if the key of a record depends only on the new numbers of records of earlier groups.
use Rattle.std.proofs.Common.{◌≡◌, ◌≢◌, ◌⊎◌, ℕ, zero, suc, ◌<◌, ◌≤◌, List, [], ◌∷◌, length, get_or, inl, inr, refl, sym, ap, subst, ◌∙◌, arith}
use Rattle.std.specs.{List.range_with_len}
use Rattle.std.specs.List.Sorted.{IsPermutation, IsStrictlySortedBy}
use Rattle.std.specs.Cmp.{IsTotalOrder}
use Rattle.std.specs.declared.cmp.Ordering.{Ordering, TheVariants.Less}
use Rattle.std.proofs.lemmas.Bool.{cases_eq, cases_lt}
use Rattle.std.proofs.lemmas.Cmp.{tied_itself}
use Rattle.std.proofs.lemmas.Map.Keys.{Less-from_sorted}
use Rattle.bpf_object.specs.TypeOrder.{new_number}
use Rattle.bpf_object.proofs.Places.{place_at, place_out, ids_length, id_above, find, not_there}

-- lists with the same elements
same_list : (xs ys : List ℕ) → length xs ≡ length ys → ((i : ℕ) → i < length xs → get_or xs i 0 ≡ get_or ys i 0) → xs ≡ ys
same_list [] [] same each = refl
same_list [] (y ∷ ys) same each = absurd (omega (arith, same))
same_list (x ∷ xs) [] same each = absurd (omega (arith, same))
same_list (x ∷ xs) (y ∷ ys) same each =
    let first : x ≡ y = each 0 (omega arith) in
    let rest : xs ≡ ys = same_list xs ys (omega (arith, same)) (λ i lt. each (suc i) (omega (arith, lt))) in
    cc

module _ (n : ℕ) (group : ℕ → ℕ) (before : (ℕ → ℕ) → ℕ → ℕ → Ordering) (total : (f : ℕ → ℕ) → IsTotalOrder (before f))
    (lower : (f : ℕ → ℕ) (a b : ℕ) → group a < group b → before f a b ≡ Less) where
  -- no record precedes itself
  itself : (f : ℕ → ℕ) (a : ℕ) → before f a a ≢ Less
  itself f a less = let e = sym (tied_itself (total f) a) ∙ less in absurd cc

  -- nor one that precedes it
  back : (f : ℕ → ℕ) (a b : ℕ) → before f a b ≡ Less → before f b a ≢ Less
  back f a b left right = itself f a ((total f).trans a b a left right)

  pub record IsSequence (ids : List ℕ) : Type 0 where
    pub are : IsPermutation (range_with_len 1 n) ids
    pub sorted : IsStrictlySortedBy (before (new_number ids)) ids

  module _ (ids : List ℕ) (is : IsSequence ids) where
    pub rises : (i j : ℕ) → i < j → j < length ids → before (new_number ids) (get_or ids i 0) (get_or ids j 0) ≡ Less
    rises i j lt there = Less-from_sorted (before (new_number ids)) ids i j 0 is.sorted lt there

    -- no number occurs twice
    pub apart : (i j : ℕ) → i < j → j < length ids → get_or ids i 0 ≢ get_or ids j 0
    apart i j lt there e =
        itself (new_number ids) (get_or ids i 0) (subst (λ (b : ℕ). before (new_number ids) (get_or ids i 0) b ≡ Less) (sym e) (rises i j lt there))

    pub number_at : (i : ℕ) → i < length ids → new_number ids (get_or ids i 0) ≡ suc i
    number_at i there = place_at 1 ids i 0 there (λ j lt. apart j i lt there) ∙ omega arith

    pub number_out : (id : ℕ) → (id ≡ 0) ⊎ (n < id) → new_number ids id ≡ id
    number_out id out = place_out 1 ids id (not_there n ids is.are id out)

    -- a record of an earlier group is earlier
    pub earlier : (t j : ℕ) → 0 < t → t ≤ n → j < length ids → group t < group (get_or ids j 0) → (i : ℕ) × (i < j) × (get_or ids i 0 ≡ t)
    earlier t j some le there lt =
        let at = find n ids is.are t some le in
        let same = at.is in
        elim (cases_lt at.index j) [
          | inl before ↦ (at.index, before, at.is)
          | inr from ↦ elim (cases_eq at.index j) [
            | inl e ↦ let here : t ≡ get_or ids j 0 = sym same ∙ ap (λ (i : ℕ). get_or ids i 0) e in absurd (omega (arith, lt, here, ap group here))
            | inr other ↦
                let after : j < at.index = omega (arith, from, other) in
                let rise = rises j at.index after at.inside in
                absurd (back (new_number ids) (get_or ids j 0) t
                (subst (λ (b : ℕ). before (new_number ids) (get_or ids j 0) b ≡ Less) same rise) (lower (new_number ids) t (get_or ids j 0) lt))
          ]
        ]

  -- what a record's key depends on
  abbrev pub IsEarlier : ℕ → ℕ → Type 0
  IsEarlier t a = ((t ≡ 0) ⊎ (n < t)) ⊎ ((0 < t) × (t ≤ n) × (group t < group a))

  module _ (depends : (f g : ℕ → ℕ) (a b : ℕ) → ((t : ℕ) → IsEarlier t a → f t ≡ g t) → ((t : ℕ) → IsEarlier t b → f t ≡ g t) → before f a b ≡ before g a b) where
    -- if the records before are the same, earlier types have the same numbers
    same_number : (p q : List ℕ) (left : IsSequence p) (right : IsSequence q) (j : ℕ) → j < n → ((i : ℕ) → i < j → get_or p i 0 ≡ get_or q i 0) → (t : ℕ)
        → IsEarlier t (get_or p j 0) → new_number p t ≡ new_number q t
    same_number p q left right j there same t (inl out) = number_out p left t out ∙ sym (number_out q right t out)
    same_number p q left right j there same t (inr early) =
        let inside : j < length p = omega (arith, there, ids_length n p left.are) in
        let at = earlier p left t j early.0 early.1 inside early.2 in
        let lt = at.1 in
        let left_is = number_at p left at.0 (omega (arith, lt, inside)) in
        let right_is = number_at q right at.0 (omega (arith, lt, there, ids_length n q right.are)) in
        sym (ap (new_number p) at.2) ∙ left_is ∙ sym right_is ∙ ap (new_number q) (sym (same at.0 at.1) ∙ at.2)

    -- the first record that differs is later in the other order
    later : (p q : List ℕ) (left : IsSequence p) (right : IsSequence q) (j : ℕ) → j < n → ((i : ℕ) → i < j → get_or p i 0 ≡ get_or q i 0) → get_or p j 0 ≢ get_or q j 0
        → before (new_number p) (get_or p j 0) (get_or q j 0) ≡ Less
    later p q left right j there same other =
        let inside : j < length q = omega (arith, there, ids_length n q right.are) in
        let above = id_above n q right.are j inside in
        let at = find n p left.are (get_or q j 0) above.0 above.1 in
        elim (cases_lt at.index j) [
          | inl lt ↦ absurd (apart q right at.index j lt inside (sym (same at.index lt) ∙ at.is))
          | inr from ↦ elim (cases_eq at.index j) [
            | inl e ↦ absurd (other (ap (λ (i : ℕ). get_or p i 0) (sym e) ∙ at.is))
            | inr apart ↦
                subst (λ (b : ℕ). before (new_number p) (get_or p j 0) b ≡ Less) at.is (rises p left j at.index (omega (arith, from, apart)) at.inside)
          ]
        ]

    same_place : (p q : List ℕ) (left : IsSequence p) (right : IsSequence q) (j : ℕ) → j < n → ((i : ℕ) → i < j → get_or p i 0 ≡ get_or q i 0) → get_or p j 0 ≡ get_or q j 0
    same_place p q left right j there same = elim (cases_eq (get_or p j 0) (get_or q j 0)) [
      | inl e ↦ e
      | inr other ↦
          let back_same : (i : ℕ) → i < j → get_or q i 0 ≡ get_or p i 0 = λ i lt. sym (same i lt) in
          let first = later p q left right j there same other in
          let second = later q p right left j there back_same (λ e. other (sym e)) in
          let as_one =
          depends (new_number p) (new_number q) (get_or p j 0) (get_or q j 0) (same_number p q left right j there same)
          (λ t e. sym (same_number q p right left j there back_same t e)) in
          absurd (back (new_number q) (get_or q j 0) (get_or p j 0) second (sym as_one ∙ first))
    ]

    below : (p q : List ℕ) (left : IsSequence p) (right : IsSequence q) (m : ℕ) → m ≤ n → (i : ℕ) → i < m → get_or p i 0 ≡ get_or q i 0
    below p q left right zero le i lt = absurd (omega (arith, lt))
    below p q left right (suc m) le i lt = elim (cases_lt i m) [
      | inl less ↦ below p q left right m (omega (arith, le)) i less
      | inr from ↦
          let last : i ≡ m = omega (arith, lt, from) in
          subst (λ (k : ℕ). get_or p k 0 ≡ get_or q k 0) (sym last)
          (same_place p q left right m (omega (arith, le)) (below p q left right m (omega (arith, le))))
    ]

    -- there is one order
    pub one_sequence : (p q : List ℕ) → IsSequence p → IsSequence q → p ≡ q
    one_sequence p q left right =
        let length_is = ids_length n p left.are in
        same_list p q (length_is ∙ sym (ids_length n q right.are))
        (λ i lt. below p q left right n (omega arith) i (omega (arith, lt, length_is)))
