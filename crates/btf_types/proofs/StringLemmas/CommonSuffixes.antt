-- Common suffixes determine which strings are suffixes of which, and therefore the hosts among strings sorted by reversed bytes.
use Rattle.std.proofs.Common.{◌≡◌, ℕ, zero, suc, ◌+◌, ◌-◌, ◌<◌, ◌≤◌, true, false, eqb, inl, inr, List, [], ◌∷◌, ◌++◌, length, get_or, refl, sym, ap, ◌∙◌, subst, arith}
use Rattle.std.specs.{Prelude.reverse, Ordering.is_lt, Str.bytes_eq, List.filter, List.Sorted.IsSorted}
use Rattle.std.proofs.lemmas.Bool.{both_ways, cases_Bool, cases_lt, cases_eq, cond-true, cond-false, eq-eqb, ne_eqb}
use Rattle.std.proofs.lemmas.Cmp.{tied_itself}
use Rattle.std.proofs.lemmas.List.{reverse-append, reverse-reverse, length-reverse, get_or_default, Sorted.sorted_far}
use Rattle.btf_types.specs.strings.SharedNames.{is_suffix, suffix_cmp, hosts_of, host_in, least_by_suffix}
use Rattle.btf_types.specs.strings.CommonSuffixes.{common_front, common_tail, AreInSuffixOrder, RanksAreTogether, IsFirstRank, IsNextHost, FirstRankEnds, RankHasHost}
use Rattle.btf_types.proofs.Members.{Has, Has-get_or, Has-filter, Has-from_filter, Has-from_Contains, Contains-from_Has}
use Rattle.btf_types.proofs.StringLemmas.{Texts.same_text, Texts.bytes_eq-same, Longest.host_from}
use Rattle.btf_types.proofs.StringLemmas.Suffixes.{Ends, Ends-refl, Ends-trans, Ends-same_length, Ends-from_suffix, suffix_from_Ends, Ends-from_proper, proper_from_Ends}
use Rattle.btf_types.proofs.StringLemmas.Hosts.{suffix_lt, suffix_ranks, suffix_total, least_is, host_ends_none, host_member}
use Rattle.btf_types.proofs.StringLemmas.SuffixOrder.{Ends-between, Ends-below, suffix_tie}

-- y begins with p
abbrev pub Begins : List ℕ → List ℕ → Type 0
Begins p y = (rest : List ℕ) × (y ≡ p ++ rest)

front_same : (a b : ℕ) (x y : List ℕ) → a ≡ b → common_front (a ∷ x) (b ∷ y) ≡ 1 + common_front x y
front_same a b x y e = cond-true (eqb a b) (1 + common_front x y) 0 (eq-eqb a b e)

front_other : (a b : ℕ) (x y : List ℕ) → (a ≡ b → ⊥) → common_front (a ∷ x) (b ∷ y) ≡ 0
front_other a b x y n = cond-false (eqb a b) (1 + common_front x y) 0 (ne_eqb a b n)

front_turned : (x y : List ℕ) → common_front x y ≡ common_front y x
front_turned [] [] = refl
front_turned [] (b ∷ y) = refl
front_turned (a ∷ x) [] = refl
front_turned (a ∷ x) (b ∷ y) = elim (cases_eq a b) [
  | inl e ↦ front_same a b x y e ∙ ap (λ (n : ℕ). 1 + n) (front_turned x y) ∙ sym (front_same b a y x (sym e))
  | inr n ↦ front_other a b x y n ∙ sym (front_other b a y x (λ e. n (sym e)))
]

-- a prefix of a list is one of each list that has that many elements in common with it
begins_through : (p n z : List ℕ) → length p ≤ common_front (p ++ n) z → Begins p z
begins_through [] n z h = (z, refl)
begins_through (a ∷ p) n [] h = absurd (omega (arith, h))
begins_through (a ∷ p) n (b ∷ z) h = elim (cases_eq a b) [
  | inl e ↦
      let i = begins_through p n z (omega (arith, h, front_same a b (p ++ n) z e)) in
      (i.0, cc)
  | inr other ↦ absurd (omega (arith, h, front_other a b (p ++ n) z other))
]

begins_common : (p n m : List ℕ) → length p ≤ common_front (p ++ n) (p ++ m)
begins_common [] n m = omega arith
begins_common (a ∷ p) n m = omega (arith, begins_common p n m, front_same a a (p ++ n) (p ++ m) refl)

front_at_most : (x y : List ℕ) → common_front x y ≤ length x
front_at_most [] y = omega arith
front_at_most (a ∷ x) [] = omega arith
front_at_most (a ∷ x) (b ∷ y) = elim (cases_eq a b) [
  | inl e ↦ omega (arith, front_same a b x y e, front_at_most x y)
  | inr n ↦ omega (arith, front_other a b x y n)
]

-- the same from the end
pub Begins-from_Ends : (x y : List ℕ) → Ends x y → Begins (reverse x) (reverse y)
Begins-from_Ends x y (front, e) = (reverse front, ap reverse e ∙ reverse-append front x)

pub Ends-from_Begins : (x y : List ℕ) → Begins (reverse x) (reverse y) → Ends x y
Ends-from_Begins x y (rest, e) =
    (reverse rest, sym (reverse-reverse y) ∙ ap reverse e ∙ reverse-append (reverse x) rest ∙ ap (λ (t : List ℕ). reverse rest ++ t) (reverse-reverse x))

pub suffix_turned : (x y : List ℕ) → common_tail x y ≡ common_tail y x
suffix_turned x y = front_turned (reverse x) (reverse y)

pub suffix_at_most : (x y : List ℕ) → common_tail x y ≤ length x
suffix_at_most x y = omega (arith, front_at_most (reverse x) (reverse y), length-reverse x)

pub Ends-through : (x y z : List ℕ) → Ends x y → length x ≤ common_tail y z → Ends x z
Ends-through x y z ends h =
    let b = Begins-from_Ends x y ends in
    Ends-from_Begins x z (begins_through (reverse x) b.0 (reverse z) (omega (arith, h, length-reverse x, ap (λ (t : List ℕ). common_front t (reverse z)) b.1)))

pub Ends-common : (x y z : List ℕ) → Ends x y → Ends x z → length x ≤ common_tail y z
Ends-common x y z e f =
    let b = Begins-from_Ends x y e in
    let c = Begins-from_Ends x z f in
    let same : common_tail y z ≡ common_front (reverse x ++ b.0) (reverse x ++ c.0) =
    ap (λ (t : List ℕ). common_front t (reverse z)) b.1 ∙ ap (common_front (reverse x ++ b.0)) c.1 in
    omega (arith, begins_common (reverse x) b.0 c.0, length-reverse x, same)

-- a string is a suffix of another if and only if all of it is common to both
pub record SuffixByOrder (x y : List ℕ) : Type 0 where
  pub whole : is_suffix x y ≡ true → common_tail x y ≡ length x
  pub suffix : length x ≤ common_tail x y → is_suffix x y ≡ true

pub suffix_by_order : (x y : List ℕ) → SuffixByOrder x y
suffix_by_order x y = record {
  whole = λ t. omega (arith, Ends-common x x y (Ends-refl x) (Ends-from_suffix x y t), suffix_at_most x y);
  suffix = λ h. suffix_from_Ends x y (Ends-through x x y (Ends-refl x) h);
}

-- no string is less than itself, or than one of its suffixes
lt_itself : (x : List ℕ) → suffix_lt x x ≡ false
lt_itself x = ap is_lt (tied_itself suffix_total x)

Ends-not_below : (x z : List ℕ) → Ends x z → suffix_lt z x ≡ false
Ends-not_below x z e = elim (cases_lt (length x) (length z)) [
  | inl l ↦ suffix_ranks.one_way x z (Ends-below x z e l)
  | inr g ↦ subst (λ (t : List ℕ). suffix_lt t x ≡ false) (sym (Ends-same_length x z e g)) (lt_itself x)
]

module _ (sorted : List (List ℕ)) (in_order : IsSorted suffix_cmp sorted) where
  abbrev at : ℕ → List ℕ
  at k = get_or sorted k []

  ends_together : (x : List ℕ) (i j k : ℕ) → i ≤ j → j ≤ k → k < length sorted → Ends x (at i) → Ends x (at k) → Ends x (at j)
  ends_together x i j k low high inside e f =
      Ends-between x (at k) (at j) f
      (suffix_ranks.chain (at j) (at i) x (sorted_far suffix_lt suffix_ranks sorted in_order i j [] low (omega (arith, high, inside))) (Ends-not_below x (at i) e))
      (sorted_far suffix_lt suffix_ranks sorted in_order j k [] high inside)

  -- from a rank whose string ends with x back to the first such rank
  ends_down : (x : List ℕ) (n l k : ℕ) → n + l ≡ k → Ends x (at k) → ((j : ℕ) → l < j → j ≤ k → length x ≤ common_tail (at (j - 1)) (at j)) → Ends x (at l)
  ends_down x zero l k e f c = subst (λ (m : ℕ). Ends x (at m)) (let same : k ≡ l = omega (arith, e) in same) f
  ends_down x (suc n) l k e f c =
      let common = c k (omega (arith, e)) (omega arith) in
      let before : Ends x (at (k - 1)) = Ends-through x (at k) (at (k - 1)) f (omega (arith, common, suffix_turned (at (k - 1)) (at k))) in
      ends_down x n l (k - 1) (omega (arith, e)) before (λ j a b. c j a (omega (arith, b)))

  pub first_ends : (x : List ℕ) (l k : ℕ) → k < length sorted → Ends x (at k) → IsFirstRank sorted (length x) l k → Ends x (at l)
  first_ends x l k inside e f = ends_down x (k - l) l k (omega (arith, f.before)) e f.common

  pub first_of : (x : List ℕ) (l k : ℕ) → k < length sorted → Ends x (at k) → IsFirstRank sorted (length x) l k → (j : ℕ) → Ends x (at j) → l ≤ j
  first_of x l k inside e f j g = elim (cases_lt j l) [
    | inr m ↦ m
    | inl m ↦
        let here = first_ends x l k inside e f in
        let before = ends_together x j (l - 1) l (omega (arith, m)) (omega arith) (omega (arith, inside, f.before)) g here in
        absurd (omega (arith, Ends-common x (at (l - 1)) (at l) before here, f.less (omega (arith, m))))
  ]

  -- the strings that are passed on the way to the next host are all suffixes of it
  passed_end : (n j l r : ℕ) → n + j ≡ r → l ≤ j → ((i : ℕ) → l ≤ i → i < r → is_suffix (at i) (at (i + 1)) ≡ true) → Ends (at j) (at r)
  passed_end zero j l r e low p = subst (λ (m : ℕ). Ends (at j) (at m)) (let same : j ≡ r = omega (arith, e) in same) (Ends-refl (at j))
  passed_end (suc n) j l r e low p =
      Ends-trans (at j) (at (j + 1)) (at r) (Ends-from_suffix _ _ (p j low (omega (arith, e)))) (passed_end n (j + 1) l r (omega (arith, e)) (omega (arith, low)) p)

  -- a string precedes the longer strings that end with it
  later : (k j : ℕ) → k < length sorted → Ends (at k) (at j) → length (at k) < length (at j) → k < j
  later k j h e l = elim (cases_lt k j) [
    | inl m ↦ m
    | inr m ↦ absurd (both_ways _ (sorted_far suffix_lt suffix_ranks sorted in_order j k [] m h) (Ends-below _ _ e l))
  ]

module _ (ks sorted : List (List ℕ)) (order : AreInSuffixOrder ks sorted) where
  rank_of : (z : List ℕ) → Has ks z → (j : ℕ) × (j < length sorted) × (get_or sorted j [] ≡ z)
  rank_of z h =
      let c = order.members.here z (Contains-from_Has ks z h) in
      (c.0, c.1, get_or_default sorted c.0 [] z c.1 ∙ c.2)

  member : (k : ℕ) → k < length sorted → Has ks (get_or sorted k [])
  member k h = Has-from_Contains ks _ (order.members.there _ (Contains-from_Has sorted _ (Has-get_or sorted k [] h)))

  -- a string that isn't a suffix of the next one is a host
  pub rank_is_host : (l r : ℕ) → IsNextHost sorted l r → Has (hosts_of ks) (get_or sorted r [])
  rank_is_host l r next = host_from ks (get_or sorted r []) (member r next.inside) (λ z i t.
      let p = Ends-from_proper (get_or sorted r []) z t in
      let j = rank_of z i in
      let ends : Ends (get_or sorted r []) (get_or sorted j.0 []) = subst (Ends (get_or sorted r [])) (sym j.2) p.0 in
      let after = later sorted order.in_order r j.0 next.inside ends (omega (arith, p.1, ap length j.2)) in
      let more : r + 1 < length sorted = omega (arith, after, j.1) in
      let between = ends_together sorted order.in_order (get_or sorted r []) r (r + 1) j.0 (omega arith) (omega (arith, after)) j.1 (Ends-refl _) ends in
      both_ways _ (next.stops more) (suffix_from_Ends _ _ between))

  pub rank_host : (x : List ℕ) (l k r : ℕ) → k < length sorted → Ends x (get_or sorted k []) → IsFirstRank sorted (length x) l k → IsNextHost sorted l r → host_in (hosts_of ks) x ≡ get_or sorted r []
  rank_host x l k r inside e first next =
      let g = get_or sorted r [] in
      let is_host = rank_is_host l r next in
      let to_g = λ (j : ℕ) (low : l ≤ j) (high : j ≤ r). passed_end sorted order.in_order (r - j) j l r (omega (arith, high)) low next.passed in
      let x_g : Ends x g = Ends-trans x (get_or sorted l []) g (first_ends sorted order.in_order x l k inside e first) (to_g l (omega arith) next.from) in
      let hs = filter (is_suffix x) (hosts_of ks) in
      let h = least_by_suffix hs in
      let least = least_is hs g (Has-filter (is_suffix x) (hosts_of ks) g is_host (suffix_from_Ends x g x_g)) in
      let parts = Has-from_filter (is_suffix x) (hosts_of ks) h least.0 in
      let at_h = rank_of h (host_member ks h parts.0) in
      let from : l ≤ at_h.0 = first_of sorted order.in_order x l k inside e first at_h.0 (subst (Ends x) (sym at_h.2) (Ends-from_suffix x h parts.1)) in
      let low : suffix_lt g h ≡ false = least.1 g (Has-filter (is_suffix x) (hosts_of ks) g is_host (suffix_from_Ends x g x_g)) in
      elim (cases_lt at_h.0 r) [
        | inr after ↦ suffix_tie h g (subst (λ (t : List ℕ). suffix_lt t g ≡ false) at_h.2 (sorted_far suffix_lt suffix_ranks sorted order.in_order r at_h.0 [] after at_h.1)) low
        | inl before ↦
            let ends : Ends h g = subst (λ (t : List ℕ). Ends t g) at_h.2 (to_g at_h.0 from (omega (arith, before))) in
            elim (cases_Bool (bytes_eq h g)) [
              | inl t ↦ same_text h g t
              | inr f ↦ absurd (host_ends_none ks h g parts.0 (member r next.inside) (proper_from_Ends h g ends (λ q. both_ways (bytes_eq h g) f (ap (bytes_eq h) (sym q) ∙ bytes_eq-same h))))
            ]
      ]

pub ranks_are_together : (sorted : List (List ℕ)) → RanksAreTogether sorted
ranks_are_together sorted up x i j k low high inside t u =
    suffix_from_Ends x _ (ends_together sorted up x i j k low high inside (Ends-from_suffix x _ t) (Ends-from_suffix x _ u))

pub first_rank_ends : (sorted : List (List ℕ)) → FirstRankEnds sorted
first_rank_ends sorted up x l k inside t f = record {
  ends = suffix_from_Ends x _ (first_ends sorted up x l k inside (Ends-from_suffix x _ t) f);
  first = λ j h u. first_of sorted up x l k inside (Ends-from_suffix x _ t) f j (Ends-from_suffix x _ u);
}

pub rank_has_host : (ks sorted : List (List ℕ)) → RankHasHost ks sorted
rank_has_host ks sorted order x l k r inside t first next = rank_host ks sorted order x l k r inside (Ends-from_suffix x _ t) first next
