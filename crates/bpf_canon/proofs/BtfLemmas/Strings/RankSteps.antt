-- Steps of the loops over ranks.
use Rattle.std.proofs.Common.{◌≡◌, ◌≢◌, ℕ, zero, suc, ◌+◌, ◌-◌, ◌<◌, ◌≤◌, min, List, [], ◌∷◌, length, map, get_or, refl, sym, ap, ◌∙◌, subst, arith, eqb, true, set}
use Rattle.std.specs.{Prelude.reverse, List.All, List.Sorted.IsSorted}
use Rattle.std.proofs.lemmas.Bool.{cond-true, cond-false, eq-eqb, ne_eqb, false_from_ne_true}
use Rattle.std.proofs.lemmas.List.{get_or-reverse, length-reverse, get_or-map, get_or-set_same, get_or-set_other}
use Rattle.btf_types.specs.{Names.kept, strings.SharedNames.is_suffix, strings.SharedNames.suffix_cmp}
use Rattle.btf_types.proofs.Members.{Has-from_Contains, Contains-from_Has}
use Rattle.btf_types.proofs.StringLemmas.{Texts.Has-from_kept, Longest.Has-kept_some, CommonSuffixes.suffix_by_order}
use Rattle.btf_types.specs.strings.CommonSuffixes.{common_front, common_tail, at_rank, IsNextHost, IsFirstRank, AreInSuffixOrder}
use Rattle.bpf_canon.specs.{btf.strings.Ranks.common_before, btf.strings.Ranks.AreCommon, declared.btf.strings.ranked_texts.SectionText.SectionText}

front_same : (a b : ℕ) (x y : List ℕ) → a ≡ b → common_front (a ∷ x) (b ∷ y) ≡ 1 + common_front x y
front_same a b x y e = cond-true (eqb a b) (1 + common_front x y) 0 (eq-eqb a b e)

front_other : (a b : ℕ) (x y : List ℕ) → (a ≡ b → ⊥) → common_front (a ∷ x) (b ∷ y) ≡ 0
front_other a b x y n = cond-false (eqb a b) (1 + common_front x y) 0 (ne_eqb a b n)

pub front_stops : (n : ℕ) (x y : List ℕ) → n < length x → n < length y → ((j : ℕ) → j < n → get_or x j 0 ≡ get_or y j 0) → (get_or x n 0 ≡ get_or y n 0 → ⊥) → common_front x y ≡ n
front_stops n [] y h l f o = absurd (omega (arith, h))
front_stops n (a ∷ x) [] h l f o = absurd (omega (arith, l))
front_stops zero (a ∷ x) (b ∷ y) h l f o = front_other a b x y o
front_stops (suc n) (a ∷ x) (b ∷ y) h l f o =
    front_same a b x y (f 0 (omega arith)) ∙ ap (λ (m : ℕ). 1 + m) (front_stops n x y (omega (arith, h)) (omega (arith, l)) (λ j k. f (suc j) (omega (arith, k))) o) ∙ (let e : 1 + n ≡ suc n = omega arith in e)

pub front_ends : (x y : List ℕ) → ((j : ℕ) → j < min (length x) (length y) → get_or x j 0 ≡ get_or y j 0) → common_front x y ≡ min (length x) (length y)
front_ends [] y f = omega arith
front_ends (a ∷ x) [] f = omega arith
front_ends (a ∷ x) (b ∷ y) f =
    let rest = front_ends x y (λ j h. f (suc j) (omega (arith, h))) in
    omega (arith, rest, front_same a b x y (f 0 (omega arith)))

module _ (a b : List ℕ) where
  turned : (n : ℕ) → n ≤ length a → n ≤ length b → ((j : ℕ) → j < n → get_or a (length a - 1 - j) 0 ≡ get_or b (length b - 1 - j) 0) → (j : ℕ) → j < n → get_or (reverse a) j 0 ≡ get_or (reverse b) j 0
  turned n h l f j k = get_or-reverse a j 0 (omega (arith, h, k)) ∙ f j k ∙ sym (get_or-reverse b j 0 (omega (arith, l, k)))

  pub common_stops : (n : ℕ) → n < length a → n < length b → ((j : ℕ) → j < n → get_or a (length a - 1 - j) 0 ≡ get_or b (length b - 1 - j) 0) → (get_or a (length a - 1 - n) 0 ≡ get_or b (length b - 1 - n) 0 → ⊥) → n ≡ common_tail a b
  common_stops n h l f o = grind (arith, front_stops, length-reverse, get_or-reverse)

  pub common_ends : ((j : ℕ) → j < min (length a) (length b) → get_or a (length a - 1 - j) 0 ≡ get_or b (length b - 1 - j) 0) → min (length a) (length b) ≡ common_tail a b
  common_ends f =
      let same : min (length (reverse a)) (length (reverse b)) ≡ min (length a) (length b) = omega (arith, length-reverse a, length-reverse b) in
      sym (front_ends (reverse a) (reverse b) (λ j h. turned (min (length a) (length b)) (omega arith) (omega arith) f j (omega (arith, h, same))) ∙ same)

-- the loop over adjacent strings
common_next : (ms : List (List ℕ)) (k : ℕ) → common_before ms (k + 1) ≡ common_tail (at_rank ms k) (at_rank ms (k + 1))
common_next ms k = subst (λ (m : ℕ). common_before ms m ≡ common_tail (at_rank ms k) (at_rank ms m)) (let e : suc k ≡ k + 1 = omega arith in e) refl

pub common_here : (f : SectionText → List ℕ) (ts : List SectionText) (k n : ℕ) (e : SectionText) → k < length ts → 0 < k → n ≡ common_tail (f (get_or ts (k - 1) e)) (f (get_or ts k e)) → n ≡ common_before (map f ts) k
common_here f ts zero n e h some same = absurd (omega (arith, some))
common_here f ts (suc k) n e h some same =
    let back : suc k - 1 ≡ k = omega arith in
    grind (arith, get_or-map)

pub common_more : (ms : List (List ℕ)) (items : List ℕ) (k n : ℕ) → k < length items → ((j : ℕ) → j < k → get_or items j 0 ≡ common_before ms j) → n ≡ common_before ms k → (j : ℕ) → j < k + 1 → get_or (set items k n) j 0 ≡ common_before ms j
common_more ms items k n inside f here j h = grind (arith, get_or-set_same, get_or-set_other)

-- the loop over hosts
ends_from : (ms : List (List ℕ)) (k : ℕ) → common_before ms (k + 1) ≡ length (at_rank ms k) → is_suffix (at_rank ms k) (at_rank ms (k + 1)) ≡ true
ends_from ms k e = (suffix_by_order (at_rank ms k) (at_rank ms (k + 1))).suffix (omega (arith, e, common_next ms k))

pub next_own : (ms : List (List ℕ)) (k : ℕ) → k < length ms → (k + 1 < length ms → common_before ms (k + 1) ≢ length (at_rank ms k)) → IsNextHost ms k k
next_own ms k h differs = record {
  inside = h;
  from = omega arith;
  passed = λ j low high. absurd (omega (arith, low, high));
  stops = λ more. false_from_ne_true (is_suffix (at_rank ms k) (at_rank ms (k + 1))) (λ t. differs more (common_next ms k ∙ (suffix_by_order (at_rank ms k) (at_rank ms (k + 1))).whole t));
}

pub next_taken : (ms : List (List ℕ)) (k r : ℕ) → common_before ms (k + 1) ≡ length (at_rank ms k) → IsNextHost ms (k + 1) r → IsNextHost ms k r
next_taken ms k r e next = grind (arith, ends_from)

pub hosts_step : (ms : List (List ℕ)) (host_ranks : List ℕ) (k v : ℕ) → length host_ranks ≡ length ms → k < length ms → ((j : ℕ) → k + 1 ≤ j → j < length ms → IsNextHost ms j (get_or host_ranks j 0)) → IsNextHost ms k v → (j : ℕ) → k ≤ j → j < length ms → IsNextHost ms j (get_or (set host_ranks k v) j 0)
hosts_step ms host_ranks k v long h f here j low high = grind (arith, get_or-set_same, get_or-set_other)

-- from the numbers to the host
common_at : (ms : List (List ℕ)) (j : ℕ) → 0 < j → common_before ms j ≡ common_tail (at_rank ms (j - 1)) (at_rank ms j)
common_at ms j h = grind arith

pub first_rank_is : (ms : List (List ℕ)) (common : List ℕ) (n r k : ℕ) → AreCommon ms common → k < length ms → r ≤ k → ((j : ℕ) → r < j → j ≤ k → n ≤ get_or common j 0) → get_or common r 0 < n → IsFirstRank ms n r k
first_rank_is ms common n r k are inside before f less = record {
  before = before;
  common = λ j low high. omega (arith, f j low high, are.each j (omega (arith, high, inside)), common_at ms j (omega (arith, low)));
  less = λ some. omega (arith, less, are.each r (omega (arith, before, inside)), common_at ms r some);
}

-- the sorted strings of a list are in order by their reversed bytes
pub in_suffix_order : (ms : List (List ℕ)) → IsSorted suffix_cmp ms → All (λ t. 0 < length t) ms → AreInSuffixOrder (kept ms) ms
in_suffix_order ms up some = grind (arith, Contains-from_Has, Has-from_kept, Has-from_Contains, Has-kept_some)

-- what the search cites of a common suffix
pub ruleset suffix_cases = (common_stops, common_ends)
