-- Strings sorted by reversed bytes: whether a string is a suffix of another depends only on the next one.
use Rattle.std.proofs.Common.{◌≡◌, ◌≢◌, ℕ, ◌+◌, ◌<◌, true, false, inl, inr, List, length, get_or, sym, ap, ◌∙◌, subst, arith}
use Rattle.std.specs.List.{list_any, Sorted.IsPermutation, Sorted.IsSorted}
use Rattle.std.proofs.lemmas.Bool.{both_ways, cases_lt, false_from_ne_true}
use Rattle.std.proofs.lemmas.List.{get_or_default, Sorted.sorted_far, Sorted.Contains-permutation, Sorted.IsPermutation-sym}
use Rattle.btf_types.specs.strings.SharedNames.{is_proper_suffix, suffix_cmp, hosts_of, host_in}
use Rattle.btf_types.proofs.Members.{Has, Has-get_or, Has-from_Contains, Contains-from_Has, Has_from_any}
use Rattle.btf_types.proofs.StringLemmas.Suffixes.{Ends, Ends-trans, Ends-from_proper, proper_from_Ends}
use Rattle.btf_types.proofs.StringLemmas.Hosts.{suffix_lt, suffix_ranks, host_is, host_ends_none, host_member, own_host_of}
use Rattle.btf_types.proofs.StringLemmas.{SuffixOrder.Ends-between, SuffixOrder.Ends-below, SuffixOrder.suffix_tie, Distinct.NoRepeats, Distinct.apart_after}

module _ (ks sorted : List (List ℕ)) (distinct : NoRepeats ks) (perm : IsPermutation ks sorted) (in_order : IsSorted suffix_cmp sorted) where
  -- the rank of a kept name among the sorted ones
  sorted_rank : (z d : List ℕ) → Has ks z → (j : ℕ) × (j < length sorted) × (get_or sorted j d ≡ z)
  sorted_rank z d h =
      let c = Contains-permutation ks sorted z perm (Contains-from_Has ks z h) in
      (c.0, c.1, get_or_default sorted c.0 d z c.1 ∙ c.2)

  member : (k : ℕ) (d : List ℕ) → k < length sorted → Has ks (get_or sorted k d)
  member k d h = Has-from_Contains ks _ (Contains-permutation sorted ks _ (IsPermutation-sym ks sorted perm) (Contains-from_Has sorted _ (Has-get_or sorted k d h)))

  -- a string precedes the strings of which it is a proper suffix
  later : (k j : ℕ) (d : List ℕ) → k < length sorted → Ends (get_or sorted k d) (get_or sorted j d) → length (get_or sorted k d) < length (get_or sorted j d) → k < j
  later k j d h e l = elim (cases_lt k j) [
    | inl m ↦ m
    | inr m ↦ absurd (both_ways _ (sorted_far suffix_lt suffix_ranks sorted in_order j k d m h) (Ends-below _ _ e l))
  ]

  -- a string that is a proper suffix of any other is a proper suffix of the next one
  pub next_ends : (k : ℕ) (d z : List ℕ) → k < length sorted → Has ks z → is_proper_suffix (get_or sorted k d) z ≡ true → (k + 1 < length sorted) × (is_proper_suffix (get_or sorted k d) (get_or sorted (k + 1) d) ≡ true)
  next_ends k d z inside has proper =
      let at = sorted_rank z d has in
      let x = get_or sorted k d in
      let e = Ends-from_proper x z proper in
      let at_z : Ends x (get_or sorted at.0 d) = subst (Ends x) (sym at.2) e.0 in
      let l = later k at.0 d inside at_z (omega (arith, e.1, ap length at.2)) in
      let next : k + 1 < length sorted = omega (arith, l, at.1) in
      let ends = Ends-between x (get_or sorted at.0 d) (get_or sorted (k + 1) d) at_z (in_order k d (omega arith) next) (sorted_far suffix_lt suffix_ranks sorted in_order (k + 1) at.0 d (omega (arith, l)) at.1) in
      (next, proper_from_Ends x _ ends (apart_after ks sorted distinct perm k (k + 1) d (omega arith) next))

  -- and both have the same host
  pub next_host : (k : ℕ) (d : List ℕ) → k + 1 < length sorted → is_proper_suffix (get_or sorted k d) (get_or sorted (k + 1) d) ≡ true → host_in (hosts_of ks) (get_or sorted k d) ≡ host_in (hosts_of ks) (get_or sorted (k + 1) d)
  next_host k d next proper =
      let x = get_or sorted k d in
      let w = get_or sorted (k + 1) d in
      let has_w = member (k + 1) d next in
      let mine = host_is ks x (member k d (omega (arith, next))) in
      let its = host_is ks w has_w in
      let h = host_in (hosts_of ks) x in
      let g = host_in (hosts_of ks) w in
      let xw = Ends-from_proper x w proper in
      let at = sorted_rank h d (host_member ks h mine.host) in
      let other : x ≢ h = λ q. host_ends_none ks h w mine.host has_w (subst (λ (t : List ℕ). is_proper_suffix t w ≡ true) q proper) in
      let at_h : Ends x (get_or sorted at.0 d) = subst (Ends x) (sym at.2) mine.ends in
      let longer : length x < length h = (Ends-from_proper x h (proper_from_Ends x h mine.ends other)).1 in
      let l : k < at.0 = later k at.0 d (omega (arith, next)) at_h (omega (arith, longer, ap length at.2)) in
      let w_low : suffix_lt h w ≡ false = subst (λ (t : List ℕ). suffix_lt t w ≡ false) at.2 (sorted_far suffix_lt suffix_ranks sorted in_order (k + 1) at.0 d (omega (arith, l)) at.1) in
      let g_high : suffix_lt g h ≡ false = mine.least g its.host (Ends-trans x w g xw.0 its.ends) in
      let w_ends : Ends w h = Ends-between w g h its.ends w_low g_high in
      suffix_tie h g (its.least h mine.host w_ends) g_high

  -- a string that isn't a proper suffix of the next one is its own host
  pub own_host : (k : ℕ) (d : List ℕ) → k < length sorted → (k + 1 < length sorted → is_proper_suffix (get_or sorted k d) (get_or sorted (k + 1) d) ≡ false) → host_in (hosts_of ks) (get_or sorted k d) ≡ get_or sorted k d
  own_host k d inside differs =
      let x = get_or sorted k d in
      let none : list_any (is_proper_suffix x) ks ≡ false =
      false_from_ne_true (list_any (is_proper_suffix x) ks) (λ t.
      let z = Has_from_any (is_proper_suffix x) ks t in
      let e = next_ends k d z.0 inside z.1 z.2 in
      both_ways (is_proper_suffix x (get_or sorted (k + 1) d)) (differs e.0) e.1) in
      own_host_of ks x (member k d inside) none
