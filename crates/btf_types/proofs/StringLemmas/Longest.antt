-- The hosts of strings are those of the longest of them: each string is a suffix of one of these.
use Rattle.std.proofs.Common.{◌≡◌, ℕ, ◌<◌, Bool, true, not, inl, inr, List, [], ◌∷◌, length, refl, sym, ap, ◌∙◌, subst, arith}
use Rattle.std.specs.{List.filter, List.list_any, Str.bytes_eq}
use Rattle.std.proofs.lemmas.Bool.{both_ways, cases_Bool, false_from_ne_true}
use Rattle.btf_types.specs.Names.{kept, is_some_text, distinct}
use Rattle.btf_types.specs.strings.SharedNames.{is_suffix, is_proper_suffix, hosts_of, hosts, host_in, least_by_suffix}
use Rattle.btf_types.specs.strings.LongestTexts.{AreLongest, LongestHaveHosts, HostsByFirstUse, LongestHaveHost}
use Rattle.btf_types.proofs.Members.{Has, Has-filter, Has-from_filter, any_from_Has, Has_from_any, Has-from_Contains, Contains-from_Has}
use Rattle.btf_types.proofs.StringLemmas.Texts.{same_tests, same_text, bytes_eq-same, Has-kept, Has-from_kept}
use Rattle.btf_types.proofs.StringLemmas.Suffixes.{Ends, Ends-length, Ends-from_suffix, Ends-trans, Ends-from_proper, proper_from_Ends}
use Rattle.btf_types.proofs.StringLemmas.{Hosts.least_is, Hosts.host_ends_none, Hosts.host_member, SuffixOrder.suffix_tie}

pub Has-kept_some : (xs : List (List ℕ)) (x : List ℕ) → Has xs x → 0 < length x → Has (kept xs) x
Has-kept_some xs [] h some = absurd (omega (arith, some))
Has-kept_some xs (b ∷ x) h some = Has-kept xs b x h

pub kept_some : (xs : List (List ℕ)) (x : List ℕ) → Has (kept xs) x → 0 < length x
kept_some xs [] h = absurd (let e = (Has-from_filter is_some_text (distinct xs) [] h).1 in cc)
kept_some xs (b ∷ x) h = omega arith

-- a member that no member properly ends with is a host
pub host_from : (ks : List (List ℕ)) (h : List ℕ) → Has ks h → ((z : List ℕ) → Has ks z → is_proper_suffix h z ≡ true → ⊥) → Has (hosts_of ks) h
host_from ks h i none = Has-filter (λ y. not (list_any (is_proper_suffix y) ks)) ks h i (ap not (false_from_ne_true (list_any (is_proper_suffix h) ks) (λ t.
    let z = Has_from_any (is_proper_suffix h) ks t in
    none z.0 z.1 z.2)))

-- the least by tails is a matter of the members
least_same : (hs gs : List (List ℕ)) → ((z : List ℕ) → Has hs z → Has gs z) → ((z : List ℕ) → Has gs z → Has hs z) → least_by_suffix hs ≡ least_by_suffix gs
least_same [] [] f g = refl
least_same [] (y ∷ ys) f g = absurd (g y (inl refl))
least_same (x ∷ xs) [] f g = absurd (f x (inl refl))
least_same (x ∷ xs) (y ∷ ys) f g =
    let a = least_is (x ∷ xs) x (inl refl) in
    let b = least_is (y ∷ ys) y (inl refl) in
    suffix_tie (least_by_suffix (x ∷ xs)) (least_by_suffix (y ∷ ys)) (b.1 _ (f _ a.0)) (a.1 _ (g _ b.0))

pub host_in_same : (hs gs : List (List ℕ)) (x : List ℕ) → ((z : List ℕ) → Has hs z → Has gs z) → ((z : List ℕ) → Has gs z → Has hs z) → host_in hs x ≡ host_in gs x
host_in_same hs gs x f g = least_same (filter (is_suffix x) hs) (filter (is_suffix x) gs)
    (λ z i. let p = Has-from_filter (is_suffix x) hs z i in Has-filter (is_suffix x) gs z (f z p.0) p.1)
    (λ z i. let p = Has-from_filter (is_suffix x) gs z i in Has-filter (is_suffix x) hs z (g z p.0) p.1)

-- the filter of a list by tests that agree on its members
filter_same : (p q : List ℕ → Bool) (xs : List (List ℕ)) → ((x : List ℕ) → Has xs x → p x ≡ q x) → filter p xs ≡ filter q xs
filter_same p q [] e = refl
filter_same p q (x ∷ xs) e = rw (e x (inl refl), filter_same p q xs (λ y i. e y (inr i))) refl

module _ (xs longest : List (List ℕ)) (are : AreLongest xs longest) where
  among : (z : List ℕ) → Has longest z → Has xs z
  among z i = Has-from_Contains xs z (are.among z (Contains-from_Has longest z i))

  each : (x : List ℕ) → Has xs x → 0 < length x → (l : List ℕ) × Has longest l × Ends x l
  each x i some =
      let a = are.each x (Contains-from_Has xs x i) some in
      (a.1, Has-from_Contains longest a.1 (a.0, a.2, a.3), Ends-from_suffix x a.1 a.4)

  kept_among : (z : List ℕ) → Has (kept longest) z → Has (kept xs) z
  kept_among z i = Has-kept_some xs z (among z (Has-from_kept longest z i)) (kept_some longest z i)

  kept_each : (x : List ℕ) → Has (kept xs) x → (l : List ℕ) × Has (kept longest) l × Ends x l
  kept_each x i =
      let e = each x (Has-from_kept xs x i) (kept_some xs x i) in
      (e.0, Has-kept_some longest e.0 e.1 (omega (arith, kept_some xs x i, Ends-length x e.0 e.2)), e.2)

  pub host_there : (h : List ℕ) → Has (hosts xs) h → Has (hosts longest) h
  host_there h i =
      let e = kept_each h (host_member (kept xs) h i) in
      let same : h ≡ e.0 = elim (cases_Bool (bytes_eq h e.0)) [
        | inl t ↦ same_text h e.0 t
        | inr f ↦ absurd (host_ends_none (kept xs) h e.0 i (kept_among e.0 e.1) (proper_from_Ends h e.0 e.2 (λ q. both_ways (bytes_eq h e.0) f (ap (bytes_eq h) (sym q) ∙ bytes_eq-same h))))
      ] in
      host_from (kept longest) h (subst (Has (kept longest)) (sym same) e.1) (λ z k t. host_ends_none (kept xs) h z i (kept_among z k) t)

  pub host_here : (h : List ℕ) → Has (hosts longest) h → Has (hosts xs) h
  host_here h i = host_from (kept xs) h (kept_among h (host_member (kept longest) h i)) (λ z k t.
      let e = kept_each z k in
      let p = Ends-from_proper h z t in
      host_ends_none (kept longest) h e.0 i e.1 (proper_from_Ends h e.0 (Ends-trans h z e.0 p.0 e.2) (λ q. omega (arith, p.1, Ends-length z e.0 e.2, ap length q))))

  pub hosts_by_use : hosts xs ≡ filter (λ x. list_any (bytes_eq x) (hosts longest)) (kept xs)
  hosts_by_use = filter_same (λ x. not (list_any (is_proper_suffix x) (kept xs))) (λ x. list_any (bytes_eq x) (hosts longest)) (kept xs) (λ x i. same_tests _ _
      (λ t. any_from_Has (bytes_eq x) (hosts longest) x (host_there x (Has-filter (λ y. not (list_any (is_proper_suffix y) (kept xs))) (kept xs) x i t)) (bytes_eq-same x))
      (λ t.
      let h = Has_from_any (bytes_eq x) (hosts longest) t in
      (Has-from_filter (λ y. not (list_any (is_proper_suffix y) (kept xs))) (kept xs) x (host_here x (subst (Has (hosts longest)) (sym (same_text x h.0 h.2)) h.1))).1))

pub longest_have_hosts : (xs longest : List (List ℕ)) → LongestHaveHosts xs longest
longest_have_hosts xs longest are = record {
  here = λ z c. Contains-from_Has (hosts longest) z (host_there xs longest are z (Has-from_Contains (hosts xs) z c));
  there = λ z c. Contains-from_Has (hosts xs) z (host_here xs longest are z (Has-from_Contains (hosts longest) z c));
}

pub hosts_by_first_use : (xs longest : List (List ℕ)) → HostsByFirstUse xs longest
hosts_by_first_use xs longest are = hosts_by_use xs longest are

pub longest_have_host : (xs longest : List (List ℕ)) → LongestHaveHost xs longest
longest_have_host xs longest are x = host_in_same (hosts xs) (hosts longest) x (host_there xs longest are) (host_here xs longest are)

pub ruleset hosts_of_longest = (longest_have_hosts, hosts_by_first_use, longest_have_host)
