-- The hosts among a list of strings, and the host of each.
use Rattle.std.proofs.Common.{◌≡◌, ◌≢◌, ℕ, zero, suc, ◌+◌, ◌<◌, Bool, true, false, not, inl, inr, List, [], ◌∷◌, length, get_or, sym, ap, ◌∙◌, subst, arith}
use Rattle.std.specs.{Ordering.is_lt, Str.bytes_eq, Prelude.reverse, Cmp.IsTotalOrder, Cmp.IsStrictWeakOrder}
use Rattle.std.specs.List.{filter, list_any, best_of, sum_by}
use Rattle.std.proofs.lemmas.{Bool.both_ways, Bool.not-true, Bool.cases_Bool, Bool.cases_lt, Cmp.nat_list_cmp_total, Cmp.on_total}
use Rattle.std.proofs.lemmas.List.{get_or_default, MinMax.IsFirstBest-from_best_of, MinMax.ranks_by, Sums.get_or-le-sum_by}
use Rattle.btf_types.specs.strings.SharedNames.{is_suffix, is_proper_suffix, suffix_cmp, hosts_of, least_by_suffix, host_in}
use Rattle.btf_types.proofs.Members.{Has, Has-filter, Has-from_filter, any_from_Has, Has_from_any, Has-get_or, Contains-from_Has}
use Rattle.btf_types.proofs.StringLemmas.Texts.{bytes_eq-same, same_text}
use Rattle.btf_types.proofs.StringLemmas.Suffixes.{Ends, Ends-refl, Ends-trans, Ends-shorter, Ends-same_length, Ends-from_suffix, suffix_from_Ends, Ends-from_proper, proper_from_Ends}

pub suffix_total : IsTotalOrder suffix_cmp
suffix_total = on_total reverse nat_list_cmp_total

abbrev pub suffix_lt : List ℕ → List ℕ → Bool
suffix_lt x y = is_lt (suffix_cmp x y)

pub suffix_ranks : IsStrictWeakOrder suffix_lt
suffix_ranks = ranks_by suffix_total (λ x. x)

-- a host is a string that no other string ends with
pub host_ends_none : (ks : List (List ℕ)) (h z : List ℕ) → Has (hosts_of ks) h → Has ks z → is_proper_suffix h z ≡ true → ⊥
host_ends_none ks h z i k t =
    let passes = (Has-from_filter (λ x. not (list_any (is_proper_suffix x) ks)) ks h i).1 in
    both_ways (list_any (is_proper_suffix h) ks) (not-true _ passes) (any_from_Has (is_proper_suffix h) ks z k t)

pub host_member : (ks : List (List ℕ)) (h : List ℕ) → Has (hosts_of ks) h → Has ks h
host_member ks h i = (Has-from_filter (λ x. not (list_any (is_proper_suffix x) ks)) ks h i).0

-- a string ends with at most one host
pub hosts_apart : (ks : List (List ℕ)) (h g s : List ℕ) → Has (hosts_of ks) h → Has (hosts_of ks) g → Ends h s → Ends g s → h ≡ g
hosts_apart ks h g s i j e f = elim (cases_lt (length h) (length g)) [
  | inl l ↦ absurd (host_ends_none ks h g i (host_member ks g j) (proper_from_Ends h g (Ends-shorter h g s e f (omega (arith, l))) (λ q. omega (arith, l, ap length q))))
  | inr l ↦ elim (cases_lt (length g) (length h)) [
    | inl m ↦ absurd (host_ends_none ks g h j (host_member ks h i) (proper_from_Ends g h (Ends-shorter g h s f e l) (λ q. omega (arith, m, ap length q))))
    | inr m ↦ Ends-same_length g h (Ends-shorter g h s f e l) m
  ]
]

-- each string is a suffix of some host: the longest string that ends with it
some_host : (ks : List (List ℕ)) (n : ℕ) (x : List ℕ) → Has ks x → sum_by length ks < length x + n → (h : List ℕ) × Has (hosts_of ks) h × Ends x h
some_host ks zero x i b =
    let c = Contains-from_Has ks x i in
    absurd (omega (arith, b, get_or-le-sum_by length ks c.0 x c.1, ap length c.2))
some_host ks (suc n) x i b = elim (cases_Bool (list_any (is_proper_suffix x) ks)) [
  | inr f ↦ (x, Has-filter (λ y. not (list_any (is_proper_suffix y) ks)) ks x i (ap not f), Ends-refl x)
  | inl t ↦
      let z = Has_from_any (is_proper_suffix x) ks t in
      let e = Ends-from_proper x z.0 z.2 in
      let h = some_host ks n z.0 z.1 (omega (arith, b, e.1)) in
      (h.0, h.1, Ends-trans x z.0 h.0 e.0 h.2)
]

-- the least of several strings is one of them, and none is less than it
pub least_is : (hs : List (List ℕ)) (g : List ℕ) → Has hs g → Has hs (least_by_suffix hs) × ((z : List ℕ) → Has hs z → suffix_lt z (least_by_suffix hs) ≡ false)
least_is [] g i = absurd i
least_is (y ∷ ys) g i =
    let first = IsFirstBest-from_best_of suffix_ranks y ys in
    let best = first.1 in (
      subst (λ t. Has (y ∷ ys) t) first.2 (Has-get_or (y ∷ ys) first.0 y best.0),
      λ z j.
          let c = Contains-from_Has (y ∷ ys) z j in
          let at : get_or (y ∷ ys) c.0 y ≡ z = get_or_default (y ∷ ys) c.0 y z c.1 ∙ c.2 in
          ap (λ (a : List ℕ). suffix_lt a (best_of suffix_lt y ys)) (sym at) ∙ ap (λ (b : List ℕ). suffix_lt (get_or (y ∷ ys) c.0 y) b) (sym first.2) ∙ best.1 c.0 y c.1,
    )

-- the host of a string: a host that ends with it, such that no lesser host does
pub record IsHostOf (ks : List (List ℕ)) (x h : List ℕ) : Type 0 where
  pub host : Has (hosts_of ks) h
  pub ends : Ends x h
  pub least : (g : List ℕ) → Has (hosts_of ks) g → Ends x g → suffix_lt g h ≡ false

pub host_is : (ks : List (List ℕ)) (x : List ℕ) → Has ks x → IsHostOf ks x (host_in (hosts_of ks) x)
host_is ks x i =
    let some = some_host ks (sum_by length ks + 1) x i (omega arith) in
    let hs = filter (is_suffix x) (hosts_of ks) in
    let least = least_is hs some.0 (Has-filter (is_suffix x) (hosts_of ks) some.0 some.1 (suffix_from_Ends x some.0 some.2)) in
    let parts = Has-from_filter (is_suffix x) (hosts_of ks) (least_by_suffix hs) least.0 in
    record {
      host = parts.0;
      ends = Ends-from_suffix x _ parts.1;
      least = λ g j e. least.1 g (Has-filter (is_suffix x) (hosts_of ks) g j (suffix_from_Ends x g e));
    }

-- a string that no other string ends with is its own host
pub own_host_of : (ks : List (List ℕ)) (x : List ℕ) → Has ks x → list_any (is_proper_suffix x) ks ≡ false → host_in (hosts_of ks) x ≡ x
own_host_of ks x i none =
    let its = host_is ks x i in
    let h = host_in (hosts_of ks) x in
    elim (cases_Bool (bytes_eq x h)) [
      | inl t ↦ sym (same_text x h t)
      | inr f ↦ absurd (both_ways (list_any (is_proper_suffix x) ks) none (any_from_Has (is_proper_suffix x) ks h (host_member ks h its.host) (proper_from_Ends x h its.ends (λ e. both_ways (bytes_eq x h) f (ap (bytes_eq x) (sym e) ∙ bytes_eq-same x)))))
    ]

-- and only such a string is its own host
pub host_differs : (ks : List (List ℕ)) (x : List ℕ) → Has ks x → list_any (is_proper_suffix x) ks ≡ true → host_in (hosts_of ks) x ≢ x
host_differs ks x i t e =
    let passes = (Has-from_filter (λ y. not (list_any (is_proper_suffix y) ks)) ks _ (host_is ks x i).host).1 in
    both_ways (list_any (is_proper_suffix x) ks) (ap (λ (y : List ℕ). list_any (is_proper_suffix y) ks) (sym e) ∙ not-true _ passes) t
