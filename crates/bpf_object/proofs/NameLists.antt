-- Lists of names: each offset once, and sorted.
use Rattle.std.proofs.Common.{◌≡◌, ◌≢◌, ℕ, ◌+◌, ◌<◌, ◌≤◌, Bool, false, List, [], ◌∷◌, ◌++◌, length, get_or, take, sym, ap, subst, ◌∙◌, arith}
use Rattle.std.specs.{Cmp.IsStrictWeakOrder, Cmp.Lexicographic.slice_cmp, Fn.Called, Fn.ComparesAs, List.All, List.Contains, List.dedup}
use Rattle.std.specs.List.Sorted.{IsPermutation, IsSortedBy}
use Rattle.std.specs.Ordering.{is_lt, nat_cmp, ordering_reverse}
use Rattle.std.specs.declared.cmp.Ordering.{Ordering, TheVariants.Greater}
use Rattle.std.specs.Prelude.{nat_eq, slice_index}
use Rattle.std.proofs.lemmas.Bool.{false≢true}
use Rattle.std.proofs.lemmas.Cmp.{nat_list_cmp_total}
use Rattle.std.proofs.lemmas.Fn.{always_returns_same}
use Rattle.std.proofs.lemmas.List.{get_or-map, map-append, take_more}
use Rattle.std.proofs.lemmas.List.Kept.{Contains-dedup_nat, Contains-from_dedup}
use Rattle.std.proofs.lemmas.List.Sorted.{All-permutation, Contains-permutation, IsPermutation-map, IsPermutation-sym, length_permutation, ranks_by, sorted_far}
use denote.Param.Members.{Mut}
use denote.Ref.{Bor}
use Rattle.bpf_object.specs.declared.name_ranks.NameAt.{NameAt}
use Rattle.bpf_object.specs.private.NameRanks.{HasEnd, bytes_key, name_key, text_key, starts, HasSame, AreNames, Rise}
use Rattle.bpf_object.proofs.NameEnds.{bytes_are}

-- ---- each once

pub distinct_same : (offsets sorted distinct : List ℕ) → IsPermutation offsets sorted → distinct ≡ dedup nat_eq sorted → length distinct ≤ length offsets → HasSame offsets distinct
distinct_same offsets sorted distinct moved is few = record {
  keeps = λ off there. subst (λ (xs : List ℕ). Contains xs off) (sym is) (Contains-dedup_nat sorted off (Contains-permutation offsets sorted off moved there));
  adds_none = λ off there.
      Contains-permutation sorted offsets off (IsPermutation-sym offsets sorted moved) (Contains-from_dedup nat_eq sorted off (subst (λ (xs : List ℕ). Contains xs off) is there));
  few = few;
}

pub starts_more : (names : List NameAt) (name : NameAt) (offsets : List ℕ) (k : ℕ) → starts names ≡ take k offsets → k < length offsets → name.start ≡ get_or offsets k 0
    → starts (names ++ name ∷ []) ≡ take (k + 1) offsets
starts_more names name offsets k are there is =
    map-append (λ (n : NameAt). n.start) names (name ∷ []) ∙ ap (λ (xs : List ℕ). xs ++ name.start ∷ []) are
    ∙ ap (λ (off : ℕ). take k offsets ++ off ∷ []) is ∙ sym (take_more offsets k 0 there)

-- ---- sorted

not_greater : (a b : List ℕ) → is_lt (slice_cmp nat_cmp b a) ≡ false → slice_cmp nat_cmp a b ≢ Greater
not_greater a b not_less greater = false≢true (sym not_less ∙ ap is_lt (nat_list_cmp_total.antisymm b a ∙ ap ordering_reverse greater))

abbrev pub is_less : List ℕ → NameAt → NameAt → Bool
is_less strings x y = is_lt (slice_cmp nat_cmp (bytes_key strings x) (bytes_key strings y))

module _ (strings : List ℕ) where
  -- what `sort_by` says
  pub sorted_names : {F : Type 0} {g : Mut F (Bor NameAt × (Bor NameAt × Unit {0})) Ordering} {f : F} (names : List NameAt)
      → ((lt : NameAt → NameAt → Bool) → IsStrictWeakOrder lt → ComparesAs g lt f → IsSortedBy lt names)
      → ((a : Bor NameAt × (Bor NameAt × Unit {0})) (r : Ordering) (f' : F)
      → Called g f a r f' → (r ≡ slice_cmp nat_cmp (bytes_key strings a.0.now) (bytes_key strings a.1.0.now)) × (f' ≡ f)) → IsSortedBy (is_less strings) names
  sorted_names {g = g} {f = f} names sorted calls =
      sorted (is_less strings) (ranks_by nat_list_cmp_total (bytes_key strings))
      (always_returns_same g (λ a r. is_lt r ≡ is_less strings a.0.now a.1.0.now) f (λ a r f' called. (ap is_lt (calls a r f' called).0, (calls a r f' called).1)))

  start_key : (names : List NameAt) → All (HasEnd strings) names → (k : ℕ) (d : NameAt) → k < length names
      → bytes_key strings (get_or names k d) ≡ name_key strings (slice_index (starts names) k)
  start_key names ends k d there =
      ap text_key (bytes_are strings (get_or names k d) (ends k d there))
      ∙ ap (name_key strings) (sym (get_or-map (λ (n : NameAt). n.start) names k d 0 there))

  pub names_rise : (names : List NameAt) → IsSortedBy (is_less strings) names → All (HasEnd strings) names → Rise strings names
  names_rise names sorted ends i j le there =
      let none : NameAt = record { start = 0; end = 0 } in
      let far = sorted_far (is_less strings) (ranks_by nat_list_cmp_total (bytes_key strings)) names sorted i j none le there in
      subst (λ (a : List ℕ). slice_cmp nat_cmp a (name_key strings (slice_index (starts names) j)) ≢ Greater) (start_key names ends i none (omega (arith, le, there)))
      (subst (λ (b : List ℕ). slice_cmp nat_cmp (bytes_key strings (get_or names i none)) b ≢ Greater) (start_key names ends j none there)
      (not_greater (bytes_key strings (get_or names i none)) (bytes_key strings (get_or names j none)) far))

  pub names_moved : (offsets : List ℕ) (xs ys : List NameAt) → IsPermutation xs ys → AreNames strings offsets xs → AreNames strings offsets ys
  names_moved offsets xs ys are names =
      let moved = IsPermutation-map (λ (n : NameAt). n.start) xs ys are in
      let few = names.same.few in
      record {
        ends = All-permutation (HasEnd strings) xs ys are names.ends;
        same = record {
          keeps = λ off there. Contains-permutation (starts xs) (starts ys) off moved (names.same.keeps off there);
          adds_none = λ off there. names.same.adds_none off (Contains-permutation (starts ys) (starts xs) off (IsPermutation-sym (starts xs) (starts ys) moved) there);
          few = omega (arith, length_permutation (starts xs) (starts ys) moved, few);
        };
      }
