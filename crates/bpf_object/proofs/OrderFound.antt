-- Records of which each has the number of its place, and precedes the next, are in order.
use Rattle.std.proofs.Common.{◌≡◌, ◌≢◌, ℕ, zero, suc, ◌+◌, ◌-◌, ◌<◌, ◌≤◌, List, [], ◌∷◌, length, get_or, inl, inr, refl, sym, ap, ◌∙◌, arith}
use Rattle.std.specs.Prelude.{slice_index}
use Rattle.std.specs.{Cmp.Lexicographic.slice_cmp, List.range_with_len}
use Rattle.std.specs.List.Sorted.{IsPermutation}
use Rattle.std.specs.Ordering.{nat_cmp, ordering_then}
use Rattle.std.specs.declared.cmp.Ordering.{TheVariants.Less}
use Rattle.std.proofs.lemmas.Bool.{cases_lt}
use Rattle.std.proofs.lemmas.Map.Keys.{sorted_from_all_adjacent}
use Rattle.btf_types.specs.Sections.{SectionWords}
use Rattle.bpf_object.specs.TypeOrder.{frame_of, key, compare_types, new_number}
use Rattle.btf_raw.specs.Frames.{third_word}
use Rattle.bpf_object.specs.private.TypeSteps.{numbered, AreSortedTo, AreNumbered}
use Rattle.bpf_object.proofs.Places.{ids_length, find, not_there, place_at, place_out}
use Rattle.bpf_object.proofs.OrderLayers.{compare_total, key_same}

inside_default : (xs : List ℕ) (i d : ℕ) → i < length xs → get_or xs i d ≡ get_or xs i 0
inside_default [] i d lt = absurd (omega (arith, lt))
inside_default (x ∷ xs) zero d lt = refl
inside_default (x ∷ xs) (suc i) d lt = inside_default xs i d (omega (arith, lt))

beyond : (xs : List ℕ) (i d : ℕ) → length xs ≤ i → get_or xs i d ≡ d
beyond [] i d le = refl
beyond (x ∷ xs) zero d le = absurd (omega (arith, le))
beyond (x ∷ xs) (suc i) d le = beyond xs i d (omega (arith, le))

next : (k : ℕ) → k + 1 ≡ suc k
next k = omega arith

-- the same new numbers compare the same
compare_same : (s : SectionWords) (f g : ℕ → ℕ) (a b : ℕ) → ((t : ℕ) → f t ≡ g t) → compare_types s f a b ≡ compare_types s g a b
compare_same s f g a b same =
    let first = key_same s f g a (λ _ _. same (third_word (frame_of s a))) in
    let second = key_same s f g b (λ _ _. same (third_word (frame_of s b))) in
    ap (λ (k : List ℕ). ordering_then (slice_cmp nat_cmp k (key s f b)) (nat_cmp a b)) first
    ∙ ap (λ (k : List ℕ). ordering_then (slice_cmp nat_cmp (key s g a) k) (nat_cmp a b)) second

module _ (s : SectionWords) (ids numbers : List ℕ) (sorted : AreSortedTo s ids numbers (length ids)) where
  abbrev n : ℕ
  n = length s.frames

  are : IsPermutation (range_with_len 1 n) ids
  are = sorted.grouped.all

  size : length ids ≡ n
  size = ids_length n ids are

  apart : (i j : ℕ) → i < j → j < length ids → get_or ids i 0 ≢ get_or ids j 0
  apart i j lt there e =
      let first = (sorted.each i (omega (arith, lt, there))).place in
      let second = (sorted.each j there).place in
      let both : i + 1 ≡ j + 1 = sym first ∙ ap (λ (a : ℕ). slice_index numbers a) e ∙ second in
      omega (arith, lt, both)

  placed : (k : ℕ) → k < length ids → new_number ids (get_or ids k 0) ≡ suc k
  placed k there = place_at 1 ids k 0 there (λ j lt. apart j k lt there) ∙ omega arith

  number_is : (t : ℕ) → numbered numbers t ≡ new_number ids t
  number_is t =
      let whole = sorted.whole in
      elim (cases_lt 0 t) [
        | inr none ↦
            let void : t ≡ 0 = omega (arith, none) in
            ap (numbered numbers) void ∙ sorted.void ∙ sym (place_out 1 ids 0 (not_there n ids are 0 (inl refl))) ∙ ap (new_number ids) (sym void)
        | inl some ↦ elim (cases_lt n t) [
          | inl over ↦ beyond numbers t t (omega (arith, over, whole, size)) ∙ sym (place_out 1 ids t (not_there n ids are t (inr over)))
          | inr within ↦
              let at = find n ids are t some (omega (arith, within)) in
              let lt = at.inside in
              inside_default numbers t t (omega (arith, within, whole, size))
              ∙ ap (λ (a : ℕ). slice_index numbers a) (sym at.is) ∙ (sorted.each at.index at.inside).place
              ∙ next at.index ∙ sym (placed at.index at.inside) ∙ ap (new_number ids) at.is
        ]
      ]

  rises : (k : ℕ) → k + 1 < length ids → compare_types s (numbered numbers) (get_or ids k 0) (get_or ids (k + 1) 0) ≡ Less
  rises k lt =
      let at : k + 1 - 1 ≡ k = omega arith in
      ap (λ (j : ℕ). compare_types s (numbered numbers) (get_or ids j 0) (get_or ids (k + 1) 0)) (sym at) ∙ (sorted.each (k + 1) lt).follows (omega arith)

  pub order_found : AreNumbered s ids numbers
  order_found = record {
    order = record {
      permutation = are;
      sorted = sorted_from_all_adjacent (compare_total s (new_number ids)) ids 0 (λ k lt.
          sym (compare_same s (numbered numbers) (new_number ids) (get_or ids k 0) (get_or ids (k + 1) 0) number_is) ∙ rises k lt);
    };
    each = number_is;
  }
