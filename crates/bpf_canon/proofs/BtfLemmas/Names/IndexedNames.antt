-- Names with their indices, before and after they are sorted.
use Rattle.std.proofs.Common.{◌≡◌, ℕ, ◌+◌, ◌<◌, List, [], length, map, get_or, sym, ap, ◌∙◌, subst, arith, Bor}
use Rattle.std.specs.List.{Contains, Sorted.IsPermutation, Sorted.IsSorted, Sorted.IsSortedBy}
use Rattle.std.proofs.lemmas.{List.length-map, List.get_or-map, List.get_or_default, List.same_lists}
use Rattle.std.proofs.lemmas.List.Sorted.{All-permutation, Contains-permutation, IsPermutation-map}
use Rattle.btf_types.specs.strings.SharedNames.{suffix_cmp}
use Rattle.btf_types.proofs.StringLemmas.Hosts.{suffix_lt}
use Rattle.bpf_canon.specs.btf.names.Interned.{borrowed_texts, AreIndexed, name_at}
use Rattle.bpf_canon.proofs.BtfLemmas.Names.{HostSearch.text_at, HostSearch.texts_length, HostIndices.Named, HostIndices.texts}

-- the first k names with their indices
pub record IndexedTo (names : List (Bor (List ℕ))) (sorted : List Named) (k : ℕ) : Type 0 where
  pub long : length sorted ≡ k
  pub each : (j : ℕ) (d : Named) → j < k → get_or sorted j d ≡ (get_or names j d.0, j)

-- sorted by the comparison, they are sorted as strings
sorted_named : (sorted : List Named) → IsSortedBy (λ x y. suffix_lt x.0.now y.0.now) sorted → IsSorted suffix_cmp (texts sorted)
sorted_named sorted up k d low h =
    let e : Named = (record { ref_ptr = (0, 0); now = d }, 0) in
    let inside : k + 1 < length sorted = omega (arith, h, length-map sorted (λ (s : Named). s.0.now)) in
    ap (λ (t : List ℕ). suffix_lt t (get_or (texts sorted) k d)) (get_or-map (λ (s : Named). s.0.now) sorted (k + 1) e d inside)
    ∙ ap (λ (t : List ℕ). suffix_lt ((get_or sorted (k + 1) e).0.now) t) (get_or-map (λ (s : Named). s.0.now) sorted k e d (omega (arith, inside)))
    ∙ up k e low inside

module _ (names : List (Bor (List ℕ))) (before after : List Named) (to : IndexedTo names before (length names)) (perm : IsPermutation before after) where
  nobody : Named
  nobody = (record { ref_ptr = (0, 0); now = [] }, 0)

  texts_are : texts before ≡ borrowed_texts names
  texts_are = same_lists (texts before) (borrowed_texts names) (length-map before (λ (s : Named). s.0.now) ∙ to.long ∙ sym (texts_length names)) (λ k d h.
      let e : Named = (record { ref_ptr = (0, 0); now = d }, 0) in
      let inside : k < length before = omega (arith, h, length-map before (λ (s : Named). s.0.now)) in
      get_or-map (λ (s : Named). s.0.now) before k e d inside ∙ ap (λ (s : Named). s.0.now) (to.each k e (omega (arith, inside, to.long))) ∙ sym (text_at names k e.0 (omega (arith, inside, to.long))))

  pub indexed_sorted : IsSortedBy (λ x y. suffix_lt x.0.now y.0.now) after → AreIndexed (borrowed_texts names) after
  indexed_sorted up = record {
    permutation = subst (λ (l : List (List ℕ)). IsPermutation l (texts after)) texts_are (IsPermutation-map (λ (s : Named). s.0.now) before after perm);
    in_order = sorted_named after up;
    inside = All-permutation (λ s. s.1 < length (borrowed_texts names)) before after perm (λ j d h.
        let e = to.each j d (omega (arith, h, to.long)) in
        omega (arith, h, to.long, texts_length names, ap (λ (s : Named). s.1) e));
    names = All-permutation (λ s. name_at (borrowed_texts names) s.1 ≡ s.0.now) before after perm (λ j d h.
        let low : j < length names = omega (arith, h, to.long) in
        let e : get_or before j d ≡ (get_or names j d.0, j) = to.each j d low in
        let same : get_or (borrowed_texts names) j [] ≡ (get_or names j d.0).now = text_at names j (record { ref_ptr = (0, 0); now = [] }) low ∙ ap (λ (b : Bor (List ℕ)). b.now) (get_or_default names j (record { ref_ptr = (0, 0); now = [] }) d.0 low) in
        subst (λ (s : Named). name_at (borrowed_texts names) s.1 ≡ s.0.now) (sym e) same);
    each = λ i h.
        let low : i < length names = omega (arith, h, texts_length names) in
        let there : Contains (map (λ (s : Named). s.1) before) i = (i, omega (arith, low, to.long, length-map before (λ (s : Named). s.1)), get_or-map (λ (s : Named). s.1) before i nobody i (omega (arith, low, to.long)) ∙ ap (λ (s : Named). s.1) (to.each i nobody low)) in
        Contains-permutation (map (λ (s : Named). s.1) before) (map (λ (s : Named). s.1) after) i (IsPermutation-map (λ (s : Named). s.1) before after perm) there;
  }
