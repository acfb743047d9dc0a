-- Lists without repeats: the kept names are one, and so is what a permutation makes of them.
use Rattle.std.proofs.Common.{◌≡◌, ◌≢◌, ℕ, ◌<◌, Bool, false, inl, inr, List, [], ◌∷◌, length, get_or, sym}
use Rattle.std.specs.{List.filter, List.AllByRecursion, List.IsDistinct, List.Sorted.IsPermutation, Str.bytes_eq}
use Rattle.std.proofs.lemmas.Bool.{cond_both, both_ways, not-true, false_from_ne_true}
use Rattle.std.proofs.lemmas.{Slice.Eq.bytes_eq-Decides, Map.Keys.IsDistinct-IsPermutation, Map.Keys.apart_from_distinct}
use Rattle.btf_types.specs.Names.{is_other, distinct, is_some_text, kept}
use Rattle.btf_types.proofs.{Members.Has, Members.Has-from_filter, StringLemmas.Texts.bytes_eq-same, StringLemmas.Texts.same_text, StringLemmas.Texts.same_tests}

abbrev pub NoRepeats : List (List ℕ) → Type 0
NoRepeats [] = Unit {0}
NoRepeats (x ∷ xs) = ¬ Has xs x × NoRepeats xs

pub NoRepeats-filter : (p : List ℕ → Bool) (xs : List (List ℕ)) → NoRepeats xs → NoRepeats (filter p xs)
NoRepeats-filter p [] n = tt
NoRepeats-filter p (x ∷ xs) (n, ns) =
    cond_both (p x) (x ∷ filter p xs) (filter p xs) NoRepeats (λ _. (λ h. n ((Has-from_filter p xs x h).0), NoRepeats-filter p xs ns)) (λ _. NoRepeats-filter p xs ns)

pub NoRepeats-distinct : (xs : List (List ℕ)) → NoRepeats (distinct xs)
NoRepeats-distinct [] = tt
NoRepeats-distinct (x ∷ xs) =
    (λ h. both_ways (bytes_eq x x) (not-true _ ((Has-from_filter (is_other x) (distinct xs) x h).1)) (bytes_eq-same x), NoRepeats-filter (is_other x) (distinct xs) (NoRepeats-distinct xs))

pub NoRepeats-kept : (xs : List (List ℕ)) → NoRepeats (kept xs)
NoRepeats-kept xs = NoRepeats-filter is_some_text (distinct xs) (NoRepeats-distinct xs)

-- the same in the words of std, which keep it after a permutation
differ : (x : List ℕ) (xs : List (List ℕ)) → ¬ Has xs x → AllByRecursion (λ y. bytes_eq x y ≡ false) xs
differ x [] n = tt
differ x (y ∷ ys) n = (false_from_ne_true _ (λ t. n (inl (sym (same_text x y t)))), differ x ys (λ h. n (inr h)))

are_distinct : (xs : List (List ℕ)) → NoRepeats xs → IsDistinct bytes_eq xs
unfolding IsDistinct
are_distinct [] n = tt
are_distinct (x ∷ xs) (n, ns) = (differ x xs n, are_distinct xs ns)

turned : (x y : List ℕ) → bytes_eq x y ≡ bytes_eq y x
turned x y = same_tests _ _ (λ t. (bytes_eq-Decides y x).1 (sym (same_text x y t))) (λ t. (bytes_eq-Decides x y).1 (sym (same_text y x t)))

pub apart_after : (xs ys : List (List ℕ)) → NoRepeats xs → IsPermutation xs ys → (i j : ℕ) (d : List ℕ) → i < j → j < length ys → get_or ys i d ≢ get_or ys j d
apart_after xs ys n perm i j d less inside e =
    both_ways _ (apart_from_distinct bytes_eq ys i j d (IsDistinct-IsPermutation bytes_eq turned xs ys perm (are_distinct xs n)) less inside) ((bytes_eq-Decides _ _).1 e)
