-- The order of strings by their reversed bytes: what is between a string and one that ends with it ends with it too.
use Rattle.std.proofs.Common.{◌≡◌, ℕ, ◌<◌, true, false, inl, inr, List, [], ◌∷◌, ◌++◌, length, refl, sym, ap, ◌∙◌, arith}
use Rattle.std.specs.{Prelude.reverse, Prelude.nat_lt, Cmp.Lexicographic.slice_cmp}
use Rattle.std.specs.Ordering.{is_lt, nat_cmp, ordering_then, ordering_reverse}
use Rattle.std.specs.declared.cmp.Ordering.{Ordering, TheVariants.Less, TheVariants.Equal, TheVariants.Greater}
use Rattle.std.proofs.lemmas.Bool.{cases_order, lt-ltb, cond-true, false≢true}
use Rattle.std.proofs.lemmas.{Cmp.nat_cmp_total, Cmp.tied_itself, Map.Lookups.exact_bytes}
use Rattle.std.proofs.lemmas.List.{reverse-append, reverse-reverse, length-reverse}
use Rattle.btf_types.specs.strings.SharedNames.{suffix_cmp}
use Rattle.btf_types.proofs.StringLemmas.{Suffixes.Ends, Hosts.suffix_lt, Hosts.suffix_total}

less : (a b : ℕ) → a < b → nat_cmp a b ≡ Less
less a b h = cond-true (nat_lt a b) Less _ (lt-ltb a b h)

-- a list between p and a list that p begins begins with p
between : (p m w : List ℕ) → is_lt (slice_cmp nat_cmp w p) ≡ false → is_lt (slice_cmp nat_cmp (p ++ m) w) ≡ false → (n : List ℕ) × (w ≡ p ++ n)
between [] m w low high = (w, refl)
between (a ∷ p) m [] low high = absurd (false≢true (sym low))
between (a ∷ p) m (b ∷ w) low high = elim (cases_order a b) [
  | inl e ↦
      let tie : nat_cmp a b ≡ Equal = ap (nat_cmp a) (sym e) ∙ tied_itself nat_cmp_total a in
      let back : nat_cmp b a ≡ Equal = ap (λ (x : ℕ). nat_cmp x a) (sym e) ∙ tied_itself nat_cmp_total a in
      let i = between p m w (ap (λ (o : Ordering). is_lt (ordering_then o (slice_cmp nat_cmp w p))) (sym back) ∙ low) (ap (λ (o : Ordering). is_lt (ordering_then o (slice_cmp nat_cmp (p ++ m) w))) (sym tie) ∙ high) in
      (i.0, cc)
  | inr l ↦ elim l [
    | inl up ↦ absurd (false≢true (sym high ∙ ap (λ (o : Ordering). is_lt (ordering_then o (slice_cmp nat_cmp (p ++ m) w))) (less a b up)))
    | inr down ↦ absurd (false≢true (sym low ∙ ap (λ (o : Ordering). is_lt (ordering_then o (slice_cmp nat_cmp w p))) (less b a down)))
  ]
]

begins_below : (p m : List ℕ) → 0 < length m → is_lt (slice_cmp nat_cmp p (p ++ m)) ≡ true
begins_below [] [] h = absurd (omega (arith, h))
begins_below [] (c ∷ m) h = refl
begins_below (a ∷ p) m h = rw (tied_itself nat_cmp_total a) (begins_below p m h)

tie : (o q : Ordering) → o ≡ ordering_reverse q → is_lt o ≡ false → is_lt q ≡ false → o ≡ Equal
tie Less q e h k = absurd (false≢true (sym h))
tie Equal q e h k = refl
tie Greater Less e h k = absurd (false≢true (sym k))
tie Greater Equal e h k = absurd cc
tie Greater Greater e h k = absurd cc

pub Ends-between : (x z w : List ℕ) → Ends x z → suffix_lt w x ≡ false → suffix_lt z w ≡ false → Ends x w
Ends-between x z w (front, e) low high =
    let turned : reverse z ≡ reverse x ++ reverse front = ap reverse e ∙ reverse-append front x in
    let i = between (reverse x) (reverse front) (reverse w) low (ap (λ (t : List ℕ). is_lt (slice_cmp nat_cmp t (reverse w))) (sym turned) ∙ high) in
    (reverse i.0, sym (reverse-reverse w) ∙ ap reverse i.1 ∙ reverse-append (reverse x) i.0 ∙ ap (λ (t : List ℕ). reverse i.0 ++ t) (reverse-reverse x))

-- a string precedes the longer ones that end with it
pub Ends-below : (x z : List ℕ) → Ends x z → length x < length z → suffix_lt x z ≡ true
Ends-below x z ([], e) h = absurd (omega (arith, h, ap length e))
Ends-below x z (b ∷ front, e) h =
    let turned : reverse z ≡ reverse x ++ reverse (b ∷ front) = ap reverse e ∙ reverse-append (b ∷ front) x in
    ap (λ (t : List ℕ). is_lt (slice_cmp nat_cmp (reverse x) t)) turned ∙ begins_below (reverse x) (reverse (b ∷ front)) (omega (arith, length-reverse (b ∷ front)))

-- strings that compare as equal are equal
pub suffix_tie : (x y : List ℕ) → suffix_lt x y ≡ false → suffix_lt y x ≡ false → x ≡ y
suffix_tie x y h k = sym (reverse-reverse x) ∙ ap reverse (exact_bytes (reverse x) (reverse y) (tie (suffix_cmp x y) (suffix_cmp y x) (suffix_total.antisymm x y) h k)) ∙ reverse-reverse y
