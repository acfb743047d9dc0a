-- Keys of strings compare as their suffixes.
use Rattle.std.proofs.Common.{◌≡◌, ◌≢◌, ℕ, zero, suc, ◌+◌, ◌*◌, ◌^◌, ◌<◌, ◌≤◌, ◌⊎◌, inl, inr, List, [], ◌∷◌, ◌++◌, length, get_or, take, drop, refl, sym, ap, ◌∙◌, subst, arith, take-append-drop, replicate}
use Rattle.std.proofs.lemmas.Grind.{common_steps}
use Rattle.std.specs.Prelude.{reverse, nat_lt, ◌==◌}
use Rattle.std.specs.{Int.w64, Int.from_le_bytes, Cmp.Lexicographic.slice_cmp, Ordering.nat_cmp, Ordering.ordering_then, Ordering.ordering_reverse}
use Rattle.std.specs.declared.cmp.Ordering.{Ordering, TheVariants.Less, TheVariants.Equal, TheVariants.Greater}
use Rattle.std.proofs.lemmas.Bool.{cases_order, cond-true, cond-false, lt-ltb, ne_eqb, le-ltb}
use Rattle.std.proofs.lemmas.{Cmp.nat_cmp_total, Cmp.nat_list_cmp_total, Cmp.tied_itself, Nat.row_fits, Nat.mul-add-lt}
use Rattle.std.proofs.lemmas.List.{reverse-append, length-reverse, length-append, length-drop, length-replicate, take-replicate, drop_all, append-nil}
use borrow.Rule.Slice.PartMut.{put_mid}
use Rattle.std.proofs.Math.Nat.{one-le-pow, pow-suc}
use Rattle.btf_types.specs.strings.SharedNames.{suffix_cmp}
use Rattle.bpf_canon.specs.btf.strings.SuffixKeys.{front_key, suffix_key}

-- each is below 256
abbrev pub Bytes : List ℕ → Type 0
Bytes [] = Unit {0}
Bytes (b ∷ y) = (b < 256) × Bytes y

pub bytes_from : (x : List ℕ) → ((i : ℕ) → get_or x i 0 < 256) → Bytes x
bytes_from [] f = tt
bytes_from (b ∷ x) f = (f zero, bytes_from x (λ i. f (suc i)))

bytes_both : (x y : List ℕ) → Bytes x → Bytes y → Bytes (x ++ y)
bytes_both [] y p q = q
bytes_both (b ∷ x) y (h, p) q = (h, bytes_both x y p q)

bytes_turned : (x : List ℕ) → Bytes x → Bytes (reverse x)
bytes_turned [] p = tt
bytes_turned (b ∷ x) (h, p) = subst Bytes (sym (reverse-append (b ∷ []) x)) (bytes_both (reverse x) (b ∷ []) (bytes_turned x p) (h, tt))

pub less : (a b : ℕ) → a < b → nat_cmp a b ≡ Less
less a b h = cond-true (nat_lt a b) Less _ (lt-ltb a b h)

pub greater : (a b : ℕ) → b < a → nat_cmp a b ≡ Greater
greater a b h = cond-false (nat_lt a b) Less _ (le-ltb a b (omega arith)) ∙ cond-false (a == b) Equal Greater (ne_eqb a b (λ e. omega (arith, e, h)))

tied : (a b : ℕ) → a ≡ b → nat_cmp a b ≡ Equal
tied a b e = ap (nat_cmp a) (sym e) ∙ tied_itself nat_cmp_total a

nat_cmp-suc : (a b : ℕ) → nat_cmp (suc a) (suc b) ≡ nat_cmp a b
nat_cmp-suc a b = grind arith

digit_below : (a b w k m : ℕ) → a < b → k < w → a * w + k < b * w + m
digit_below a b w k m h l = omega (arith, l, row_fits a w b w h (omega arith))

key_below : (n : ℕ) (x : List ℕ) → Bytes x → front_key n x < 256 ^ n
key_below zero x p = omega arith
key_below (suc n) [] p = one-le-pow (suc n) 256 (omega arith)
key_below (suc n) (b ∷ x) (h, p) = omega (arith, mul-add-lt b (256 ^ n) (front_key n x) 256 h (key_below n x p), pow-suc 256 n)

-- a smaller key is that of the string that sorts first
key_less : (n : ℕ) (x y : List ℕ) → Bytes x → Bytes y → front_key n x < front_key n y → slice_cmp nat_cmp x y ≡ Less
key_less zero x y p q h = absurd (omega (arith, h))
key_less (suc n) [] [] p q h = absurd (omega (arith, h))
key_less (suc n) [] (b ∷ y) p q h = refl
key_less (suc n) (a ∷ x) [] p q h = absurd (omega (arith, h))
key_less (suc n) (a ∷ x) (b ∷ y) (l, p) (m, q) h = elim (cases_order a b) [
  | inl e ↦
      let rest : front_key n x < front_key n y = omega (arith, h, ap (λ (c : ℕ). c * 256 ^ n) e) in
      ap (λ (o : Ordering). ordering_then o (slice_cmp nat_cmp x y)) (tied a b e) ∙ key_less n x y p q rest
  | inr s ↦ elim s [
    | inl up ↦ ap (λ (o : Ordering). ordering_then o (slice_cmp nat_cmp x y)) (less a b up)
    | inr down ↦ absurd (omega (arith, h, digit_below b a (256 ^ n) (front_key n y) (front_key n x) down (key_below n y q)))
  ]
]

-- bytes and keys that agree agree in their parts
parts_same : (n a b : ℕ) (x y : List ℕ) → Bytes x → Bytes y → a * 256 ^ n + front_key n x ≡ b * 256 ^ n + front_key n y → (a ≡ b) × (front_key n x ≡ front_key n y)
parts_same n a b x y p q h = elim (cases_order a b) [
  | inl e ↦ (e, omega (arith, h, ap (λ (c : ℕ). c * 256 ^ n) e))
  | inr s ↦ elim s [
    | inl up ↦ absurd (omega (arith, h, digit_below a b (256 ^ n) (front_key n x) (front_key n y) up (key_below n x p)))
    | inr down ↦ absurd (omega (arith, h, digit_below b a (256 ^ n) (front_key n y) (front_key n x) down (key_below n y q)))
  ]
]

-- equal keys from the same number of bytes: the rest decides
key_same : (n : ℕ) (s x t y : List ℕ) → length s ≡ n → length t ≡ n → Bytes (s ++ x) → Bytes (t ++ y) → front_key n (s ++ x) ≡ front_key n (t ++ y) → slice_cmp nat_cmp (s ++ x) (t ++ y) ≡ slice_cmp nat_cmp x y
key_same n [] x [] y l m p q h = refl
key_same n [] x (b ∷ t) y l m p q h = absurd (omega (arith, l, m))
key_same n (a ∷ s) x [] y l m p q h = absurd (omega (arith, l, m))
key_same zero (a ∷ s) x (b ∷ t) y l m p q h = absurd (omega (arith, l))
key_same (suc n) (a ∷ s) x (b ∷ t) y l m (i, p) (j, q) h =
    let same = parts_same n a b (s ++ x) (t ++ y) p q h in
    ap (λ (o : Ordering). ordering_then o (slice_cmp nat_cmp (s ++ x) (t ++ y))) (tied a b same.0) ∙ key_same n s x t y (omega (arith, l)) (omega (arith, m)) p q same.1

-- equal keys, one from fewer bytes: the lengths decide, since a missing byte is at most any byte
key_short : (n : ℕ) (x y : List ℕ) → Bytes x → Bytes y → (length x < n) ⊎ (length y < n) → front_key n x ≡ front_key n y → slice_cmp nat_cmp x y ≡ nat_cmp (length x) (length y)
key_short n [] [] p q s h = sym (tied 0 0 refl)
key_short n [] (b ∷ y) p q s h = sym (less 0 (suc (length y)) (omega arith))
key_short n (a ∷ x) [] p q s h = sym (greater (suc (length x)) 0 (omega arith))
key_short zero (a ∷ x) (b ∷ y) p q s h = absurd (elim s [ inl l ↦ omega (arith, l) | inr l ↦ omega (arith, l) ])
key_short (suc n) (a ∷ x) (b ∷ y) (i, p) (j, q) s h =
    let same = parts_same n a b x y p q h in
    let less_rest : (length x < n) ⊎ (length y < n) = elim s [ inl l ↦ inl (omega (arith, l)) | inr l ↦ inr (omega (arith, l)) ] in
    ap (λ (o : Ordering). ordering_then o (slice_cmp nat_cmp x y)) (tied a b same.0) ∙ key_short n x y p q less_rest same.1 ∙ sym (nat_cmp-suc (length x) (length y))

-- the key is a matter of the first n bytes, and missing ones are as zeros
key_front : (n : ℕ) (s x : List ℕ) → n ≤ length s → front_key n (s ++ x) ≡ front_key n s
key_front zero s x h = refl
key_front (suc n) [] x h = absurd (omega (arith, h))
key_front (suc n) (b ∷ s) x h = ap (λ (k : ℕ). b * 256 ^ n + k) (key_front n s x (omega (arith, h)))

-- eight bytes as a number
eight_key : (l : List ℕ) → length l ≡ 8 → from_le_bytes w64 l ≡ front_key 8 (reverse l)
eight_key (a ∷ b ∷ c ∷ d ∷ e ∷ f ∷ g ∷ h ∷ []) n = omega arith
eight_key l n = cc

zeros_more : (m : ℕ) (zeros : List ℕ) → zeros ≡ replicate m 0 → zeros ++ 0 ∷ [] ≡ 0 ∷ replicate m 0
zeros_more m zeros e = grind (arith, common_steps)

zeros_turned : (m : ℕ) (zeros : List ℕ) → zeros ≡ replicate m 0 → reverse zeros ≡ replicate m 0
zeros_turned zero zeros e = ap (λ (t : List ℕ). reverse t) e
zeros_turned (suc m) zeros e =
    let some : List ℕ = replicate m 0 in
    ap (λ (t : List ℕ). reverse t) e ∙ reverse-append (0 ∷ []) some ∙ zeros_more m (reverse some) (zeros_turned m some refl)

pub key_of_long : (x : List ℕ) (n : ℕ) → length x ≡ n + 8 → from_le_bytes w64 (drop n x) ≡ suffix_key x
unfolding suffix_key
key_of_long x n e =
    let cut : reverse x ≡ reverse (drop n x) ++ reverse (take n x) = ap reverse (sym (take-append-drop n x)) ∙ reverse-append (take n x) (drop n x) in
    let eight : length (drop n x) ≡ 8 = omega (arith, e, length-drop n x) in
    eight_key (drop n x) eight ∙ sym (ap (front_key 8) cut ∙ key_front 8 (reverse (drop n x)) (reverse (take n x)) (omega (arith, eight, length-reverse (drop n x))))

pub key_of_short : (x : List ℕ) (n : ℕ) → length x + n ≡ 8 → from_le_bytes w64 (replicate n 0 ++ x) ≡ suffix_key x
unfolding suffix_key
key_of_short x n e = grind (arith, eight_key, length-append, length-replicate, reverse-append, zeros_turned)

-- the key of a short string, copied to the end of eight zeros
pub key_of_padded : (x : List ℕ) (m k : ℕ) → length x + m ≡ 8 → m + k ≡ 8 → from_le_bytes w64 (put_mid m k (replicate 8 0) x) ≡ suffix_key x
key_of_padded x m k e n =
    let zeros : List ℕ = replicate 8 0 in
    let eight : length zeros ≡ 8 = refl in
    let none : drop k (drop m zeros) ≡ [] = drop_all k (drop m zeros) (omega (arith, n, eight, length-drop m zeros)) in
    let padded : put_mid m k zeros x ≡ replicate m 0 ++ x =
    ap (λ (l : List ℕ). l ++ (x ++ drop k (drop m zeros))) (take-replicate m 8 0 (omega (arith, e)))
    ∙ ap (λ (l : List ℕ). replicate m 0 ++ (x ++ l)) none ∙ ap (λ (l : List ℕ). replicate m 0 ++ l) (append-nil x) in
    ap (from_le_bytes w64) padded ∙ key_of_short x m e

-- from keys to strings
pub key_apart : (x y : List ℕ) → ((i : ℕ) → get_or x i 0 < 256) → ((i : ℕ) → get_or y i 0 < 256) → suffix_key x ≢ suffix_key y → nat_cmp (suffix_key x) (suffix_key y) ≡ suffix_cmp x y
unfolding suffix_key
key_apart x y p q n =
    let bx = bytes_turned x (bytes_from x p) in
    let by = bytes_turned y (bytes_from y q) in
    elim (cases_order (front_key 8 (reverse x)) (front_key 8 (reverse y))) [
      | inl e ↦ absurd (n e)
      | inr s ↦ elim s [
        | inl up ↦ less _ _ up ∙ sym (key_less 8 (reverse x) (reverse y) bx by up)
        | inr down ↦ greater _ _ down ∙ sym (nat_list_cmp_total.antisymm (reverse x) (reverse y) ∙ ap ordering_reverse (key_less 8 (reverse y) (reverse x) by bx down))
      ]
    ]

pub key_alike : (x y : List ℕ) (n m : ℕ) → ((i : ℕ) → get_or x i 0 < 256) → ((i : ℕ) → get_or y i 0 < 256) → suffix_key x ≡ suffix_key y → length x ≡ n + 8 → length y ≡ m + 8 → suffix_cmp (take n x) (take m y) ≡ suffix_cmp x y
unfolding suffix_key
key_alike x y n m p q e l k =
    let cut : reverse x ≡ reverse (drop n x) ++ reverse (take n x) = ap reverse (sym (take-append-drop n x)) ∙ reverse-append (take n x) (drop n x) in
    let cut_y : reverse y ≡ reverse (drop m y) ++ reverse (take m y) = ap reverse (sym (take-append-drop m y)) ∙ reverse-append (take m y) (drop m y) in
    sym (ap (λ (t : List ℕ). slice_cmp nat_cmp t (reverse y)) cut ∙ ap (slice_cmp nat_cmp (reverse (drop n x) ++ reverse (take n x))) cut_y
    ∙ key_same 8 (reverse (drop n x)) (reverse (take n x)) (reverse (drop m y)) (reverse (take m y))
    (omega (arith, l, length-reverse (drop n x), length-drop n x)) (omega (arith, k, length-reverse (drop m y), length-drop m y))
    (subst Bytes cut (bytes_turned x (bytes_from x p))) (subst Bytes cut_y (bytes_turned y (bytes_from y q)))
    (ap (front_key 8) (sym cut) ∙ e ∙ ap (front_key 8) cut_y))

pub key_ends : (x y : List ℕ) → ((i : ℕ) → get_or x i 0 < 256) → ((i : ℕ) → get_or y i 0 < 256) → suffix_key x ≡ suffix_key y → (length x < 8) ⊎ (length y < 8) → nat_cmp (length x) (length y) ≡ suffix_cmp x y
unfolding suffix_key
key_ends x y p q e s =
    let less_turned : (length (reverse x) < 8) ⊎ (length (reverse y) < 8) = elim s [ inl l ↦ inl (omega (arith, l, length-reverse x)) | inr l ↦ inr (omega (arith, l, length-reverse y)) ] in
    sym (key_short 8 (reverse x) (reverse y) (bytes_turned x (bytes_from x p)) (bytes_turned y (bytes_from y q)) less_turned e
    ∙ ap (nat_cmp (length (reverse x))) (length-reverse y) ∙ ap (λ (n : ℕ). nat_cmp n (length y)) (length-reverse x))

-- the key of no bytes
pub key_none : (x : List ℕ) (n : ℕ) → n ≡ 0 → suffix_key (take n x) ≡ 0
unfolding suffix_key
key_none x n e = ap (λ (k : ℕ). front_key 8 (reverse (take k x))) e

-- what the search cites of the key of a string
pub ruleset key_steps = (key_of_long, key_of_padded)
