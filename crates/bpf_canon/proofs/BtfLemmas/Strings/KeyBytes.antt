-- The common suffix of two strings, by the bytes of their keys.
use Rattle.std.proofs.Common.{◌≡◌, ◌≢◌, ℕ, ◌+◌, ◌-◌, ◌<◌, ◌≤◌, min, inl, inr, List, ◌++◌, length, get_or, drop, replicate, sym, subst, ap, ◌∙◌, arith}
use Rattle.std.specs.{Prelude.reverse, Int.w64, Int.to_le_bytes}
use Rattle.std.proofs.lemmas.{Bool.cases_lt, Nat.le_bytes_8}
use Rattle.std.proofs.lemmas.List.{get_or-reverse, get_or-drop, get_or-replicate, get_or_append_left, get_or-append_right, get_or_past, length-append, length-drop, length-replicate, length-reverse, length-take-le, get_or-take}
use Rattle.btf_types.specs.strings.CommonSuffixes.{common_tail}
use Rattle.bpf_canon.specs.btf.strings.{SuffixKeys.suffix_key, SectionTexts.text_before}
use Rattle.bpf_canon.proofs.BtfLemmas.Strings.{SuffixKeys.key_of_long, SuffixKeys.key_of_short, RankSteps.front_stops, RankSteps.front_ends}

module _ (x : List ℕ) (p : (i : ℕ) → get_or x i 0 < 256) (j : ℕ) (h : j < 8) where
  byte_of_long : 8 ≤ length x → get_or (to_le_bytes w64 (suffix_key x)) (7 - j) 0 ≡ get_or (reverse x) j 0
  byte_of_long l =
      let n = length x - 8 in
      let long : length (drop n x) ≡ 8 = omega (arith, l, length-drop n x) in
      let bytes : (i : ℕ) → get_or (drop n x) i 0 < 256 = λ i. omega (arith, get_or-drop n x i 0, p (n + i)) in
      ap (λ (t : List ℕ). get_or t (7 - j) 0) (le_bytes_8 (drop n x) (suffix_key x) long bytes (sym (key_of_long x n (omega (arith, l)))))
      ∙ get_or-drop n x (7 - j) 0
      ∙ ap (λ (k : ℕ). get_or x k 0) (let e : n + (7 - j) ≡ length x - 1 - j = omega (arith, l, h) in e)
      ∙ sym (get_or-reverse x j 0 (omega (arith, l, h)))

  byte_of_short : length x < 8 → get_or (to_le_bytes w64 (suffix_key x)) (7 - j) 0 ≡ get_or (reverse x) j 0
  byte_of_short l =
      let n = 8 - length x in
      let zeros : List ℕ = replicate n 0 in
      let few : length zeros ≡ n = length-replicate n 0 in
      let long : length (zeros ++ x) ≡ 8 = omega (arith, l, few, length-append zeros x) in
      let low : (i : ℕ) → i < n → get_or (zeros ++ x) i 0 ≡ 0 = λ i k. get_or_append_left zeros x 0 i (omega (arith, few, k)) ∙ get_or-replicate n i 0 0 k in
      let high : (i : ℕ) → n ≤ i → get_or (zeros ++ x) i 0 ≡ get_or x (i - n) 0 = λ i k. get_or-append_right zeros x n i 0 few k in
      let bytes : (i : ℕ) → get_or (zeros ++ x) i 0 < 256 = λ i. elim (cases_lt i n) [ inl k ↦ omega (arith, low i k) | inr k ↦ omega (arith, high i k, p (i - n)) ] in
      ap (λ (t : List ℕ). get_or t (7 - j) 0) (le_bytes_8 (zeros ++ x) (suffix_key x) long bytes (sym (key_of_short x n (omega (arith, l)))))
      ∙ elim (cases_lt j (length x)) [
        | inl k ↦ grind (arith, get_or-reverse)
        | inr k ↦ low (7 - j) (omega (arith, k, l, h)) ∙ sym (get_or_past (reverse x) j 0 (omega (arith, k, length-reverse x)))
      ]

  pub key_byte : get_or (to_le_bytes w64 (suffix_key x)) (7 - j) 0 ≡ get_or (reverse x) j 0
  key_byte = elim (cases_lt (length x) 8) [ inl l ↦ byte_of_short l | inr l ↦ byte_of_long l ]

module _ (x y : List ℕ) (p : (i : ℕ) → get_or x i 0 < 256) (q : (i : ℕ) → get_or y i 0 < 256) (k m n : ℕ) (first : k ≡ suffix_key x) (second : m ≡ suffix_key y) where
  of_first : (j : ℕ) → j < 8 → get_or (to_le_bytes w64 k) (7 - j) 0 ≡ get_or (reverse x) j 0
  of_first j h = ap (λ (t : ℕ). get_or (to_le_bytes w64 t) (7 - j) 0) first ∙ key_byte x p j h

  of_second : (j : ℕ) → j < 8 → get_or (to_le_bytes w64 m) (7 - j) 0 ≡ get_or (reverse y) j 0
  of_second j h = ap (λ (t : ℕ). get_or (to_le_bytes w64 t) (7 - j) 0) second ∙ key_byte y q j h

  pub common_by_keys : n ≤ 8 → ((j : ℕ) → j < n → get_or (to_le_bytes w64 k) (7 - j) 0 ≡ get_or (to_le_bytes w64 m) (7 - j) 0) → (n < 8 → get_or (to_le_bytes w64 k) (7 - n) 0 ≢ get_or (to_le_bytes w64 m) (7 - n) 0)
      → min (min n (length x)) (length y) < 8 → min (min n (length x)) (length y) ≡ common_tail x y
  common_by_keys few same differ below =
      let alike : (j : ℕ) → j < n → get_or (reverse x) j 0 ≡ get_or (reverse y) j 0 = λ j h. sym (of_first j (omega (arith, h, few))) ∙ same j h ∙ of_second j (omega (arith, h, few)) in
      let long_x = length-reverse x in
      let long_y = length-reverse y in
      elim (cases_lt n (min (length x) (length y))) [
        | inl h ↦ grind (arith, front_stops, of_first, of_second)
        | inr h ↦ grind (arith, front_ends)
      ]

-- the bytes before the last eight
front_byte : (x : List ℕ) (j : ℕ) → 8 ≤ length x → get_or (reverse (text_before x)) j 0 ≡ get_or (reverse x) (8 + j) 0
front_byte x j long = grind (arith, length-take-le, get_or-reverse, get_or-take, get_or_past, length-reverse)

module _ (x y : List ℕ) (p : (i : ℕ) → get_or x i 0 < 256) (q : (i : ℕ) → get_or y i 0 < 256) (long_x : 8 ≤ length x) (long_y : 8 ≤ length y) (k m n : ℕ) (first : k ≡ suffix_key x) (second : m ≡ suffix_key y)
    (same : (j : ℕ) → j < n → get_or (to_le_bytes w64 k) (7 - j) 0 ≡ get_or (to_le_bytes w64 m) (7 - j) 0) (all : 8 ≤ n)
    (fp : (i : ℕ) → get_or (text_before x) i 0 < 256) (fq : (i : ℕ) → get_or (text_before y) i 0 < 256) (b d r : ℕ) (first_before : b ≡ suffix_key (text_before x)) (second_before : d ≡ suffix_key (text_before y))
    (few : r ≤ 8) (same_before : (j : ℕ) → j < r → get_or (to_le_bytes w64 b) (7 - j) 0 ≡ get_or (to_le_bytes w64 d) (7 - j) 0) where
  alike_last : (j : ℕ) → j < 8 → get_or (reverse x) j 0 ≡ get_or (reverse y) j 0
  alike_last j h = sym (of_first x y p q k m n first second j h) ∙ same j (omega (arith, h, all)) ∙ of_second x y p q k m n first second j h

  of_front : (j : ℕ) → j < 8 → get_or (to_le_bytes w64 b) (7 - j) 0 ≡ get_or (reverse x) (8 + j) 0
  of_front j h = of_first (text_before x) (text_before y) fp fq b d r first_before second_before j h ∙ front_byte x j long_x

  of_other_front : (j : ℕ) → j < 8 → get_or (to_le_bytes w64 d) (7 - j) 0 ≡ get_or (reverse y) (8 + j) 0
  of_other_front j h = of_second (text_before x) (text_before y) fp fq b d r first_before second_before j h ∙ front_byte y j long_y

  alike_to : (j : ℕ) → j < 8 + r → get_or (reverse x) j 0 ≡ get_or (reverse y) j 0
  alike_to j h = elim (cases_lt j 8) [
    | inl l ↦ alike_last j l
    | inr g ↦
        let e : 8 + (j - 8) ≡ j = omega (arith, g) in
        subst (λ (i : ℕ). get_or (reverse x) i 0 ≡ get_or (reverse y) i 0) e
        (sym (of_front (j - 8) (omega (arith, h, g, few))) ∙ same_before (j - 8) (omega (arith, h, g)) ∙ of_other_front (j - 8) (omega (arith, h, g, few)))
  ]

  -- the same by the keys of the bytes before, if the last eight bytes are equal
  pub common_by_both_keys : (r < 8 → get_or (to_le_bytes w64 b) (7 - r) 0 ≢ get_or (to_le_bytes w64 d) (7 - r) 0) → min (min r (length x - 8)) (length y - 8) < 8 → 8 + min (min r (length x - 8)) (length y - 8) ≡ common_tail x y
  common_by_both_keys differ below =
      let turned_x = length-reverse x in
      let turned_y = length-reverse y in
      elim (cases_lt r (min (length x - 8) (length y - 8))) [
        | inl h ↦ grind (arith, front_stops, alike_to, of_front, of_other_front)
        | inr h ↦ grind (arith, front_ends, alike_to)
      ]
