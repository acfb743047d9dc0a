-- The numbers of the used offsets of a section.
use Rattle.std.proofs.Common.{◌≡◌, ◌≢◌, ℕ, zero, suc, ◌+◌, ◌*◌, ◌/◌, ◌<◌, ◌≤◌, inl, inr, List, [], ◌∷◌, ◌++◌, length, get_or, sym, ap, ◌∙◌, arith}
use Rattle.std.specs.Prelude.{◌==◌}
use Rattle.std.proofs.lemmas.Bool.{cases_eq, cases_lt, cond-true, cond-false, eq-eqb, ne_eqb}
use Rattle.std.proofs.lemmas.List.{length_push, get_or_append_left, get_or_push, get_or_past}
use Rattle.bpf_canon.specs.btf.strings.UsedOffsets.{used_below, offset_number, AreCounted}

pub below_used : (slots : List ℕ) (n : ℕ) → get_or slots n 0 ≢ 0 → used_below slots (suc n) ≡ used_below slots n ++ n ∷ []
below_used slots n s = cond-false (get_or slots n 0 == 0) (used_below slots n) (used_below slots n ++ n ∷ []) (ne_eqb (get_or slots n 0) 0 s)

pub below_unused : (slots : List ℕ) (n : ℕ) → get_or slots n 0 ≡ 0 → used_below slots (suc n) ≡ used_below slots n
below_unused slots n z = cond-true (get_or slots n 0 == 0) (used_below slots n) (used_below slots n ++ n ∷ []) (eq-eqb (get_or slots n 0) 0 z)

pub number_used : (slots : List ℕ) (n : ℕ) → get_or slots n 0 ≢ 0 → offset_number slots (n + 1) ≡ offset_number slots n + 1
number_used slots n s = grind (arith, length_push)

pub number_at_most : (slots : List ℕ) (n : ℕ) → offset_number slots n ≤ n
number_at_most slots zero = omega arith
number_at_most slots (suc n) = grind (arith, length_push, (number_at_most slots n))

-- used offsets with the same number are the same
pub number_below : (slots : List ℕ) (o n : ℕ) → o < n → get_or slots o 0 ≢ 0 → offset_number slots o < offset_number slots n
number_below slots o zero h s = absurd (omega (arith, h))
number_below slots o (suc n) h s = elim (cases_eq (get_or slots n 0) 0) [
  | inl z ↦
      let e = ap (λ (l : List ℕ). length l) (below_unused slots n z) in
      elim (cases_eq o n) [
        | inl q ↦ absurd (s (ap (λ (k : ℕ). get_or slots k 0) q ∙ z))
        | inr q ↦ omega (arith, e, number_below slots o n (omega (arith, h, q)) s)
      ]
  | inr t ↦
      let e = ap (λ (l : List ℕ). length l) (below_used slots n t) in
      elim (cases_eq o n) [
        | inl q ↦ omega (arith, e, length_push (used_below slots n) n, ap (offset_number slots) q)
        | inr q ↦ omega (arith, e, length_push (used_below slots n) n, number_below slots o n (omega (arith, h, q)) s)
      ]
]

number_grows : (slots : List ℕ) (m n : ℕ) → m ≤ n → offset_number slots m ≤ offset_number slots n
number_grows slots m zero h = omega (arith, ap (offset_number slots) (let e : m ≡ 0 = omega (arith, h) in e))
number_grows slots m (suc n) h = elim (cases_eq m (suc n)) [
  | inl q ↦ omega (arith, ap (offset_number slots) q)
  | inr q ↦
      let rest = number_grows slots m n (omega (arith, h, q)) in
      elim (cases_eq (get_or slots n 0) 0) [
        | inl z ↦ omega (arith, rest, ap (λ (l : List ℕ). length l) (below_unused slots n z))
        | inr s ↦ omega (arith, rest, ap (λ (l : List ℕ). length l) (below_used slots n s), length_push (used_below slots n) n)
      ]
]

-- none is used between two offsets with the same number
pub unused_between : (slots : List ℕ) (start end off : ℕ) → offset_number slots start ≡ offset_number slots end → start ≤ off → off < end → get_or slots off 0 ≡ 0
unused_between slots start end off e low high = elim (cases_eq (get_or slots off 0) 0) [
  | inl z ↦ z
  | inr s ↦ absurd (omega (arith, e, number_grows slots start off low, number_below slots off end high s))
]

-- two offsets with no used one between them have the same number of used ones before them
pub number_kept : (slots : List ℕ) (start end : ℕ) → start ≤ end → ((off : ℕ) → start ≤ off → off < end → get_or slots off 0 ≡ 0) → offset_number slots start ≡ offset_number slots end
number_kept slots start zero h none = ap (offset_number slots) (let e : start ≡ 0 = omega (arith, h) in e)
number_kept slots start (suc n) h none = elim (cases_eq start (suc n)) [
  | inl q ↦ ap (offset_number slots) q
  | inr q ↦
      number_kept slots start n (omega (arith, h, q)) (λ off low high. none off low (omega (arith, high)))
      ∙ sym (ap (λ (l : List ℕ). length l) (below_unused slots n (none n (omega (arith, h, q)) (omega arith))))
]

pub number_injective : (slots : List ℕ) (o p : ℕ) → get_or slots o 0 ≢ 0 → get_or slots p 0 ≢ 0 → offset_number slots o ≡ offset_number slots p → o ≡ p
number_injective slots o p s t e = grind (arith, number_below)

-- and each number below the count is that of a used offset
pub used_at : (slots : List ℕ) (n i : ℕ) → i < offset_number slots n → (o : ℕ) × (o < n) × (get_or slots o 0 ≢ 0) × (offset_number slots o ≡ i)
used_at slots zero i h = absurd (omega (arith, h))
used_at slots (suc n) i h = elim (cases_eq (get_or slots n 0) 0) [
  | inl z ↦
      let e = ap (λ (l : List ℕ). length l) (below_unused slots n z) in
      let u = used_at slots n i (omega (arith, h, e)) in
      (u.0, omega (arith, u.1), u.2, u.3)
  | inr s ↦
      let e = ap (λ (l : List ℕ). length l) (below_used slots n s) in
      elim (cases_eq i (offset_number slots n)) [
        | inl q ↦ (n, omega arith, s, sym q)
        | inr q ↦
            let u = used_at slots n i (omega (arith, h, e, q, length_push (used_below slots n) n)) in
            (u.0, omega (arith, u.1), u.2, u.3)
      ]
]

pub used_inside : (slots : List ℕ) (off : ℕ) → get_or slots off 0 ≢ 0 → off < length slots
used_inside slots off s = elim (cases_lt off (length slots)) [ inl l ↦ l | inr g ↦ absurd (s (get_or_past slots off 0 g)) ]

pub number_inside : (slots : List ℕ) (off : ℕ) → get_or slots off 0 ≢ 0 → offset_number slots off < offset_number slots (length slots)
number_inside slots off s = number_below slots off (length slots) (used_inside slots off s) s

-- counted up to an element
pub record CountedTo (slots before : List ℕ) (count word : ℕ) : Type 0 where
  pub words : length before ≡ word + 1
  pub counted : count ≡ offset_number slots (64 * word)
  pub counts : (k : ℕ) → k < length before → get_or before k 0 ≡ offset_number slots (64 * k)

pub counted_none : (slots : List ℕ) → CountedTo slots (0 ∷ []) 0 0
counted_none slots = grind arith

pub counts_word : (slots before : List ℕ) (count word more : ℕ) → CountedTo slots before count word → offset_number slots (64 * word + 64) ≡ offset_number slots (64 * word) + more → CountedTo slots (before ++ (count + more) ∷ []) (count + more) (word + 1)
counts_word slots before count word more to is = grind (arith, length_push, get_or_push, get_or_append_left)

pub counted_all : (slots before : List ℕ) (count word : ℕ) → CountedTo slots before count word → word ≡ length slots / 64 → AreCounted slots before
counted_all slots before count word to e = record { words = to.words ∙ ap (λ (n : ℕ). n + 1) e; counts = to.counts }

-- what the search cites of the number of a used offset
pub ruleset used_numbers = (used_inside, number_inside)
