-- Marks for the strings that are UTF-8, computed from the end of a section.
use Rattle.std.proofs.Common.{◌≡◌, ℕ, ◌-◌, ◌<◌, ◌≤◌, Bool, true, false, List, length, get_or, set, inl, inr, arith}
use Rattle.std.specs.Prelude.{◌↔◌, IsUtf8, slice_index}
use Rattle.std.proofs.lemmas.{Bool.cases_lt, Bool.cases_eq, List.length-set, List.get_or-set_same, List.get_or-set_other}
use Rattle.btf_raw.specs.{Header.HasNulEnds, Names.TextAt}
use Rattle.btf_types.specs.checks.Texts.{BeginsChar, AreMarks}
use Rattle.btf_types.proofs.CheckLemmas.Utf8Steps.{begins_with_char}

-- the marks from this offset on are computed, and no other is set
pub record AreMarksFrom (s : List ℕ) (at next : ℕ) (rest : Bool) (marks : List Bool) : Type 0 where
  pub size : length marks ≡ length s
  pub low : at ≤ next
  pub inside : next ≤ length s
  pub there : at < length s → next < length s
  pub begins : next < length s → BeginsChar (slice_index s next)
  pub between : (i : ℕ) → at ≤ i → i < next → 128 ≤ slice_index s i
  pub rest_is : (text : List ℕ) → TextAt s next text → (rest ≡ true) ↔ IsUtf8 text
  pub right : (o : ℕ) (text : List ℕ) → at ≤ o → TextAt s o text → (get_or marks o false ≡ true) ↔ IsUtf8 text
  pub none_below : (o : ℕ) → o < at → get_or marks o false ≡ false

-- one more mark, at a byte that may begin a character
pub char_marked : (s : List ℕ) (n next : ℕ) (rest mark : Bool) (marks : List Bool) → AreMarksFrom s n next rest marks → 0 < n → BeginsChar (slice_index s (n - 1))
    → ((text : List ℕ) → TextAt s (n - 1) text → (mark ≡ true) ↔ IsUtf8 text) → AreMarksFrom s (n - 1) (n - 1) mark (set marks (n - 1) mark)
char_marked s n next rest mark marks so some begins known =
    let low = so.low in
    let inside = so.inside in
    let here : n - 1 < length marks = omega (arith, so.size) in
    record {
      size = omega (arith, length-set marks (n - 1) mark, so.size);
      low = omega arith;
      inside = omega arith;
      there = λ lt. lt;
      begins = λ lt. begins;
      between = λ i past below. absurd (omega arith);
      rest_is = known;
      right = λ o text past t. elim (cases_eq o (n - 1)) [
        | inl same ↦ rw (same, get_or-set_same marks (n - 1) mark false here) (known text (rw same at t))
        | inr other ↦ rw (get_or-set_other marks (n - 1) o mark false other) (so.right o text (omega (arith, other)) t)
      ];
      none_below = λ o below. rw (get_or-set_other marks (n - 1) o mark false (λ e. absurd (omega arith))) (so.none_below o (omega arith));
    }

-- and at a byte that can't
pub no_char_marked : (s : List ℕ) (n next : ℕ) (rest : Bool) (marks : List Bool) → HasNulEnds s → AreMarksFrom s n next rest marks → 0 < n → ¬ BeginsChar (slice_index s (n - 1))
    → AreMarksFrom s (n - 1) next rest marks
no_char_marked s n next rest marks ends so some goes_on =
    let low = so.low in
    let inside = so.inside in
    record {
      size = so.size;
      low = omega arith;
      inside = so.inside;
      there = λ lt. elim (cases_lt n (length s)) [
        | inl below ↦ so.there below
        | inr all ↦
            let same : length s - 1 ≡ n - 1 = omega arith in
            let nul : slice_index s (n - 1) ≡ 0 = rw (← same) ends.last in
            absurd (goes_on (λ high. absurd (omega arith)))
      ];
      begins = so.begins;
      between = λ i past below. elim (cases_eq i (n - 1)) [
        | inl same ↦ rw same (elim (cases_lt (slice_index s (n - 1)) 128) [
          | inl ascii ↦ absurd (goes_on (λ high. absurd (omega arith)))
          | inr high ↦ high
        ])
        | inr other ↦ so.between i (omega (arith, other)) below
      ];
      rest_is = so.rest_is;
      right = λ o text past t. elim (cases_eq o (n - 1)) [
        | inl same ↦
            let none : get_or marks o false ≡ false = so.none_below o (omega arith) in
            rw none (λ e. absurd cc, λ utf8. absurd (goes_on (begins_with_char s (n - 1) text (rw same at t) utf8)))
        | inr other ↦ so.right o text (omega (arith, other)) t
      ];
      none_below = λ o below. so.none_below o (omega arith);
    }

pub all_marked : (s : List ℕ) (next : ℕ) (rest : Bool) (marks : List Bool) → AreMarksFrom s 0 next rest marks → AreMarks s marks
all_marked s next rest marks so = record { size = so.size; right = λ o text t. so.right o text (omega arith) t }
