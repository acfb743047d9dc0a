-- Strings and their NUL, equal strings, and the table of a list of strings.
use Rattle.std.proofs.Common.{◌≡◌, ℕ, suc, ◌+◌, ◌<◌, Bool, true, false, not, inl, inr, List, [], ◌∷◌, ◌++◌, length, get_or, refl, sym, ap, ◌∙◌, arith, append_assoc}
use Rattle.std.specs.{List.flat_map, List.position_or_len, List.before_first, List.after_first, Str.bytes_eq}
use Rattle.std.proofs.lemmas.{Bool.cond_both, Bool.cond-false, Bool.not_from_true, Bool.cases_Bool, Slice.Eq.bytes_eq-Decides}
use Rattle.std.proofs.lemmas.List.{length-append, Sums.split_at_first, Sums.passes_at_first, Concat.flat_map-append}
use Rattle.btf_raw.specs.Names.{IsWithoutNul, TextAt}
use Rattle.btf_types.specs.Names.{with_nul, table_of, offset_within, is_other, distinct, is_some_text, kept}
use Rattle.btf_types.proofs.Members.{Has, Has-filter, Has-from_filter}

pub same_text : (x y : List ℕ) → bytes_eq x y ≡ true → x ≡ y
same_text x y = (bytes_eq-Decides x y).0

pub bytes_eq-same : (x : List ℕ) → bytes_eq x x ≡ true
bytes_eq-same x = (bytes_eq-Decides x x).1 refl

-- tests that pass together are equal
pub same_tests : (a b : Bool) → (a ≡ true → b ≡ true) → (b ≡ true → a ≡ true) → a ≡ b
same_tests true b f g = sym (f refl)
same_tests false true f g = g refl
same_tests false false f g = refl

-- the first index at which a test passes is within the list, and the test passes there
pub position_below : {X : Type 0} (p : X → Bool) (xs : List X) (x : X) → Has xs x → p x ≡ true → position_or_len p xs < length xs
position_below p [] x h t = absurd h
position_below p (y ∷ ys) x (inl e) t = rw (cond-false (not (p y)) (1 + position_or_len p ys) 0 (not_from_true (p y) (ap p e ∙ t))) (omega arith)
position_below p (y ∷ ys) x (inr h) t =
    let i = position_below p ys x h t in
    cond_both (not (p y)) (1 + position_or_len p ys) 0 (λ n. n < suc (length ys)) (λ _. omega arith) (λ _. omega arith)

pub table_middle : (hs : List (List ℕ)) (y : List ℕ) (ts : List (List ℕ)) → table_of (hs ++ y ∷ ts) ≡ table_of hs ++ y ++ 0 ∷ flat_map with_nul ts
table_middle hs y ts =
    ap (λ (t : List ℕ). 0 ∷ t) (
    flat_map-append with_nul hs (y ∷ ts)
    ∙ ap (λ (t : List ℕ). flat_map with_nul hs ++ t) (append_assoc y (0 ∷ []) (flat_map with_nul ts))
    ∙ sym (append_assoc (flat_map with_nul hs) y (0 ∷ flat_map with_nul ts)))

-- a string of the list is in its table, after the table of the strings before it
pub table_split : (ks : List (List ℕ)) (x : List ℕ) → Has ks x → table_of ks ≡ table_of (before_first (bytes_eq x) ks) ++ x ++ 0 ∷ flat_map with_nul (after_first (bytes_eq x) ks)
table_split ks x h =
    let p = bytes_eq x in
    let inside : position_or_len p ks < length ks = position_below p ks x h (bytes_eq-same x) in
    let same : x ≡ get_or ks (position_or_len p ks) x = same_text x _ (passes_at_first p ks x inside) in
    let rest = flat_map with_nul (after_first p ks) in
    ap table_of (split_at_first p ks x inside) ∙ table_middle (before_first p ks) _ (after_first p ks)
    ∙ ap (λ (y : List ℕ). table_of (before_first p ks) ++ y ++ 0 ∷ rest) (sym same)

pub text_at_offset : (ks : List (List ℕ)) (x : List ℕ) → Has ks x → IsWithoutNul x → TextAt (table_of ks) (offset_within ks x) x
text_at_offset ks x h n = record {
  without_nul = n;
  before = table_of (before_first (bytes_eq x) ks);
  after = flat_map with_nul (after_first (bytes_eq x) ks);
  at_offset = refl;
  is_there = table_split ks x h;
}

-- the empty string is at the first byte of the table
pub empty_at_zero : (ks : List (List ℕ)) → TextAt (table_of ks) 0 []
empty_at_zero ks = record { without_nul = λ i h e. omega (arith, h); before = []; after = flat_map with_nul ks; at_offset = refl; is_there = refl }

pub IsWithoutNul-suffix : (front x : List ℕ) → IsWithoutNul (front ++ x) → IsWithoutNul x
IsWithoutNul-suffix [] x n = n
IsWithoutNul-suffix (b ∷ front) x n = IsWithoutNul-suffix front x (λ i h e. n (suc i) (omega (arith, h)) e)

-- the suffixes of a string are at the later offsets
pub tail_at : (section : List ℕ) (offset : ℕ) (front x : List ℕ) → TextAt section offset (front ++ x) → TextAt section (offset + length front) x
tail_at section offset front x t = record {
  without_nul = IsWithoutNul-suffix front x t.without_nul;
  before = t.before ++ front;
  after = t.after;
  at_offset = length-append t.before front ∙ ap (λ (n : ℕ). n + length front) t.at_offset;
  is_there = t.is_there ∙ ap (λ (s : List ℕ). s ++ 0 ∷ t.after) (sym (append_assoc t.before front x));
}

-- the distinct ones have the same elements
pub Has-distinct : (xs : List (List ℕ)) (x : List ℕ) → Has xs x → Has (distinct xs) x
Has-distinct [] x h = h
Has-distinct (y ∷ ys) x (inl e) = inl e
Has-distinct (y ∷ ys) x (inr h) = elim (cases_Bool (bytes_eq y x)) [
  | inl t ↦ inl (same_text y x t)
  | inr f ↦ inr (Has-filter (is_other y) (distinct ys) x (Has-distinct ys x h) (ap not f))
]

pub Has-from_distinct : (xs : List (List ℕ)) (x : List ℕ) → Has (distinct xs) x → Has xs x
Has-from_distinct [] x h = h
Has-from_distinct (y ∷ ys) x (inl e) = inl e
Has-from_distinct (y ∷ ys) x (inr h) = inr (Has-from_distinct ys x ((Has-from_filter (is_other y) (distinct ys) x h).0))

pub Has-kept : (xs : List (List ℕ)) (b : ℕ) (x : List ℕ) → Has xs (b ∷ x) → Has (kept xs) (b ∷ x)
Has-kept xs b x h = Has-filter is_some_text (distinct xs) (b ∷ x) (Has-distinct xs (b ∷ x) h) refl

pub Has-from_kept : (xs : List (List ℕ)) (x : List ℕ) → Has (kept xs) x → Has xs x
Has-from_kept xs x h = Has-from_distinct xs x ((Has-from_filter is_some_text (distinct xs) x h).0)
