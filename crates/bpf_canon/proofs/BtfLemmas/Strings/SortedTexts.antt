-- Texts of a section that are sorted by keys and bytes are sorted by their bytes from the end.
use Rattle.std.proofs.Common.{◌≡◌, ◌≢◌, ℕ, zero, suc, ◌+◌, ◌*◌, ◌-◌, ◌^◌, ◌<◌, inl, inr, List, [], ◌∷◌, length, map, get_or, take, drop, sym, ap, ◌∙◌, arith}
use Rattle.std.specs.{List.All, List.Sorted.IsSorted, List.Sorted.IsSortedBy, Cmp.IsTotalOrder}
use Rattle.std.specs.Ordering.{is_lt, nat_cmp, ordering_then}
use Rattle.std.specs.declared.cmp.Ordering.{Ordering, TheVariants.Equal}
use Rattle.std.proofs.lemmas.{Bool.cases_eq, Bool.cases_lt, List.get_or-map, List.length-map}
use Rattle.std.proofs.lemmas.Cmp.{nat_cmp_total, tied_itself, on_total, then_total, ranked}
use Rattle.btf_types.specs.strings.SharedNames.{suffix_cmp}
use Rattle.btf_types.proofs.StringLemmas.Hosts.{suffix_total}
use Rattle.bpf_canon.specs.{btf.strings.SuffixKeys.suffix_key, declared.btf.strings.ranked_texts.SectionText.SectionText}
use Rattle.bpf_canon.specs.btf.strings.SectionTexts.{start_in, text_in, text_before, HasKey, compared}
use Rattle.bpf_canon.proofs.BtfLemmas.Strings.SuffixKeys.{Bytes, bytes_from, less, greater, key_none, key_apart, key_alike, key_ends}

bytes_at : (x : List ℕ) → Bytes x → (i : ℕ) → get_or x i 0 < 256
bytes_at [] p i = omega arith
bytes_at (b ∷ x) (h, p) zero = h
bytes_at (b ∷ x) (h, p) (suc i) = bytes_at x p i

bytes_drop : (n : ℕ) (x : List ℕ) → Bytes x → Bytes (drop n x)
bytes_drop zero x p = p
bytes_drop (suc n) [] p = tt
bytes_drop (suc n) (b ∷ x) (h, p) = bytes_drop n x p

bytes_take : (n : ℕ) (x : List ℕ) → Bytes x → Bytes (take n x)
bytes_take zero x p = tt
bytes_take (suc n) [] p = tt
bytes_take (suc n) (b ∷ x) (h, p) = (h, bytes_take n x p)

pub text_bytes : (section : List ℕ) (t : SectionText) → ((i : ℕ) → get_or section i 0 < 256) → (i : ℕ) → get_or (text_in section t) i 0 < 256
text_bytes section t p = bytes_at (text_in section t) (bytes_take _ _ (bytes_drop (start_in section t) section (bytes_from section p)))

apart_then : (o s : Ordering) → o ≢ Equal → ordering_then o s ≡ o
apart_then o s n = grind arith

tied_same : (a b : ℕ) → nat_cmp a b ≡ Equal → a ≡ b
tied_same a b e = ranked a b Equal (sym e)

pub front_bytes : (n : ℕ) (x : List ℕ) → ((i : ℕ) → get_or x i 0 < 256) → (i : ℕ) → get_or (take n x) i 0 < 256
front_bytes n x p = bytes_at (take n x) (bytes_take n x (bytes_from x p))

-- strings with the same key, by the keys of the bytes before: a string without such bytes is the shorter one
short_first : (x y : List ℕ) → ((i : ℕ) → get_or x i 0 < 256) → ((i : ℕ) → get_or y i 0 < 256) → suffix_key x ≡ suffix_key y → length x < 8 → suffix_key (text_before x) ≢ suffix_key (text_before y) → nat_cmp (suffix_key (text_before x)) (suffix_key (text_before y)) ≡ suffix_cmp x y
short_first x y p q e s n =
    let none : suffix_key (text_before x) ≡ 0 = key_none x (length x - 8) (omega (arith, s)) in
    let some : 0 < suffix_key (text_before y) = elim (cases_lt 0 (suffix_key (text_before y))) [ inl l ↦ l | inr g ↦ absurd (n (omega (arith, none, g))) ] in
    let long : 8 < length y = elim (cases_lt 8 (length y)) [ inl l ↦ l | inr g ↦ absurd (omega (arith, some, key_none y (length y - 8) (omega (arith, g)))) ] in
    less (suffix_key (text_before x)) (suffix_key (text_before y)) (omega (arith, none, some)) ∙ sym (less (length x) (length y) (omega (arith, s, long))) ∙ key_ends x y p q e (inl s)

short_second : (x y : List ℕ) → ((i : ℕ) → get_or x i 0 < 256) → ((i : ℕ) → get_or y i 0 < 256) → suffix_key x ≡ suffix_key y → length y < 8 → suffix_key (text_before x) ≢ suffix_key (text_before y) → nat_cmp (suffix_key (text_before x)) (suffix_key (text_before y)) ≡ suffix_cmp x y
short_second x y p q e s n =
    let none : suffix_key (text_before y) ≡ 0 = key_none y (length y - 8) (omega (arith, s)) in
    let some : 0 < suffix_key (text_before x) = elim (cases_lt 0 (suffix_key (text_before x))) [ inl l ↦ l | inr g ↦ absurd (n (omega (arith, none, g))) ] in
    let long : 8 < length x = elim (cases_lt 8 (length x)) [ inl l ↦ l | inr g ↦ absurd (omega (arith, some, key_none x (length x - 8) (omega (arith, g)))) ] in
    greater (suffix_key (text_before x)) (suffix_key (text_before y)) (omega (arith, none, some)) ∙ sym (greater (length x) (length y) (omega (arith, s, long))) ∙ key_ends x y p q e (inr s)

before_apart : (x y : List ℕ) → ((i : ℕ) → get_or x i 0 < 256) → ((i : ℕ) → get_or y i 0 < 256) → suffix_key x ≡ suffix_key y → suffix_key (text_before x) ≢ suffix_key (text_before y) → nat_cmp (suffix_key (text_before x)) (suffix_key (text_before y)) ≡ suffix_cmp x y
before_apart x y p q e n = grind (arith, short_first, short_second, key_apart, front_bytes, key_alike)

tied_then : (a b : ℕ) (s : Ordering) → a ≡ b → ordering_then (nat_cmp a b) s ≡ s
tied_then a b s e = ap (λ (o : Ordering). ordering_then o s) (ap (nat_cmp a) (sym e) ∙ tied_itself nat_cmp_total a)

-- Keys that differ compare as one number; if they are equal, the strings decide.
module _ (section : List ℕ) (a b : SectionText) (p : a.before < 2 ^ 64) (q : b.before < 2 ^ 64) where
  abbrev texts_compared : Ordering
  texts_compared = suffix_cmp (text_in section a) (text_in section b)

  pub keys_apart : a.key * 2 ^ 64 + a.before ≢ b.key * 2 ^ 64 + b.before → nat_cmp (a.key * 2 ^ 64 + a.before) (b.key * 2 ^ 64 + b.before) ≡ compared section a b
  keys_apart n = grind arith

  pub keys_alike : a.key * 2 ^ 64 + a.before ≡ b.key * 2 ^ 64 + b.before → texts_compared ≡ compared section a b
  keys_alike e = grind arith

compared_before : (section : List ℕ) (a b : SectionText) → ((i : ℕ) → get_or section i 0 < 256) → HasKey section a → HasKey section b → a.key ≡ b.key → ordering_then (nat_cmp a.before b.before) (suffix_cmp (text_in section a) (text_in section b)) ≡ suffix_cmp (text_in section a) (text_in section b)
compared_before section a b p ka kb e = grind (arith, before_apart, text_bytes)

pub compared_as_texts : (section : List ℕ) (a b : SectionText) → ((i : ℕ) → get_or section i 0 < 256) → HasKey section a → HasKey section b → compared section a b ≡ suffix_cmp (text_in section a) (text_in section b)
compared_as_texts section a b p ka kb = elim (cases_eq a.key b.key) [
  | inl e ↦ tied_then a.key b.key (ordering_then (nat_cmp a.before b.before) (suffix_cmp (text_in section a) (text_in section b))) e ∙ compared_before section a b p ka kb e
  | inr n ↦
      apart_then (nat_cmp a.key b.key) (ordering_then (nat_cmp a.before b.before) (suffix_cmp (text_in section a) (text_in section b))) (λ e. n (tied_same a.key b.key e))
      ∙ ap (λ (k : ℕ). nat_cmp k b.key) ka.last ∙ ap (nat_cmp (suffix_key (text_in section a))) kb.last
      ∙ key_apart (text_in section a) (text_in section b) (text_bytes section a p) (text_bytes section b p) (λ e. n (ka.last ∙ e ∙ sym kb.last))
]

pub compared_total : (section : List ℕ) → IsTotalOrder (compared section)
compared_total section = then_total (on_total (λ t. t.key) nat_cmp_total) (then_total (on_total (λ t. t.before) nat_cmp_total) (on_total (text_in section) suffix_total))

pub sorted_texts : (section : List ℕ) (ts : List SectionText) → ((i : ℕ) → get_or section i 0 < 256) → All (HasKey section) ts → IsSortedBy (λ x y. is_lt (compared section x y)) ts → IsSorted suffix_cmp (map (text_in section) ts)
sorted_texts section ts p keys up k d low h =
    let e : SectionText = record { key = 0; before = 0; start = 0; end = 0 } in
    let inside : k + 1 < length ts = omega (arith, h, length-map ts (text_in section)) in
    let a = get_or ts k e in
    let b = get_or ts (k + 1) e in
    let same = compared_as_texts section b a p (keys (k + 1) e inside) (keys k e (omega (arith, inside))) in
    grind (arith, get_or-map)

-- what the search cites of the keys of two strings
pub ruleset key_cases = (keys_apart, keys_alike)
