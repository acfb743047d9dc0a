-- Where names end.
use Rattle.std.proofs.Common.{◌≡◌, ℕ, zero, suc, ◌-◌, ◌≤◌, ◌==◌, min, Bool, true, List, [], ◌∷◌, ◌++◌, length, take, drop, inl, inr, refl, sym, ap, ◌∙◌, arith}
use Rattle.std.specs.Prelude.{not}
use Rattle.std.specs.{Cmp.Lexicographic.slice_cmp, List.All, List.take_while, List.prefix_len}
use Rattle.std.specs.Ordering.{nat_cmp}
use Rattle.std.specs.declared.cmp.Ordering.{Ordering}
use Rattle.std.proofs.lemmas.Bool.{cases_Bool, cases_lt}
use Rattle.std.proofs.lemmas.List.{length-drop, drop_all, drop-drop, Sums.take_while-cons}
use Rattle.std.proofs.lemmas.List.Elements.{All-push}
use Rattle.bpf_elf.specs.Names.{is_closed, string_at}
use Rattle.bpf_object.specs.declared.name_ranks.NameAt.{NameAt}
use Rattle.bpf_object.specs.private.NameRanks.{HasEnd, bytes_in, name_key, text_key}
use Rattle.bpf_object.proofs.KeyLemmas.{first_empty}

take_own : (k : ℕ) (xs : List ℕ) → take (length (take k xs)) xs ≡ take k xs
take_own zero xs = refl
take_own (suc k) [] = refl
take_own (suc k) (x ∷ xs) = ap (λ (t : List ℕ). x ∷ t) (take_own k xs)

-- the front of a list that passes a test, from inside it on
while_drop : (p : ℕ → Bool) (xs : List ℕ) (d : ℕ) → d ≤ length (take_while p xs) → length (take_while p (drop d xs)) ≡ length (take_while p xs) - d
while_drop p xs zero le = omega arith
while_drop p [] (suc d) le = absurd (omega (arith, le))
while_drop p (x ∷ xs) (suc d) le = elim (cases_Bool (p x)) [
  | inl pass ↦
      let front : take_while p (x ∷ xs) ≡ x ∷ take_while p xs = take_while-cons p x xs ∙ rw pass refl in
      omega (arith, le, ap length front, while_drop p xs d (omega (arith, le, ap length front)))
  | inr stop ↦
      let front : take_while p (x ∷ xs) ≡ [] = take_while-cons p x xs ∙ rw stop refl in
      absurd (omega (arith, le, ap length front))
]

while_short : (p : ℕ → Bool) (xs : List ℕ) → length (take_while p xs) ≤ length xs
while_short p [] = omega arith
while_short p (x ∷ xs) = elim (cases_Bool (p x)) [
  | inl pass ↦
      let front : take_while p (x ∷ xs) ≡ x ∷ take_while p xs = take_while-cons p x xs ∙ rw pass refl in
      omega (arith, ap length front, while_short p xs)
  | inr stop ↦
      let front : take_while p (x ∷ xs) ≡ [] = take_while-cons p x xs ∙ rw stop refl in
      omega (arith, ap length front)
]

module _ (strings : List ℕ) where
  -- there is no name past the end
  pub none_past : (off : ℕ) → length strings ≤ off → HasEnd strings (record { start = off; end = off })
  none_past off le =
      let none : drop off strings ≡ [] = drop_all off strings le in
      let empty : length (string_at strings off) ≡ 0 = ap (λ (xs : List ℕ). length (take_while (λ c. not (c == 0)) xs)) none in
      record { ordered = omega arith; size = omega (arith, empty) }

  -- a name inside another one ends with it
  pub end_within : (last : NameAt) (off : ℕ) → HasEnd strings last → last.start ≤ off → off ≤ last.end → HasEnd strings (record { start = off; end = last.end })
  end_within last off ends from to =
      let low = ends.ordered in
      let size = ends.size in
      let d = off - last.start in
      let inside : drop d (drop last.start strings) ≡ drop off strings =
      drop-drop d last.start strings ∙ ap (λ (n : ℕ). drop n strings) (omega (arith, from)) in
      let short = while_drop (λ c. not (c == 0)) (drop last.start strings) d (omega (arith, size, to)) in
      let here : length (string_at strings off) ≡ length (take_while (λ c. not (c == 0)) (drop d (drop last.start strings))) =
      ap (λ (xs : List ℕ). length (take_while (λ c. not (c == 0)) xs)) (sym inside) in
      record { ordered = to; size = omega (arith, here, short, size, from, to) }

  -- the bytes of a name
  pub bytes_are : (name : NameAt) → HasEnd strings name → bytes_in strings name ≡ string_at strings name.start
  bytes_are name ends =
      let low = ends.ordered in
      let size = ends.size in
      let rest = drop name.start strings in
      elim (cases_lt (length strings) name.start) [
        | inl past ↦
            let none : rest ≡ [] = drop_all name.start strings (omega (arith, past)) in
            let empty : string_at strings name.start ≡ [] = ap (take_while (λ c. not (c == 0))) none in
            let short : min name.end (length strings) - min name.start (min name.end (length strings)) ≡ 0 = omega (arith, past, low) in
            ap (λ (n : ℕ). take n (drop (min name.start (min name.end (length strings))) strings)) short ∙ sym empty
        | inr within ↦
            let few : length (string_at strings name.start) ≤ length rest = while_short (λ c. not (c == 0)) rest in
            let end : min name.end (length strings) ≡ name.end = omega (arith, size, few, low, within, length-drop name.start strings) in
            let start : min name.start (min name.end (length strings)) ≡ name.start = omega (arith, end, low) in
            let count : min name.end (length strings) - min name.start (min name.end (length strings)) ≡ length (string_at strings name.start) = omega (arith, start, end, size) in
            ap (λ (n : ℕ). take n (drop (min name.start (min name.end (length strings))) strings)) count
            ∙ ap (λ (n : ℕ). take (length (string_at strings name.start)) (drop n strings)) start ∙ take_own (prefix_len (λ c. not (c == 0)) rest) rest
      ]

  pub names_compared : (a b : NameAt) (o : Ordering) → o ≡ slice_cmp nat_cmp (text_key (bytes_in strings a)) (text_key (bytes_in strings b)) → HasEnd strings a → HasEnd strings b
      → o ≡ slice_cmp nat_cmp (name_key strings a.start) (name_key strings b.start)
  names_compared a b o is first second =
      is ∙ ap (λ (x : List ℕ). slice_cmp nat_cmp (text_key x) (text_key (bytes_in strings b))) (bytes_are a first)
      ∙ ap (λ (y : List ℕ). slice_cmp nat_cmp (name_key strings a.start) (text_key y)) (bytes_are b second)

  pub none_at_start : is_closed strings ≡ true → HasEnd strings (record { start = 0; end = 0 })
  none_at_start closed = record { ordered = omega arith; size = ap length (first_empty strings closed) }

  pub one_more : (xs : List NameAt) (x : NameAt) → All (HasEnd strings) xs → HasEnd strings x → All (HasEnd strings) (xs ++ x ∷ [])
  one_more xs x all one = All-push (HasEnd strings) xs x all one

-- what the searches cite
pub ruleset ends_of_names = (end_within, none_past)

pub ruleset ends_of_lists = (none_at_start, one_more)
