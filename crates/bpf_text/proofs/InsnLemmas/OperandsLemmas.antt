-- The operands that have been read so far.
use Rattle.std.proofs.Common.{◌≡◌, ℕ, ◌+◌, ◌-◌, ◌<◌, ◌≤◌, Bool, true, false, eqb, List, [], ◌∷◌, ◌++◌, ◌⊎◌, inl, inr, length, get_or, take, drop, map, refl, sym, ap, ◌∙◌, arith, append_assoc, take_all}
use Rattle.std.specs.{Borrow.Bor, List.AllZip, List.slice_split, List.position_or_len, List.before_first, List.after_first}
use Rattle.std.proofs.lemmas.Bool.{cases_lt, Decides.nat_tests}
use Rattle.std.proofs.lemmas.Slice.Zip.{AllZip-long}
use Rattle.std.proofs.lemmas.List.{length-append, length-drop, drop-drop, length-map, take-map, drop-map, get_or-drop}
use Rattle.std.proofs.lemmas.List.{Splits.slice_split_none, Splits.slice_split_first, Sums.fails_before_first, Sums.position_or_len_is}
use Rattle.bpf_text.proofs.InsnLemmas.ZipLemmas.{zip_push, zip_at}
use Rattle.bpf_text.specs.declared.insn.read_operand.ReadOperand.{ReadOperand}
use Rattle.bpf_text.specs.insn.{Operands.LineOperand, Operands.SpellsOperand, Operands.SpellsOperands, Operands.is_comma, Numbers.IsReadAs}

abbrev pub bytes_of : Bor (List ℕ) → List ℕ
bytes_of t = t.now

-- an index by a test of the element, and by that of its bytes
at_offset_is : (xs : List (Bor (List ℕ))) → position_or_len (λ t. is_comma t.now) xs ≡ position_or_len is_comma (map bytes_of xs)
at_offset_is [] = refl
at_offset_is (x ∷ xs) = rw (at_offset_is xs) refl

-- the parts before the rest spell the operands that were read
pub record ReadSoFar (ts rest : List (List ℕ)) (read : List ReadOperand) : Type 0 where
  pub front : List (List (List ℕ))
  pub spelled : List LineOperand
  pub parts : slice_split is_comma ts ≡ front ++ slice_split is_comma rest
  pub each : AllZip SpellsOperand front spelled
  pub means : AllZip IsReadAs read spelled

pub comma_found : (xs : List (Bor (List ℕ))) (i : ℕ) (d : Bor (List ℕ)) → i < length xs → ((k : ℕ) (d : Bor (List ℕ)) → k < i → is_comma (get_or xs k d).now ≡ false) → is_comma (get_or xs i d).now ≡ true
    → i ≡ position_or_len {X = Bor (List ℕ)} (λ t. is_comma t.now) xs
comma_found xs i d h below here = sym (position_or_len_is (λ t. is_comma t.now) xs i d (omega arith) (λ k l. below k d l) (λ _. here))

pub comma_none : (xs : List (Bor (List ℕ))) → ((k : ℕ) (d : Bor (List ℕ)) → k < length xs → is_comma (get_or xs k d).now ≡ false)
    → length xs ≡ position_or_len {X = Bor (List ℕ)} (λ t. is_comma t.now) xs
comma_none xs below =
    sym (position_or_len_is (λ t. is_comma t.now) xs (length xs) (record { ref_ptr = (0, 0); now = [] }) (omega arith) (λ k l. below k (record { ref_ptr = (0, 0); now = [] }) l) (λ h. absurd (omega arith)))

pub part_found : (xs : List (Bor (List ℕ))) (start i : ℕ) (d : Bor (List ℕ)) → start ≤ i → i < length xs → ((k : ℕ) (d : Bor (List ℕ)) → start ≤ k → k < i → is_comma (get_or xs k d).now ≡ false)
    → is_comma (get_or xs i d).now ≡ true → i ≡ start + position_or_len {X = Bor (List ℕ)} (λ t. is_comma t.now) (drop start xs)
part_found xs start i d l h below here =
    let j : start + (i - start) ≡ i = omega arith in
    let e = comma_found (drop start xs) (i - start) d (omega (arith, length-drop start xs))
    (λ k c g. rw (get_or-drop start xs k c) (below (start + k) c (omega arith) (omega arith)))
    (rw (get_or-drop start xs (i - start) d, j) here) in
    omega (arith, e)

pub part_whole : (xs : List (Bor (List ℕ))) (start : ℕ) → start ≤ length xs → ((k : ℕ) (d : Bor (List ℕ)) → start ≤ k → k < length xs → is_comma (get_or xs k d).now ≡ false)
    → length xs ≡ start + position_or_len {X = Bor (List ℕ)} (λ t. is_comma t.now) (drop start xs)
part_whole xs start l below =
    let e = comma_none (drop start xs) (λ k c g. rw (get_or-drop start xs k c) (below (start + k) c (omega arith) (omega (arith, length-drop start xs)))) in
    omega (arith, e, length-drop start xs)

-- the part from an index to the next comma, and the tokens after the comma
module _ (xs : List (Bor (List ℕ))) (start end : ℕ) (v : end ≡ start + position_or_len {X = Bor (List ℕ)} (λ t. is_comma t.now) (drop start xs)) where
  len_is : end - start ≡ position_or_len is_comma (map bytes_of (drop start xs))
  len_is = omega (arith, v, at_offset_is (drop start xs))

  part_is : (part : List (Bor (List ℕ))) → part ≡ take (end - start) (drop start xs) → map bytes_of part ≡ before_first is_comma (map bytes_of (drop start xs))
  part_is part e = ap (map bytes_of) e ∙ sym (take-map bytes_of (end - start) (drop start xs)) ∙ ap (λ k. take k (map bytes_of (drop start xs))) len_is

  rest_is : map bytes_of (drop (end + 1) xs) ≡ after_first is_comma (map bytes_of (drop start xs))
  rest_is =
      let j : end + 1 ≡ start + (position_or_len is_comma (map bytes_of (drop start xs)) + 1) = omega (arith, v, at_offset_is (drop start xs)) in
      ap (λ k. map bytes_of (drop k xs)) j
      ∙ ap (map bytes_of) (sym (drop-drop (position_or_len is_comma (map bytes_of (drop start xs)) + 1) start xs))
      ∙ sym (drop-map bytes_of (position_or_len is_comma (map bytes_of (drop start xs)) + 1) (drop start xs))

  pub next_part : (part : List (Bor (List ℕ))) → part ≡ take (end - start) (drop start xs) → end < length xs
      → slice_split is_comma (map bytes_of (drop start xs)) ≡ map bytes_of part ∷ slice_split is_comma (map bytes_of (drop (end + 1) xs))
  next_part part e h =
      rw (part_is part e, rest_is)
      (slice_split_first is_comma (map bytes_of (drop start xs)) [] (omega (arith, len_is, length-map (drop start xs) bytes_of, length-drop start xs, v)))

  pub last_part : (part : List (Bor (List ℕ))) → part ≡ take (end - start) (drop start xs) → end ≡ length xs → slice_split is_comma (map bytes_of (drop start xs)) ≡ map bytes_of part ∷ []
  last_part part e h =
      let whole : take (end - start) (drop start xs) ≡ drop start xs = take_all (end - start) (drop start xs) (omega (arith, length-drop start xs)) in
      rw (e, whole)
      (slice_split_none is_comma (map bytes_of (drop start xs)) (λ k d l. fails_before_first is_comma (map bytes_of (drop start xs)) k d (omega (arith, len_is, length-map (drop start xs) bytes_of, length-drop start xs, v))))

spelled_push : (ts : List (List ℕ)) (ys : List LineOperand) (y : LineOperand) → AllZip SpellsOperand (slice_split is_comma ts) (ys ++ y ∷ []) → SpellsOperands ts (ys ++ y ∷ [])
spelled_push ts [] y h = h
spelled_push ts (x ∷ ys) y h = h

pub starts : (ts : List (List ℕ)) (read : List ReadOperand) → read ≡ [] → ReadSoFar ts ts read
starts ts read e = record { front = []; spelled = []; parts = refl; each = tt; means = rw e tt }

pub one_more : (ts rest part next : List (List ℕ)) (read more : List ReadOperand) (s : ReadOperand) (a : LineOperand) → ReadSoFar ts rest read → slice_split is_comma rest ≡ part ∷ slice_split is_comma next
    → SpellsOperand part a → IsReadAs s a → more ≡ read ++ s ∷ [] → ReadSoFar ts next more
one_more ts rest part next read more s a r e h k f =
    record {
      front = r.front ++ part ∷ [];
      spelled = r.spelled ++ a ∷ [];
      parts = r.parts ∙ ap (λ x. r.front ++ x) e ∙ sym (append_assoc r.front (part ∷ []) (slice_split is_comma next));
      each = zip_push SpellsOperand r.front r.spelled part a r.each h;
      means = rw f (zip_push IsReadAs read r.spelled s a r.means k);
    }

pub all_read : (ts rest part : List (List ℕ)) (read more : List ReadOperand) (s : ReadOperand) (a : LineOperand) → ReadSoFar ts rest read → slice_split is_comma rest ≡ part ∷ []
    → SpellsOperand part a → IsReadAs s a → more ≡ read ++ s ∷ [] → (spelled : List LineOperand) × SpellsOperands ts spelled × AllZip IsReadAs more spelled
all_read ts rest part read more s a r e h k f = (
  r.spelled ++ a ∷ [],
  spelled_push ts r.spelled a (rw (r.parts, e) (zip_push SpellsOperand r.front r.spelled part a r.each h)),
  rw f (zip_push IsReadAs read r.spelled s a r.means k),
)

pub none_read : (ts rest part : List (List ℕ)) (back : List (List (List ℕ))) (read : List ReadOperand) → 0 < length ts → ReadSoFar ts rest read → slice_split is_comma rest ≡ part ∷ back
    → ((a : LineOperand) → ¬ SpellsOperand part a) → (spelled : List LineOperand) → ¬ SpellsOperands ts spelled
none_read ts rest part back read some r e none [] h = omega (arith, ap length h)
none_read ts rest part back read some r e none (y ∷ ys) h =
    let w = zip_at SpellsOperand r.front part back (y ∷ ys) (rw (r.parts, e) at h) in
    none w.0 w.1

pub some_part : (xs : List (Bor (List ℕ))) (start end : ℕ) → end ≡ start + position_or_len {X = Bor (List ℕ)} (λ t. is_comma t.now) (drop start xs) → end ≤ length xs
    → (back : List (List (List ℕ))) × (slice_split is_comma (map bytes_of (drop start xs)) ≡ map bytes_of (take (end - start) (drop start xs)) ∷ back)
some_part xs start end v h = pick (cases_lt end (length xs))
  where
    pick : (end < length xs) ⊎ (length xs ≤ end) → (back : List (List (List ℕ))) × (slice_split is_comma (map bytes_of (drop start xs)) ≡ map bytes_of (take (end - start) (drop start xs)) ∷ back)
    pick (inl l) = (slice_split is_comma (map bytes_of (drop (end + 1) xs)), next_part xs start end v (take (end - start) (drop start xs)) refl l)
    pick (inr l) = ([], last_part xs start end v (take (end - start) (drop start xs)) refl (omega arith))

pub some_from_test : (xs : List (Bor (List ℕ))) (b : Bool) → b ≡ eqb (length xs) 0 → b ≡ false → 0 < length (map bytes_of xs)
some_from_test xs b e t = rw (length-map xs bytes_of) (grind (arith, nat_tests))

-- a part after the largest number of operands is one too many
pub too_many : (ts rest part : List (List ℕ)) (back : List (List (List ℕ))) (read : List ReadOperand) (n : ℕ) → ReadSoFar ts rest read → slice_split is_comma rest ≡ part ∷ back → length read ≡ n → 0 < n
    → (spelled : List LineOperand) → length spelled ≤ n → ¬ SpellsOperands ts spelled
too_many ts rest part back read n r e full some [] l h =
    let none : slice_split is_comma ts ≡ [] ∷ [] = rw h refl in
    omega (arith, full, some, ap length (sym none ∙ r.parts ∙ ap (λ x. r.front ++ x) e), length-append r.front (part ∷ back), AllZip-long SpellsOperand r.front r.spelled r.each, AllZip-long IsReadAs read r.spelled r.means)
too_many ts rest part back read n r e full some (y ∷ ys) l h =
    let same : length (y ∷ ys) ≡ length (slice_split is_comma ts) = AllZip-long SpellsOperand (slice_split is_comma ts) (y ∷ ys) h in
    omega (arith, full, same, ap length (r.parts ∙ ap (λ x. r.front ++ x) e), length-append r.front (part ∷ back), AllZip-long SpellsOperand r.front r.spelled r.each, AllZip-long IsReadAs read r.spelled r.means)
