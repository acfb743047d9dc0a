-- Marks of offsets as bits of 64-bit elements, and the number of those before an offset.
use Rattle.std.proofs.Common.{◌≡◌, ◌≢◌, ℕ, zero, suc, ◌+◌, ◌*◌, ◌/◌, ◌%◌, ◌^◌, ◌<◌, ◌≤◌, max, inl, inr, List, [], ◌∷◌, ◌++◌, length, get_or, set, replicate, bit_and, bit_or, ◌-◌, count_ones, refl, sym, ap, ◌∙◌, arith}
use Rattle.std.specs.Int.{bit_at}
use lib.Count.{ones_step}
use Rattle.std.proofs.lemmas.{Bool.cases_eq, Nat.ones_le_self, Nat.pow_below, Nat.and_mask}
use Rattle.std.proofs.Math.{Arith.mod-mul, Nat.pow-suc, Nat.max-zero, Nat.mod-eq_of_lt}
use Rattle.std.proofs.lemmas.Nat.Bits.{bit_at-zero, bit_at-lt, bit_at-suc, bit_at_or, bit_at-pow_same, bit_at-pow_other}
use Rattle.std.proofs.lemmas.List.{length_push, length-set, length-replicate, get_or-replicate, get_or-set_same, get_or-set_other, get_or_append_left, get_or_push, get_or_past, get_or_read, ext_get_or}
use Rattle.bpf_canon.specs.btf.strings.FirstUses.{noted, mark_of, slots_of, HaveMarks}
use Rattle.bpf_canon.specs.btf.strings.UsedOffsets.{offset_number, AreNumbered}
use Rattle.bpf_canon.proofs.BtfLemmas.Strings.FirstUseSteps.{marked_more, noted_known, noted_new}
use Rattle.bpf_canon.proofs.BtfLemmas.Strings.UsedSteps.{number_used, counted_none, counted_all}

-- one element
zero_ones : (n : ℕ) → n ≡ 0 → count_ones n ≡ 0
zero_ones n e = ap count_ones e ∙ omega (arith, ones_le_self 0)

low_step : (k w : ℕ) → count_ones (w % 2 ^ suc k) ≡ w % 2 + count_ones (w / 2 % 2 ^ k)
low_step k w = grind (arith, pow-suc, mod-mul, ones_step)

-- Another bit of an element counts if it is set.
pub ones_more : (k w : ℕ) → count_ones (w % 2 ^ suc k) ≡ count_ones (w % 2 ^ k) + bit_at w k
ones_more zero w = omega (arith, low_step, zero_ones)
ones_more (suc k) w = grind (arith, low_step, bit_at-suc, (ones_more k (w / 2)))

max_one : (n : ℕ) → n < 2 → max n 1 ≡ 1
max_one n h = elim (cases_eq n 0) [ inl z ↦ ap (λ (m : ℕ). max m 1) z | inr s ↦ ap (λ (m : ℕ). max m 1) (let e : n ≡ 1 = omega (arith, h, s) in e) ]

sums_more : (a b c d e f : ℕ) → a ≡ b + c → b ≡ d + e → f ≡ e + c → a ≡ d + f
sums_more a b c d e f p q r = omega (arith, p, q, r)

-- the list of the marks
pub slots_len : (words : List ℕ) (n : ℕ) → length (slots_of words n) ≡ n
slots_len words zero = refl
slots_len words (suc n) = length_push (slots_of words n) (mark_of words n) ∙ (let e = slots_len words n in omega (arith, e))

pub slot_at : (words : List ℕ) (n off : ℕ) → off < n → get_or (slots_of words n) off 0 ≡ mark_of words off
slot_at words zero off h = absurd (omega (arith, h))
slot_at words (suc n) off h = elim (cases_eq off n) [
  | inl e ↦ get_or_push (slots_of words n) (mark_of words n) 0 off (omega (arith, e, slots_len words n)) ∙ ap (mark_of words) (sym e)
  | inr d ↦ get_or_append_left (slots_of words n) (mark_of words n ∷ []) 0 off (omega (arith, h, d, slots_len words n)) ∙ slot_at words n off (omega (arith, h, d))
]

read_none : (k i : ℕ) → ◌≡◌ {A = ℕ} (get_or (replicate k 0) i 0) 0
read_none k i = grind (arith, get_or-replicate, get_or_past, length-replicate)

pub slots_none : (n k : ℕ) → slots_of (replicate k 0) n ≡ replicate n 0
slots_none n k =
    ext_get_or 0 (slots_of (replicate k 0) n) (replicate n 0) (slots_len (replicate k 0) n ∙ sym (length-replicate {A = ℕ} n 0)) (λ i h.
    slot_at (replicate k 0) n i (omega (arith, h, slots_len (replicate k 0) n))
    ∙ ap (λ (w : ℕ). bit_at w (i % 64)) (read_none k (i / 64)) ∙ bit_at-zero (i % 64) ∙ sym (read_none n i))

-- another bit of an element
bit_set : (w r : ℕ) → bit_at (bit_or w (2 ^ r)) r ≡ 1
bit_set w r = bit_at_or w (2 ^ r) r ∙ ap (max (bit_at w r)) (bit_at-pow_same r) ∙ max_one (bit_at w r) (bit_at-lt w r)

bit_stays : (w r i : ℕ) → i ≢ r → bit_at (bit_or w (2 ^ r)) i ≡ bit_at w i
bit_stays w r i n = bit_at_or w (2 ^ r) i ∙ ap (max (bit_at w i)) (bit_at-pow_other r i n) ∙ max-zero (bit_at w i)

module _ (words : List ℕ) (n off w : ℕ) (len : length words ≡ n / 64 + 1) (inside : off < n) (is : w ≡ get_or words (off / 64) 0) where
  abbrev more : List ℕ
  more = set words (off / 64) (bit_or w (2 ^ (off % 64)))

  word_set : get_or more (off / 64) 0 ≡ bit_or w (2 ^ (off % 64))
  word_set = get_or-set_same words (off / 64) (bit_or w (2 ^ (off % 64))) 0 (omega (arith, len, inside))

  mark_set : mark_of more off ≡ 1
  mark_set = ap (λ (v : ℕ). bit_at v (off % 64)) word_set ∙ bit_set w (off % 64)

  mark_stays : (i : ℕ) → i ≢ off → mark_of more i ≡ mark_of words i
  mark_stays i d = grind (arith, word_set, bit_stays, get_or-set_other)

  pub slots_marked : slots_of more n ≡ set (slots_of words n) off 1
  slots_marked =
      ext_get_or 0 (slots_of more n) (set (slots_of words n) off 1) (slots_len more n ∙ sym (length-set (slots_of words n) off 1 ∙ slots_len words n)) (λ i h.
      let below : i < n = omega (arith, h, slots_len more n) in
      slot_at more n i below ∙ elim (cases_eq i off) [
        | inl e ↦ grind (arith, mark_set, get_or-set_same, slots_len)
        | inr d ↦ mark_stays i d ∙ sym (get_or-set_other (slots_of words n) off i 1 0 d ∙ slot_at words n i below)
      ])

-- How many are marked before an offset: those before its element, and the lower bits of the element.
module _ (words : List ℕ) (n word : ℕ) where
  abbrev w : ℕ
  w = get_or words word 0

  abbrev slots : List ℕ
  slots = slots_of words n

  slot_is : (k : ℕ) → k < 64 → 64 * word + k < n → get_or slots (64 * word + k) 0 ≡ bit_at w k
  slot_is k b h = grind (arith, slot_at)

  number_more : (k : ℕ) → k < 64 → 64 * word + k < n → offset_number slots (64 * word + k + 1) ≡ offset_number slots (64 * word + k) + bit_at w k
  number_more k b h = grind (arith, slot_is, number_used)

  pub number_in_word : (k : ℕ) → k ≤ 64 → 64 * word + k ≤ n → offset_number slots (64 * word + k) ≡ offset_number slots (64 * word) + count_ones (w % 2 ^ k)
  number_in_word zero b h = grind (arith, zero_ones)
  number_in_word (suc k) b h =
      ap (offset_number slots) (let e : 64 * word + suc k ≡ 64 * word + k + 1 = omega arith in e)
      ∙ sums_more (offset_number slots (64 * word + k + 1)) (offset_number slots (64 * word + k)) (bit_at w k) (offset_number slots (64 * word)) (count_ones (w % 2 ^ k)) (count_ones (w % 2 ^ suc k))
      (number_more k (omega (arith, b)) (omega (arith, h))) (number_in_word k (omega (arith, b)) (omega (arith, h))) (ones_more k w)

-- the bit of an offset
pub one_bit : (r : ℕ) → r < 64 → 1 * 2 ^ r % 2 ^ 64 ≡ 2 ^ r
one_bit r h = ap (λ (n : ℕ). n % 2 ^ 64) (let e : 1 * 2 ^ r ≡ 2 ^ r = omega arith in e) ∙ mod-eq_of_lt (pow_below r 64 h)

-- and the bits below it
lower_bits : (w r : ℕ) → r < 64 → bit_and w (1 * 2 ^ r % 2 ^ 64 - 1) ≡ w % 2 ^ r
lower_bits w r h = ap (λ (m : ℕ). bit_and w (m - 1)) (one_bit r h) ∙ and_mask w r

-- no offset is marked, and one more is
pub none_marked : (n : ℕ) → HaveMarks n (replicate (n / 64 + 1) 0) []
none_marked n = grind (arith, length-replicate, slots_none, read_none)

pub marked_one : (n off w : ℕ) (words offs : List ℕ) → HaveMarks n words offs → off < n → w ≡ get_or words (off / 64) w → HaveMarks n (set words (off / 64) (bit_or w (1 * 2 ^ (off % 64) % 2 ^ 64))) (offs ++ off ∷ [])
marked_one n off w words offs have inside is = grind (arith, get_or_read, one_bit, length-set, slots_marked, marked_more, slots_len)

-- what the mark of an offset says of what is noted
module _ (n off : ℕ) (words offs : List ℕ) (have : HaveMarks n words offs) (inside : off < n) where
  pub noted_here : mark_of words off ≢ 0 → noted offs off ≡ offs
  noted_here s = noted_known offs off (have.are_marked.only off (λ z. s (sym (slot_at words n off inside) ∙ z)))

  pub noted_more : mark_of words off ≡ 0 → noted offs off ≡ offs ++ off ∷ []
  noted_more z = noted_new offs off (λ c. have.are_marked.marked off c (slot_at words n off inside ∙ z))

-- the number of an offset from its element
module _ {n : ℕ} {words offs before slots : List ℕ} (are : AreNumbered n words offs before) (view : slots_of words n ≡ slots) where
  pub slots_long : length slots ≡ n
  slots_long = ap (λ (l : List ℕ). length l) (sym view) ∙ slots_len words n

  pub slot_is_mark : (off : ℕ) → off < length slots → get_or slots off 0 ≡ mark_of words off
  slot_is_mark off h = ap (λ (l : List ℕ). get_or l off 0) (sym view) ∙ slot_at words n off (omega (arith, h, slots_long))

  pub word_inside : (off : ℕ) → off ≤ length slots → off / 64 < length words
  word_inside off h = omega (arith, h, slots_long, are.have_marks.whole)

  pub before_inside : (off : ℕ) → off ≤ length slots → off / 64 < length before
  before_inside off h = omega (arith, h, slots_long, are.are_counted.words, slots_len words n)

  pub number_read : (off w b : ℕ) → off ≤ length slots → w ≡ get_or words (off / 64) w → b ≡ get_or before (off / 64) b → b + count_ones (bit_and w (1 * 2 ^ (off % 64) % 2 ^ 64 - 1)) ≡ offset_number slots off
  number_read off w b h w_is b_is = grind (arith, get_or_read, lower_bits, number_in_word, slots_long)

-- the count in one element
pub number_whole : (words : List ℕ) (n word w : ℕ) → length words ≡ n / 64 + 1 → word < n / 64 → w ≡ get_or words word w → w < 2 ^ 64 →
    offset_number (slots_of words n) (64 * word + 64) ≡ offset_number (slots_of words n) (64 * word) + count_ones w
number_whole words n word w len h is fits = grind (arith, get_or_read, number_in_word)

-- what the search cites of marks and of their counts
pub ruleset marks = (slots_long, slot_is_mark, word_inside, before_inside, number_read)

-- what the search cites of an offset that is noted
pub ruleset note_cases = (noted_here, noted_more)

-- what the search cites of the counts of all elements
pub ruleset counts = (counted_none, counted_all, slots_len)
