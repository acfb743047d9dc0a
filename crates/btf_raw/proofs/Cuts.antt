-- A file can be cut in at most one way: its bytes determine the byte order and the lengths and offsets of the sections.
use Rattle.std.proofs.Common.{◌≡◌, ℕ, zero, suc, ◌+◌, ◌-◌, ◌*◌, ◌^◌, ◌<◌, ◌≤◌, List, [], ◌∷◌, ◌++◌, length, take, replicate, refl, sym, ap, subst, ◌∙◌, inl, inr, append_assoc, append-nil, length-append, lit<, arith}
use Rattle.std.specs.Prelude.{slice_index}
use Rattle.std.proofs.lemmas.List.{drop_at, take_at, length-replicate}
use Rattle.bpf_words.specs.{declared.Order.Order, declared.Order.TheVariants.Little, declared.Order.TheVariants.Big, Words.word16, Words.word32_at}
use Rattle.bpf_words.proofs.WordLemmas.{word32_at-append, length-word16}
use Rattle.btf_raw.specs.Frames.{bytes_of}
use Rattle.btf_raw.proofs.Frames.{IsWords, word32_at-bytes_of, length-bytes_of}
use Rattle.btf_raw.specs.Header.{Cut, header, part, types_at, strings_at, TYPES_LIMIT, STRINGS_LIMIT}

-- the header's fields after its first four bytes, and what follows
abbrev pub header_words : ℕ → ℕ → ℕ → ℕ → ℕ → List ℕ
header_words n a t c s = n ∷ a ∷ t ∷ c ∷ s ∷ []

abbrev pub first_four : Order → List ℕ
first_four o = word16 o 0xeb9f ++ (1 ∷ 0 ∷ [])

pub header_regrouped : (o : Order) (n a t c s : ℕ) (rest : List ℕ) → header o n a t c s ++ rest
    ≡ first_four o ++ (bytes_of o (header_words n a t c s) ++ (replicate (n - 24) 0 ++ rest))
header_regrouped o n a t c s rest = simp (append_assoc, append-nil)

pub length-first_four : (o : Order) → length (first_four o) ≡ 4
length-first_four o = length-append (word16 o 0xeb9f) (1 ∷ 0 ∷ []) ∙ rw (length-word16 o 0xeb9f) refl

pub length-header : (o : Order) (n a t c s : ℕ) → 24 ≤ n → length (header o n a t c s) ≡ n
length-header o n a t c s h =
    ap length (sym (append-nil (header o n a t c s)) ∙ header_regrouped o n a t c s [])
    ∙ rw (length-append (first_four o), length-first_four, length-append (bytes_of o (header_words n a t c s)), length-bytes_of, append-nil, length-replicate) (omega arith)

pub header_word : (o : Order) (n a t c s j : ℕ) (rest : List ℕ) → IsWords (header_words n a t c s) → j < 5 → word32_at o (header o n a t c s ++ rest) (4 + 4 * j) ≡ slice_index (header_words n a t c s) j
header_word o n a t c s j rest fit h =
    rw header_regrouped
    (subst (λ (k : ℕ). word32_at o (first_four o ++ (bytes_of o (header_words n a t c s) ++ (replicate (n - 24) 0 ++ rest))) (k + 4 * j) ≡ slice_index (header_words n a t c s) j) (length-first_four o)
    (word32_at-append o (first_four o) (bytes_of o (header_words n a t c s) ++ (replicate (n - 24) 0 ++ rest)) (4 * j)
    ∙ word32_at-bytes_of o (header_words n a t c s) (replicate (n - 24) 0 ++ rest) j fit h))

pub five_fit : (n a t c s : ℕ) → n < 2 ^ 32 → a < 2 ^ 32 → t < 2 ^ 32 → c < 2 ^ 32 → s < 2 ^ 32 → IsWords (header_words n a t c s)
five_fit n a t c s hn ha ht hc hs zero = hn
five_fit n a t c s hn ha ht hc hs (suc zero) = ha
five_fit n a t c s hn ha ht hc hs (suc (suc zero)) = ht
five_fit n a t c s hn ha ht hc hs (suc (suc (suc zero))) = hc
five_fit n a t c s hn ha ht hc hs (suc (suc (suc (suc zero)))) = hs
five_fit n a t c s hn ha ht hc hs (suc (suc (suc (suc (suc i))))) = lit< tt

-- the numbers of the header, read back
pub record CutReads (b : List ℕ) (o : Order) (types strings : List ℕ) : Type 0 where
  pub types_len : word32_at o b 12 ≡ length types
  pub str_len : word32_at o b 20 ≡ length strings
  pub types_are : types ≡ part b (types_at o b) (length types)
  pub strings_are : strings ≡ part b (strings_at o b) (length strings)

part_after : (b front x rest : List ℕ) (k : ℕ) → b ≡ front ++ (x ++ rest) → length front ≡ k → x ≡ part b k (length x)
part_after b front x rest k is len =
    rw is (sym (ap (λ (t : List ℕ). take (length x) t) (drop_at front (x ++ rest) k len) ∙ take_at x rest (length x) refl))

cut_reads_first : (b : List ℕ) (o : Order) (n : ℕ) (types strings : List ℕ) → 24 ≤ n → n ≤ 4096 → length types ≤ TYPES_LIMIT → length strings ≤ STRINGS_LIMIT
    → b ≡ header o n 0 (length types) (length types) (length strings) ++ types ++ strings → CutReads b o types strings
cut_reads_first b o n types strings low high t-fits s-fits is =
    let h = header o n 0 (length types) (length types) (length strings) in
    let whole : b ≡ h ++ (types ++ strings) = is ∙ append_assoc h types strings in
    let fit = five_fit n 0 (length types) (length types) (length strings) (omega arith) (omega arith) (omega arith) (omega arith) (omega arith) in
    let reads : (j : ℕ) → j < 5 → word32_at o b (4 + 4 * j) ≡ slice_index (header_words n 0 (length types) (length types) (length strings)) j =
    λ j lt. rw whole (header_word o n 0 (length types) (length types) (length strings) j (types ++ strings) fit lt) in
    let w4 : word32_at o b 4 ≡ n = reads 0 (lit< tt) in
    let w8 : word32_at o b 8 ≡ 0 = reads 1 (lit< tt) in
    let w16 : word32_at o b 16 ≡ length types = reads 3 (lit< tt) in
    let h-len : length h ≡ n = length-header o n 0 (length types) (length types) (length strings) low in
    record {
      types_len = reads 2 (lit< tt);
      str_len = reads 4 (lit< tt);
      types_are = part_after b h types strings (types_at o b) whole (omega arith);
      strings_are = part_after b (h ++ types) strings [] (strings_at o b) (is ∙ rw append-nil refl) (omega (arith, length-append h types));
    }

cut_reads_second : (b : List ℕ) (o : Order) (n : ℕ) (types strings : List ℕ) → 24 ≤ n → n ≤ 4096 → length types ≤ TYPES_LIMIT → length strings ≤ STRINGS_LIMIT
    → b ≡ header o n (length strings) (length types) 0 (length strings) ++ strings ++ types → CutReads b o types strings
cut_reads_second b o n types strings low high t-fits s-fits is =
    let h = header o n (length strings) (length types) 0 (length strings) in
    let whole : b ≡ h ++ (strings ++ types) = is ∙ append_assoc h strings types in
    let fit = five_fit n (length strings) (length types) 0 (length strings) (omega arith) (omega arith) (omega arith) (omega arith) (omega arith) in
    let reads : (j : ℕ) → j < 5 → word32_at o b (4 + 4 * j) ≡ slice_index (header_words n (length strings) (length types) 0 (length strings)) j =
    λ j lt. rw whole (header_word o n (length strings) (length types) 0 (length strings) j (strings ++ types) fit lt) in
    let w4 : word32_at o b 4 ≡ n = reads 0 (lit< tt) in
    let w8 : word32_at o b 8 ≡ length strings = reads 1 (lit< tt) in
    let w16 : word32_at o b 16 ≡ 0 = reads 3 (lit< tt) in
    let h-len : length h ≡ n = length-header o n (length strings) (length types) 0 (length strings) low in
    record {
      types_len = reads 2 (lit< tt);
      str_len = reads 4 (lit< tt);
      types_are = part_after b (h ++ strings) types [] (types_at o b) (is ∙ rw append-nil refl) (omega (arith, length-append h strings));
      strings_are = part_after b h strings types (strings_at o b) whole (omega arith);
    }

pub cut_reads : (b : List ℕ) (o : Order) (types strings : List ℕ) → Cut b o types strings → CutReads b o types strings
cut_reads b o types strings cut = elim cut.parts [
  | inl is ↦ cut_reads_first b o cut.header_len types strings cut.at_least cut.at_most cut.types_fit cut.strings_fit is
  | inr is ↦ cut_reads_second b o cut.header_len types strings cut.at_least cut.at_most cut.types_fit cut.strings_fit is
]

-- the first byte determines the order
abbrev first_byte : Order → ℕ
first_byte Little = 0x9f
first_byte Big = 0xeb

begins : (b : List ℕ) (o : Order) (types strings : List ℕ) → Cut b o types strings → slice_index b 0 ≡ first_byte o
begins b Little types strings cut = elim cut.parts [ inl is ↦ ap (λ (t : List ℕ). slice_index t 0) is | inr is ↦ ap (λ (t : List ℕ). slice_index t 0) is ]
begins b Big types strings cut = elim cut.parts [ inl is ↦ ap (λ (t : List ℕ). slice_index t 0) is | inr is ↦ ap (λ (t : List ℕ). slice_index t 0) is ]

same_order : (o p : Order) → first_byte o ≡ first_byte p → o ≡ p
same_order Little Little e = refl
same_order Little Big e = absurd (omega arith)
same_order Big Little e = absurd (omega arith)
same_order Big Big e = refl

pub record SameCut (o p : Order) (t s t' s' : List ℕ) : Type 0 where
  pub order : o ≡ p
  pub types : t ≡ t'
  pub strings : s ≡ s'

pub cut_unique : (b : List ℕ) (o p : Order) (types strings types' strings' : List ℕ) → Cut b o types strings → Cut b p types' strings' → SameCut o p types strings types' strings'
cut_unique b o p types strings types' strings' one other =
    let order : o ≡ p = same_order o p (sym (begins b o types strings one) ∙ begins b p types' strings' other) in
    let a = cut_reads b o types strings one in
    let c = cut_reads b p types' strings' other in
    let t-len : length types ≡ length types' = sym a.types_len ∙ rw order c.types_len in
    let s-len : length strings ≡ length strings' = sym a.str_len ∙ rw order c.str_len in
    record {
      order = order;
      types = a.types_are ∙ rw (order, t-len) (sym c.types_are);
      strings = a.strings_are ∙ rw (order, s-len) (sym c.strings_are);
    }
