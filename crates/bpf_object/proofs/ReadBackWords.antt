-- Bytes that stand at an offset of others, and the numbers that they encode there.
use Rattle.std.proofs.Common.{◌≡◌, ℕ, ◌+◌, ◌^◌, ◌<◌, ◌≤◌, List, [], ◌++◌, length, take, drop, refl, sym, ap, ◌∙◌, add_assoc, append-nil, append_assoc, length-append, arith}
use Rattle.std.specs.Prelude.{slice_index}
use Rattle.std.proofs.lemmas.List.{drop_at, take_at, get_or-append-add, get_or_append_left}
use Rattle.std.proofs.lemmas.Nat.{from_le_bytes-to_le_bytes_2, from_be_bytes-to_be_bytes_2, from_le_bytes-to_le_bytes_8, from_be_bytes-to_be_bytes_8}
use Rattle.bpf_words.specs.{declared.Order.Order, declared.Order.TheVariants.Little, declared.Order.TheVariants.Big}
use Rattle.bpf_words.specs.Words.{word16, word32, word16_at, word32_at}
use Rattle.bpf_words.proofs.WordLemmas.{word32_at-word32, word32_at-append}
use Rattle.bpf_elf.specs.Numbers.{word64_at}
use Rattle.bpf_object.specs.File.{word64}

pub length-word64 : (o : Order) (w : ℕ) → length (word64 o w) ≡ 8
length-word64 Little w = refl
length-word64 Big w = refl

-- bytes that begin with those of a number read as it
pub word16_at-word16 : (o : Order) (w : ℕ) (rest : List ℕ) → w < 2 ^ 16 → word16_at o (word16 o w ++ rest) 0 ≡ w
word16_at-word16 Little w rest h = omega (arith, from_le_bytes-to_le_bytes_2 w h)
word16_at-word16 Big w rest h = omega (arith, from_be_bytes-to_be_bytes_2 w h)

pub word64_at-word64 : (o : Order) (w : ℕ) (rest : List ℕ) → w < 2 ^ 64 → word64_at o (word64 o w ++ rest) 0 ≡ w
word64_at-word64 Little w rest h = omega (arith, from_le_bytes-to_le_bytes_8 w h)
word64_at-word64 Big w rest h = omega (arith, from_be_bytes-to_be_bytes_8 w h)

-- the same at an offset, after bytes that are read past
word16_at-append : (o : Order) (xs ys : List ℕ) (i : ℕ) → word16_at o (xs ++ ys) (length xs + i) ≡ word16_at o ys i
word16_at-append Little xs ys i = simp (add_assoc, get_or-append-add)
word16_at-append Big xs ys i = simp (add_assoc, get_or-append-add)

word64_at-append : (o : Order) (xs ys : List ℕ) (i : ℕ) → word64_at o (xs ++ ys) (length xs + i) ≡ word64_at o ys i
word64_at-append Little xs ys i = simp (add_assoc, get_or-append-add)
word64_at-append Big xs ys i = simp (add_assoc, get_or-append-add)

-- ---- bytes at an offset

-- these bytes stand at an offset of others
pub record HasBytes (b : List ℕ) (place : ℕ) (xs : List ℕ) : Type 0 where
  pub front : List ℕ
  pub back : List ℕ
  pub whole : b ≡ front ++ (xs ++ back)
  pub before : length front ≡ place

-- the same at an equal offset
pub has_at : (b : List ℕ) (i j : ℕ) (xs : List ℕ) → HasBytes b i xs → i ≡ j → HasBytes b j xs
has_at b i j xs h e = record { front = h.front; back = h.back; whole = h.whole; before = h.before ∙ e }

pub has_same : (b : List ℕ) (i : ℕ) (xs ys : List ℕ) → HasBytes b i xs → xs ≡ ys → HasBytes b i ys
has_same b i xs ys h e = record { front = h.front; back = h.back; whole = h.whole ∙ ap (λ (t : List ℕ). h.front ++ (t ++ h.back)) e; before = h.before }

-- or of equal bytes
pub has_of : (b c : List ℕ) (i : ℕ) (xs : List ℕ) → b ≡ c → HasBytes c i xs → HasBytes b i xs
has_of b c i xs e h = record { front = h.front; back = h.back; whole = e ∙ h.whole; before = h.before }

-- bytes are there at 0
pub has_all : (b : List ℕ) → HasBytes b 0 b
has_all b = record { front = []; back = []; whole = sym (append-nil b); before = refl }

-- the first bytes and the others
pub has_first : (b : List ℕ) (i : ℕ) (xs ys : List ℕ) → HasBytes b i (xs ++ ys) → HasBytes b i xs
has_first b i xs ys h = record {
  front = h.front;
  back = ys ++ h.back;
  whole = h.whole ∙ ap (λ (t : List ℕ). h.front ++ t) (append_assoc xs ys h.back);
  before = h.before;
}

pub has_rest : (b : List ℕ) (i n : ℕ) (xs ys : List ℕ) → HasBytes b i (xs ++ ys) → length xs ≡ n → HasBytes b (i + n) ys
has_rest b i n xs ys h size = record {
  front = h.front ++ xs;
  back = h.back;
  whole = h.whole ∙ ap (λ (t : List ℕ). h.front ++ t) (append_assoc xs ys h.back) ∙ sym (append_assoc h.front xs (ys ++ h.back));
  before = let it = h.before in omega (arith, length-append h.front xs);
}

-- bytes of bytes
pub has_within : (b : List ℕ) (i j : ℕ) (xs ys : List ℕ) → HasBytes b i xs → HasBytes xs j ys → HasBytes b (i + j) ys
has_within b i j xs ys outer inner =
    has_first b (i + j) ys inner.back (has_rest b i j inner.front (ys ++ inner.back) (has_same b i xs (inner.front ++ (ys ++ inner.back)) outer inner.whole) inner.before)

-- they are inside
pub has_inside : (b : List ℕ) (i : ℕ) (xs : List ℕ) → HasBytes b i xs → i + length xs ≤ length b
has_inside b i xs h =
    let it = h.before in
    omega (arith, ap length h.whole, length-append h.front (xs ++ h.back), length-append xs h.back)

-- cut out
pub has_part : (b : List ℕ) (i : ℕ) (xs : List ℕ) → HasBytes b i xs → take (length xs) (drop i b) ≡ xs
has_part b i xs h =
    ap (λ (t : List ℕ). take (length xs) (drop i t)) h.whole
    ∙ ap (λ (t : List ℕ). take (length xs) t) (drop_at h.front (xs ++ h.back) i h.before) ∙ take_at xs h.back (length xs) refl

-- ---- the numbers there

-- a reader of a number reads past what precedes it
number_there : (read : List ℕ → ℕ → ℕ) (b : List ℕ) (i v : ℕ) (xs : List ℕ) → ((x y : List ℕ) (j : ℕ) → read (x ++ y) (length x + j) ≡ read y j)
    → ((rest : List ℕ) → read (xs ++ rest) 0 ≡ v) → HasBytes b i xs → read b i ≡ v
number_there read b i v xs past reads h =
    let place : i ≡ length h.front + 0 = let it = h.before in omega arith in
    ap (λ (t : List ℕ). read t i) h.whole ∙ ap (λ (j : ℕ). read (h.front ++ (xs ++ h.back)) j) place
    ∙ past h.front (xs ++ h.back) 0 ∙ reads h.back

pub read_16 : (o : Order) (b : List ℕ) (i v : ℕ) → HasBytes b i (word16 o v) → v < 2 ^ 16 → word16_at o b i ≡ v
read_16 o b i v h small = number_there (word16_at o) b i v (word16 o v) (word16_at-append o) (λ rest. word16_at-word16 o v rest small) h

pub read_32 : (o : Order) (b : List ℕ) (i v : ℕ) → HasBytes b i (word32 o v) → v < 2 ^ 32 → word32_at o b i ≡ v
read_32 o b i v h small = number_there (word32_at o) b i v (word32 o v) (word32_at-append o) (λ rest. word32_at-word32 o v rest small) h

pub read_64 : (o : Order) (b : List ℕ) (i v : ℕ) → HasBytes b i (word64 o v) → v < 2 ^ 64 → word64_at o b i ≡ v
read_64 o b i v h small = number_there (word64_at o) b i v (word64 o v) (word64_at-append o) (λ rest. word64_at-word64 o v rest small) h

pub read_byte : (b : List ℕ) (i j : ℕ) (xs : List ℕ) → HasBytes b i xs → j < length xs → slice_index b (i + j) ≡ slice_index xs j
read_byte b i j xs h inside =
    let place : i + j ≡ length h.front + j = let it = h.before in omega arith in
    ap (λ (t : List ℕ). slice_index t (i + j)) h.whole ∙ ap (λ (k : ℕ). slice_index (h.front ++ (xs ++ h.back)) k) place
    ∙ get_or-append-add h.front (xs ++ h.back) j 0 ∙ get_or_append_left xs h.back 0 j inside
