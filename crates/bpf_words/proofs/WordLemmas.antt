-- A 16- or 32-bit number and its bytes determine each other.
use Rattle.std.proofs.Common.{◌≡◌, ℕ, ◌+◌, ◌^◌, ◌<◌, ◌≤◌, List, ◌++◌, length, take, drop, refl, sym, ap, ◌∙◌, add-zero, add_assoc, inl, inr, lit<, arith}
use Rattle.std.proofs.lemmas.{List.length-take, List.length-drop, List.get_or-take, List.get_or-drop, List.get_or_past, List.drop_at, Bool.cases_lt}
use Rattle.std.proofs.lemmas.Nat.{le_bytes_2, be_bytes_2, le_bytes_4, be_bytes_4, from_le_bytes-to_le_bytes_4, from_be_bytes-to_be_bytes_4}
use Rattle.std.proofs.lemmas.Int.{of_z-to_z}
use Rattle.std.specs.Int.{w16, w32, cast_signed, cast_unsigned}
use Rattle.bpf_words.specs.declared.Order.{Order, TheVariants.Little, TheVariants.Big}
use Rattle.bpf_words.specs.Words.{IsBytes, word16, word32, word16_at, word32_at}

pub IsBytes-drop : (n : ℕ) (b : List ℕ) → IsBytes b → IsBytes (drop n b)
IsBytes-drop n b h i = rw get_or-drop (h (n + i))

pub IsBytes-take : (n : ℕ) (b : List ℕ) → IsBytes b → IsBytes (take n b)
IsBytes-take n b h i =
    elim (cases_lt i n) [
      | inl lt ↦ rw (get_or-take n b i 0 lt) (h i)
      | inr le ↦ rw (get_or_past (take n b) i 0 (omega (arith, length-take n b))) (omega arith)
    ]

pub length-word32 : (o : Order) (w : ℕ) → length (word32 o w) ≡ 4
length-word32 Little w = refl
length-word32 Big w = refl

pub length-word16 : (o : Order) (w : ℕ) → length (word16 o w) ≡ 2
length-word16 Little w = refl
length-word16 Big w = refl

-- the number at i, in bytes that follow others
pub word32_at-drop : (o : Order) (b : List ℕ) (n i : ℕ) → word32_at o (drop n b) i ≡ word32_at o b (n + i)
word32_at-drop Little b n i = simp (get_or-drop, add_assoc)
word32_at-drop Big b n i = simp (get_or-drop, add_assoc)

pub word32_at-append : (o : Order) (xs ys : List ℕ) (i : ℕ) → word32_at o (xs ++ ys) (length xs + i) ≡ word32_at o ys i
word32_at-append o xs ys i = sym (word32_at-drop o (xs ++ ys) (length xs) i) ∙ rw (drop_at xs ys (length xs) refl) refl

pub word32_at-below : (o : Order) (b : List ℕ) (i : ℕ) → IsBytes b → word32_at o b i < 2 ^ 32
word32_at-below Little b i h = omega (arith, h i, h (i + 1), h (i + 2), h (i + 3))
word32_at-below Big b i h = omega (arith, h i, h (i + 1), h (i + 2), h (i + 3))

-- bytes that begin with those of a number read as it
pub word32_at-word32 : (o : Order) (w : ℕ) (rest : List ℕ) → w < 2 ^ 32 → word32_at o (word32 o w ++ rest) 0 ≡ w
word32_at-word32 Little w rest h = omega (arith, from_le_bytes-to_le_bytes_4 w h)
word32_at-word32 Big w rest h = omega (arith, from_be_bytes-to_be_bytes_4 w h)

-- four bytes are those of the number that they read as
word32_of_four : (o : Order) (bs : List ℕ) → length bs ≡ 4 → IsBytes bs → word32 o (word32_at o bs 0) ≡ bs
word32_of_four Little bs n h = le_bytes_4 bs _ n h (omega arith)
word32_of_four Big bs n h = be_bytes_4 bs _ n h (omega arith)

word32_at-take : (o : Order) (bs : List ℕ) → word32_at o (take 4 bs) 0 ≡ word32_at o bs 0
word32_at-take Little bs = omega (arith, get_or-take 4 bs 0 0 (lit< tt), get_or-take 4 bs 1 0 (lit< tt), get_or-take 4 bs 2 0 (lit< tt), get_or-take 4 bs 3 0 (lit< tt))
word32_at-take Big bs = omega (arith, get_or-take 4 bs 0 0 (lit< tt), get_or-take 4 bs 1 0 (lit< tt), get_or-take 4 bs 2 0 (lit< tt), get_or-take 4 bs 3 0 (lit< tt))

pub word32-word32_at : (o : Order) (b : List ℕ) (i : ℕ) → IsBytes b → i + 4 ≤ length b → word32 o (word32_at o b i) ≡ take 4 (drop i b)
word32-word32_at o b i h n =
    let same : word32_at o (take 4 (drop i b)) 0 ≡ word32_at o b i = word32_at-take o (drop i b) ∙ word32_at-drop o b i 0 ∙ rw add-zero refl in
    ap (λ (w : ℕ). word32 o w) (sym same)
    ∙ word32_of_four o (take 4 (drop i b)) (omega (arith, length-take 4 (drop i b), length-drop i b)) (IsBytes-take 4 (drop i b) (IsBytes-drop i b h))

word16_of_two : (o : Order) (bs : List ℕ) → length bs ≡ 2 → IsBytes bs → word16 o (word16_at o bs 0) ≡ bs
word16_of_two Little bs n h = le_bytes_2 bs _ n h (omega arith)
word16_of_two Big bs n h = be_bytes_2 bs _ n h (omega arith)

pub word16-word16_at : (o : Order) (b : List ℕ) → IsBytes b → 2 ≤ length b → word16 o (word16_at o b 0) ≡ take 2 b
word16-word16_at Little b h n =
    let same : word16_at Little (take 2 b) 0 ≡ word16_at Little b 0 = omega (arith, get_or-take 2 b 0 0 (lit< tt), get_or-take 2 b 1 0 (lit< tt)) in
    ap (λ (w : ℕ). word16 Little w) (sym same) ∙ word16_of_two Little (take 2 b) (omega (arith, length-take 2 b)) (IsBytes-take 2 b h)
word16-word16_at Big b h n =
    let same : word16_at Big (take 2 b) 0 ≡ word16_at Big b 0 = omega (arith, get_or-take 2 b 0 0 (lit< tt), get_or-take 2 b 1 0 (lit< tt)) in
    ap (λ (w : ℕ). word16 Big w) (sym same) ∙ word16_of_two Big (take 2 b) (omega (arith, length-take 2 b)) (IsBytes-take 2 b h)

-- two and four bytes are those of the signed number that they read as
pub signed16 : (o : Order) (bs : List ℕ) → length bs ≡ 2 → IsBytes bs → word16 o (cast_unsigned w16 (cast_signed w16 (word16_at o bs 0))) ≡ bs
signed16 Little bs n h = rw (of_z-to_z w16 (word16_at Little bs 0) (omega (arith, h 0, h 1))) (word16_of_two Little bs n h)
signed16 Big bs n h = rw (of_z-to_z w16 (word16_at Big bs 0) (omega (arith, h 0, h 1))) (word16_of_two Big bs n h)

pub signed32 : (o : Order) (bs : List ℕ) → length bs ≡ 4 → IsBytes bs → word32 o (cast_unsigned w32 (cast_signed w32 (word32_at o bs 0))) ≡ bs
signed32 o bs n h = rw (of_z-to_z w32 (word32_at o bs 0) (word32_at-below o bs 0 h)) (word32_of_four o bs n h)
