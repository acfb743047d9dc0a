-- The list of tokens of a line is unique.
use Rattle.std.proofs.Common.{◌≡◌, ℕ, ◌+◌, ◌<◌, Bool, true, false, cond, List, [], ◌∷◌, ◌++◌, inl, inr, length, take, drop, refl, sym, ap, ◌∙◌, arith, append_assoc}
use Rattle.std.specs.List.{list_all, prefix_len}
use Rattle.std.proofs.lemmas.{Bool.and_parts, Bool.Decides.nat_tests, List.Folds.list_all-append}
use Rattle.std.proofs.Math.Seq.{take-append_seam, drop-append_seam}
use Rattle.bpf_text.specs.insn.Tokens.{is_blank, is_word_byte, is_symbol, BeginsWithWordByte, IsTokenBefore, StartsWithToken, AreTokens}

blank_word : (b : ℕ) → is_blank b ≡ true → is_word_byte b ≡ true → ⊥
blank_word b h k = grind (arith, nat_tests)

blank_symbol : (b : ℕ) → is_blank b ≡ true → is_symbol b ≡ true → ⊥
blank_symbol b h k = grind (arith, nat_tests)

word_symbol : (b : ℕ) → is_word_byte b ≡ true → is_symbol b ≡ true → ⊥
word_symbol b h k = grind (arith, nat_tests)

-- the test fails at the first element, if there is one
abbrev FailsFirst : (ℕ → Bool) → List ℕ → Type 0
FailsFirst p [] = Unit {0}
FailsFirst p (x ∷ xs) = p x ≡ true → ⊥

-- a prefix that passes, before an element that fails, is the longest
front_len : (p : ℕ → Bool) (xs ys : List ℕ) → list_all p xs ≡ true → FailsFirst p ys → prefix_len p (xs ++ ys) ≡ length xs
front_len p [] [] h f = refl
front_len p [] (y ∷ ys) h f = at_test (p y) refl
  where
    at_test : (b : Bool) → p y ≡ b → cond (p y) (1 + prefix_len p ys) 0 ≡ 0
    at_test true e = absurd (f e)
    at_test false e = rw e refl
front_len p (x ∷ xs) ys h f =
    let passed = and_parts (p x) (list_all p xs) h in
    rw (passed.0, front_len p xs ys passed.1 f) (omega arith)

token_no_blank : (token rest : List ℕ) → IsTokenBefore token rest → FailsFirst is_blank (token ++ rest)
token_no_blank [] rest (inl w) = absurd (w.0 refl)
token_no_blank [] rest (inr w) = cc
token_no_blank (b ∷ token) rest (inl w) = λ h. blank_word b h (and_parts (is_word_byte b) (list_all is_word_byte token) w.1).0
token_no_blank (b ∷ token) rest (inr w) = λ h. blank_symbol b h (let e : b ≡ w.0 = cc in rw e w.2)

ends_word : (rest : List ℕ) → ¬ BeginsWithWordByte rest → FailsFirst is_word_byte rest
ends_word [] h = tt
ends_word (b ∷ rest) h = h

-- two tokens at the start of the same bytes have the same length
same_length : (t u r s : List ℕ) → t ++ r ≡ u ++ s → IsTokenBefore t r → IsTokenBefore u s → length t ≡ length u
same_length t u r s e (inl h) (inl k) =
    sym (front_len is_word_byte t r h.1 (ends_word r h.2)) ∙ ap (prefix_len is_word_byte) e ∙ front_len is_word_byte u s k.1 (ends_word s k.2)
same_length [] u r s e (inl h) (inr k) = absurd (h.0 refl)
same_length (b ∷ t) u r s e (inl h) (inr k) =
    let same : b ≡ k.0 = cc in
    absurd (word_symbol b (and_parts (is_word_byte b) (list_all is_word_byte t) h.1).0 (rw same k.2))
same_length t [] r s e (inr h) (inl k) = absurd (k.0 refl)
same_length t (b ∷ u) r s e (inr h) (inl k) =
    let same : b ≡ h.0 = cc in
    absurd (word_symbol b (and_parts (is_word_byte b) (list_all is_word_byte u) k.1).0 (rw same h.2))
same_length t u r s e (inr h) (inr k) = ap length h.1 ∙ sym (ap length k.1)

same_fronts : (t u r s : List ℕ) → t ++ r ≡ u ++ s → length t ≡ length u → (t ≡ u) × (r ≡ s)
same_fronts t u r s e l = (
  sym (take-append_seam t r) ∙ ap (take (length t)) e ∙ ap (λ n. take n (u ++ s)) l ∙ take-append_seam u s,
  sym (drop-append_seam t r) ∙ ap (drop (length t)) e ∙ ap (λ n. drop n (u ++ s)) l ∙ drop-append_seam u s,
)

pub one_start : (bytes t r u s : List ℕ) → StartsWithToken bytes t r → StartsWithToken bytes u s → (t ≡ u) × (r ≡ s)
one_start bytes t r u s h k =
    let e : bytes ≡ h.blanks ++ (t ++ r) = h.whole ∙ append_assoc h.blanks t r in
    let f : bytes ≡ k.blanks ++ (u ++ s) = k.whole ∙ append_assoc k.blanks u s in
    let l : length h.blanks ≡ length k.blanks =
    sym (front_len is_blank h.blanks (t ++ r) h.blank (token_no_blank t r h.longest)) ∙ ap (prefix_len is_blank) (sym e ∙ f) ∙ front_len is_blank k.blanks (u ++ s) k.blank (token_no_blank u s k.longest) in
    let following : t ++ r ≡ u ++ s = (same_fronts h.blanks k.blanks (t ++ r) (u ++ s) (sym e ∙ f) l).1 in
    same_fronts t u r s following (same_length t u r s following h.longest k.longest)

-- bytes that are all blank don't start with a token
pub none_or_some : (bytes t r : List ℕ) → list_all is_blank bytes ≡ true → StartsWithToken bytes t r → ⊥
none_or_some bytes t r all s = first_fails (t ++ r) (has_bytes t r s.longest) (token_no_blank t r s.longest) following
  where
    following : list_all is_blank (t ++ r) ≡ true
    following = (and_parts (list_all is_blank s.blanks) (list_all is_blank (t ++ r)) (sym (list_all-append is_blank s.blanks (t ++ r)) ∙ ap (list_all is_blank) (sym (s.whole ∙ append_assoc s.blanks t r)) ∙ all)).1

    first_fails : (xs : List ℕ) → 0 < length xs → FailsFirst is_blank xs → list_all is_blank xs ≡ true → ⊥
    first_fails [] h f e = omega arith
    first_fails (x ∷ xs) h f e = f (and_parts (is_blank x) (list_all is_blank xs) e).0

    has_bytes : (u v : List ℕ) → IsTokenBefore u v → 0 < length (u ++ v)
    has_bytes [] v (inl w) = absurd (w.0 refl)
    has_bytes [] v (inr w) = cc
    has_bytes (b ∷ u) v w = omega arith

pub one_tokens : (bytes : List ℕ) (ts us : List (List ℕ)) → AreTokens bytes ts → AreTokens bytes us → ts ≡ us
one_tokens bytes [] [] h k = refl
one_tokens bytes [] (u ∷ us) h k = absurd (none_or_some bytes u k.0 h k.1)
one_tokens bytes (t ∷ ts) [] h k = absurd (none_or_some bytes t h.0 k h.1)
one_tokens bytes (t ∷ ts) (u ∷ us) h k =
    let same = one_start bytes t h.0 u k.0 h.1 k.1 in
    let more : ts ≡ us = one_tokens h.0 ts us h.2 (rw same.1 k.2) in
    cc
