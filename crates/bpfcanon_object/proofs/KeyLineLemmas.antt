-- No two keys or names have the same line, and what a line is split into.
use Rattle.std.proofs.Common.{◌≡◌, ◌<◌, ◌/◌, ◌++◌, ℕ, Bool, true, false, List, [], ◌∷◌, zero, suc, ◌%◌, Bor, append_assoc, Option, MatchOption, Some, is_some, Result, Ok, refl, sym, ap, ◌∙◌, arith, cond, codes, length, drop, slice_index}
use Rattle.std.specs.Result.{result_unwrap_or}
use Rattle.std.specs.Str.{IsUtf8, bytes_eq}
use Rattle.std.proofs.lemmas.List.{append_cancel_right}
use Rattle.std.proofs.lemmas.Str.Pattern.{IsSplitOnceResult, split_after}
use Rattle.hex.specs.declared.error.FromHexError.{FromHexError}
use Rattle.hex.specs.Hex.{IsBytes, decode_sized, encode_lower, encode_with, hex_digit_value, lower_digits}
use Rattle.hex.proofs.HexLemmas.{IsDigits-lower_digits, decode_sized-encode_lower, decode_of-encode_lower, decode_of-same, length-encode_with}
use Rattle.bpfcanon_object.specs.Escape.{escaped, mark}
use Rattle.bpfcanon_object.specs.KeyLines.{key_line}
use Rattle.bpfcanon_object.specs.Lines.{newline}
use Rattle.bpfcanon_object.proofs.TextLemmas.{escaped-same}

split-same : (xs ys zs ws : List ℕ) → length xs ≡ length ys → xs ++ zs ≡ ys ++ ws → (xs ≡ ys) × (zs ≡ ws)
split-same [] [] zs ws l e = (refl, e)
split-same [] (y ∷ ys) zs ws l e = absurd (omega (arith, l))
split-same (x ∷ xs) [] zs ws l e = absurd (omega (arith, l))
split-same (x ∷ xs) (y ∷ ys) zs ws l e =
    let head : x ≡ y = ap (λ t. slice_index t 0) e in
    let tail : xs ++ zs ≡ ys ++ ws = ap (drop 1) e in
    let rest = split-same xs ys zs ws (omega (arith, l)) tail in
    (rw (head, rest.0) refl, rest.1)

-- a text that doesn't begin with a backslash shows whether there is one before it
mark-same : (b c : Bool) (xs ys : List ℕ) → (slice_index xs 0 ≡ 92 → ⊥) → (slice_index ys 0 ≡ 92 → ⊥)
    → cond b [] (codes "\\") ++ xs ≡ cond c [] (codes "\\") ++ ys → xs ≡ ys
mark-same true true xs ys p q e = e
mark-same true false xs ys p q e = absurd (p (ap (λ t. slice_index t 0) e))
mark-same false true xs ys p q e = absurd (q (sym (ap (λ t. slice_index t 0) e)))
mark-same false false xs ys p q e = ap (drop 1) e

-- a character that has no value is no digit
digit-not : (x d : ℕ) → is_some (hex_digit_value x) ≡ false → d < 16 → slice_index lower_digits d ≡ x → ⊥
digit-not x d none h e =
    let value : hex_digit_value x ≡ Some d = ap hex_digit_value (sym e) ∙ IsDigits-lower_digits d h in
    cc (sym none ∙ ap is_some value)

digits-no_backslash : (k rest : List ℕ) → IsBytes k → 0 < length k → slice_index (encode_lower k ++ rest) 0 ≡ 92 → ⊥
unfolding encode_with
digits-no_backslash [] rest h l e = absurd (omega (arith, l))
digits-no_backslash (b ∷ k) rest h l e =
    let small : b < 256 = h 0 in
    digit-not 92 (b / 16) refl (omega arith) e

digits-no_blank : (k : List ℕ) → IsBytes k → (i : ℕ) → i < length (encode_lower k) → slice_index (encode_lower k) i ≡ 32 → ⊥
unfolding encode_with
digits-no_blank [] h i l e = absurd (omega (arith, l))
digits-no_blank (b ∷ k) h zero l e = let small : b < 256 = h 0 in digit-not 32 (b / 16) refl (omega arith) e
digits-no_blank (b ∷ k) h (suc zero) l e = let small : b < 256 = h 0 in digit-not 32 (b % 16) refl (omega arith) e
digits-no_blank (b ∷ k) h (suc (suc i)) l e = digits-no_blank k (λ j. h (suc j)) i (omega (arith, l)) e

-- what is behind the mark
body-same : (k l m n : List ℕ) → IsBytes k → IsBytes l → length k ≡ length l → IsUtf8 m → IsUtf8 n
    → encode_lower k ++ (codes "  " ++ (escaped m ++ newline)) ≡ encode_lower l ++ (codes "  " ++ (escaped n ++ newline))
    → (k ≡ l) × (m ≡ n)
body-same k l m n hk hl len um un e =
    let lk = length-encode_with lower_digits k in
    let ll = length-encode_with lower_digits l in
    let parts = split-same (encode_lower k) (encode_lower l) _ _ (omega (arith, lk, ll, len)) e in
    let texts : escaped m ++ newline ≡ escaped n ++ newline = ap (drop 2) parts.1 in
    let same : escaped m ≡ escaped n = append_cancel_right (escaped m) (escaped n) newline texts in
    let decoded = rw (← parts.0) at (decode_of-encode_lower l hl) in
    (decode_of-same (encode_lower k) k l (decode_of-encode_lower k hk) decoded, escaped-same m n um un same)

pub key_line-same : (k l m n : List ℕ) → IsBytes k → IsBytes l → length k ≡ 32 → length l ≡ 32 → IsUtf8 m → IsUtf8 n
    → key_line k m ≡ key_line l n → (k ≡ l) × (m ≡ n)
key_line-same k l m n hk hl lk ll um un e =
    body-same k l m n hk hl (lk ∙ sym ll) um un
    (mark-same (bytes_eq (escaped m) m) (bytes_eq (escaped n) n) _ _
    (digits-no_backslash k _ hk (omega (arith, lk))) (digits-no_backslash l _ hl (omega (arith, ll))) e)

-- a line without its mark and its newline
abbrev pub body : List ℕ → List ℕ → List ℕ
body key name = encode_lower key ++ (32 ∷ 32 ∷ escaped name)

pub body-begins : (key name : List ℕ) → IsBytes key → length key ≡ 32 → slice_index (body key name) 0 ≡ 92 → ⊥
body-begins key name h len = digits-no_backslash key (32 ∷ 32 ∷ escaped name) h (omega (arith, len))

pub line-body : (key name line : List ℕ) → key_line key name ≡ line ++ newline → line ≡ mark name ++ body key name
line-body key name line e =
    let tail : (mark name ++ body key name) ++ newline ≡ key_line key name = rw (append_assoc (mark name) (body key name) newline, append_assoc (encode_lower key) (32 ∷ 32 ∷ escaped name) newline) refl in
    append_cancel_right line (mark name ++ body key name) newline (sym e ∙ sym tail)

pub body-split : (key name text : List ℕ) (r : Option (Bor (List ℕ) × Bor (List ℕ))) → IsBytes key → text ≡ body key name → IsSplitOnceResult 32 text r
    → MatchOption r ⊥ (λ x. (x.0.now ≡ encode_lower key) × (x.1.now ≡ 32 ∷ escaped name))
body-split key name text r h e cases = split_after 32 text (encode_lower key) (32 ∷ escaped name) r cases (omega arith) e (digits-no_blank key h)

pub key-decoded : (key own text : List ℕ) → IsBytes key → length key ≡ 32 → text ≡ encode_lower key → decode_sized text 32 ≡ Ok own → own ≡ key
key-decoded key own text h len e decoded =
    let again : decode_sized text 32 ≡ Ok key = rw e (decode_sized-encode_lower key 32 len h) in
    ap (λ (r : Result (List ℕ) FromHexError). result_unwrap_or r []) (sym decoded ∙ again)
