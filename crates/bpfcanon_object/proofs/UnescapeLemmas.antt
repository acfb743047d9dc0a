-- What a text of a name begins with.
use Rattle.std.proofs.Common.{◌≡◌, ◌==◌, ◌<◌, ◌++◌, ◌⊎◌, inl, inr, ℕ, true, false, List, [], ◌∷◌, refl, sym, ap, ◌∙◌, arith, codes, length, length-append, drop, flat_map, append_assoc}
use Rattle.std.specs.Prelude.{encode_utf8, encode_utf8_all, Option, Some, None, SomeIff}
use Rattle.std.specs.Fmt.{digit_glyph}
use Rattle.std.specs.Char.{digit_value}
use Rattle.std.proofs.lemmas.Str.{encode_ascii, encode_same, length-encode, len_utf8_bounds}
use Rattle.bpfcanon_object.specs.Escape.{escaped_char, is_control, is_format, numbered, numbered_format, six_digits, two_digits}
use Rattle.bpfcanon_object.proofs.TextLemmas.{by_cond}

equal : (m n : ℕ) → (m == n) ≡ true → m ≡ n
equal m n h = grind arith

unequal : (m n : ℕ) → (m == n) ≡ false → m ≡ n → ⊥
unequal m n h e = grind arith

-- the five escapes
abbrev pub Escape : ℕ → List ℕ → List ℕ → Type 0
Escape c rest behind =
    ((c ≡ 92) × (rest ≡ 92 ∷ behind)) ⊎
    (((c ≡ 10) × (rest ≡ 110 ∷ behind)) ⊎
    (((c ≡ 13) × (rest ≡ 114 ∷ behind)) ⊎
    (((is_control c ≡ true) × (rest ≡ 120 ∷ (two_digits c ++ behind))) ⊎
    ((is_format c ≡ true) × (rest ≡ 117 ∷ (123 ∷ (six_digits c ++ (125 ∷ behind))))))))

wide_behind : (c : ℕ) (behind : List ℕ) → drop 1 (numbered_format c ++ behind) ≡ 117 ∷ (123 ∷ (six_digits c ++ (125 ∷ behind)))
wide_behind c behind = refl

-- what is behind a backslash
pub escape_at : (c : ℕ) (rest behind : List ℕ) → 92 ∷ rest ≡ escaped_char c ++ behind → Escape c rest behind
unfolding lib.Utf8.encode
escape_at c rest behind =
    let Q : List ℕ → Type 0 = λ p. 92 ∷ rest ≡ p ++ behind → Escape c rest behind in
    by_cond Q (c == 92) (codes "\\\\") _ (λ h e. inl (equal c 92 h, ap (drop 1) e)) (λ n.
    by_cond Q (c == 10) (codes "\\n") _ (λ h e. inr (inl (equal c 10 h, ap (drop 1) e))) (λ _.
    by_cond Q (c == 13) (codes "\\r") _ (λ h e. inr (inr (inl (equal c 13 h, ap (drop 1) e)))) (λ _.
    by_cond Q (is_control c) (numbered c) _ (λ h e. inr (inr (inr (inl (h, ap (drop 1) e))))) (λ _.
    by_cond Q (is_format c) (numbered_format c) (encode_utf8 c) (λ h e. inr (inr (inr (inr (h, ap (drop 1) e ∙ wide_behind c behind))))) (λ _ e.
    absurd (unequal c 92 n (sym (encode_same 92 c rest behind e).0)))))))

-- the five escapes by their second character
abbrev pub EscapeBy : ℕ → List ℕ → ℕ → List ℕ → Type 0
EscapeBy d rest c behind =
    ((d ≡ 92) × (c ≡ 92) × (rest ≡ behind)) ⊎
    (((d ≡ 110) × (c ≡ 10) × (rest ≡ behind)) ⊎
    (((d ≡ 114) × (c ≡ 13) × (rest ≡ behind)) ⊎
    (((d ≡ 120) × (is_control c ≡ true) × (rest ≡ two_digits c ++ behind)) ⊎
    ((d ≡ 117) × (is_format c ≡ true) × (rest ≡ 123 ∷ (six_digits c ++ (125 ∷ behind)))))))

pub escape_by : (d c : ℕ) (text rest behind : List ℕ) → text ≡ encode_utf8 d ++ rest → 92 ∷ text ≡ escaped_char c ++ behind → EscapeBy d rest c behind
unfolding lib.Utf8.encode
escape_by d c text rest behind s e =
    let at = escape_at c text behind e in
    let same : (x : ℕ) (t : List ℕ) → text ≡ encode_utf8 x ++ t → (d ≡ x) × (rest ≡ t) = λ x t h. encode_same d x rest t (sym s ∙ h) in
    elim at [
      | inl h ↦ (let q = same 92 behind h.1 in inl (q.0, h.0, q.1))
      | inr (inl h) ↦ (let q = same 110 behind h.1 in inr (inl (q.0, h.0, q.1)))
      | inr (inr (inl h)) ↦ (let q = same 114 behind h.1 in inr (inr (inl (q.0, h.0, q.1))))
      | inr (inr (inr (inl h))) ↦ (let q = same 120 (two_digits c ++ behind) h.1 in inr (inr (inr (inl (q.0, h.0, q.1)))))
      | inr (inr (inr (inr h))) ↦ (let q = same 117 (123 ∷ (six_digits c ++ (125 ∷ behind))) h.1 in inr (inr (inr (inr (q.0, h.0, q.1)))))
    ]

-- a backslash is no text
pub escape_more : {R : Type 0} (c : ℕ) (rest behind : List ℕ) → length rest ≡ 0 → 92 ∷ rest ≡ escaped_char c ++ behind → R
escape_more c rest behind none e =
    elim (escape_at c rest behind e) [
      | inl h ↦ absurd (let l = ap length h.1 in omega (arith, none, l))
      | inr (inl h) ↦ absurd (let l = ap length h.1 in omega (arith, none, l))
      | inr (inr (inl h)) ↦ absurd (let l = ap length h.1 in omega (arith, none, l))
      | inr (inr (inr (inl h))) ↦ absurd (let l = ap length h.1 in omega (arith, none, l))
      | inr (inr (inr (inr h))) ↦ absurd (let l = ap length h.1 in omega (arith, none, l))
    ]

length-escaped_char : (c : ℕ) → 0 < length (escaped_char c)
length-escaped_char c =
    let Q : List ℕ → Type 0 = λ p. 0 < length p in
    by_cond Q (c == 92) (codes "\\\\") _ (λ _. omega arith) (λ _.
    by_cond Q (c == 10) (codes "\\n") _ (λ _. omega arith) (λ _.
    by_cond Q (c == 13) (codes "\\r") _ (λ _. omega arith) (λ _.
    by_cond Q (is_control c) (numbered c) _ (λ _. omega arith) (λ _.
    by_cond Q (is_format c) (numbered_format c) (encode_utf8 c) (λ _. omega arith) (λ _.
    let long = (len_utf8_bounds c).0 in omega (arith, long, length-encode c))))))

-- the text of a character is not empty
pub text_more : {R : Type 0} (c : ℕ) (text behind : List ℕ) → length text ≡ 0 → text ≡ escaped_char c ++ behind → R
text_more c text behind none e =
    let l = ap length e in
    let long = length-escaped_char c in
    absurd (omega (arith, none, l, long, length-append (escaped_char c) behind))

-- only a backslash begins an escape
pub plain-same : (d c : ℕ) (rest behind : List ℕ) → (d ≡ 92 → ⊥) → encode_utf8 d ++ rest ≡ escaped_char c ++ behind → (d ≡ c) × (rest ≡ behind)
unfolding lib.Utf8.encode
plain-same d c rest behind plain =
    let Q : List ℕ → Type 0 = λ p. encode_utf8 d ++ rest ≡ p ++ behind → (d ≡ c) × (rest ≡ behind) in
    by_cond Q (c == 92) (codes "\\\\") _ (λ h e. absurd (plain (encode_same d 92 rest (92 ∷ behind) e).0)) (λ n.
    by_cond Q (c == 10) (codes "\\n") _ (λ h e. absurd (plain (encode_same d 92 rest (110 ∷ behind) e).0)) (λ _.
    by_cond Q (c == 13) (codes "\\r") _ (λ h e. absurd (plain (encode_same d 92 rest (114 ∷ behind) e).0)) (λ _.
    by_cond Q (is_control c) (numbered c) _ (λ h e. absurd (plain (encode_same d 92 rest (120 ∷ (two_digits c ++ behind)) e).0)) (λ _.
    by_cond Q (is_format c) (numbered_format c) (encode_utf8 c) (λ h e. absurd (plain (encode_same d 92 rest (drop 1 (numbered_format c ++ behind)) e).0)) (λ _ e.
    encode_same d c rest behind e)))))

digit_back : (n : ℕ) → n < 16 → digit_value (digit_glyph false n) ≡ n
digit_back n h = grind arith

digit_ascii : (n : ℕ) → n < 16 → digit_glyph false n < 128
digit_ascii n h = grind arith

-- the value of the digit that a text begins with
pub digit-same : (d n : ℕ) (text rest behind : List ℕ) → n < 16 → text ≡ encode_utf8 d ++ rest → text ≡ digit_glyph false n ∷ behind
    → (digit_value d ≡ n) × (rest ≡ behind)
digit-same d n text rest behind small s e =
    let g : ℕ = digit_glyph false n in
    let one : encode_utf8 g ++ behind ≡ g ∷ behind = ap (λ t. t ++ behind) (encode_ascii g (digit_ascii n small)) in
    let same = encode_same d g rest behind (sym s ∙ e ∙ sym one) in
    (ap digit_value same.0 ∙ digit_back n small, same.1)

-- what is behind an ASCII character
pub behind_ascii : (d x : ℕ) (text rest behind : List ℕ) → x < 128 → text ≡ encode_utf8 d ++ rest → text ≡ x ∷ behind → rest ≡ behind
behind_ascii d x text rest behind small s e =
    let one : encode_utf8 x ++ behind ≡ x ∷ behind = ap (λ t. t ++ behind) (encode_ascii x small) in
    (encode_same d x rest behind (sym s ∙ e ∙ sym one)).1

pub some_iff : (o : Option ℕ) (P : Type 0) (m n : ℕ) → SomeIff o P m → P → m ≡ n → o ≡ Some n
some_iff None P m n never p e = absurd (never p)
some_iff (Some x) P m n both p e = ap Some (both.1 ∙ e)

-- the first of the characters that are left
abbrev pub Next : List ℕ → List ℕ → Type 0
Next behind rest = (c : ℕ) × (more : List ℕ) × (behind ≡ c ∷ more) × (rest ≡ escaped_char c ++ flat_map escaped_char more)

pub next_char : (behind rest : List ℕ) → 0 < length rest → flat_map escaped_char behind ≡ rest → Next behind rest
next_char [] rest some e = absurd (let l = ap length e in omega (arith, l, some))
next_char (c ∷ more) rest some e = (c, more, refl, sym e)

pub no_more : (behind rest : List ℕ) → length rest ≡ 0 → flat_map escaped_char behind ≡ rest → behind ≡ []
no_more [] rest none e = refl
no_more (c ∷ more) rest none e = text_more c rest (flat_map escaped_char more) none (sym e)

-- a name and its next character
pub with_next : (name own longer behind more : List ℕ) (c d : ℕ) → name ≡ own ++ encode_utf8_all behind → behind ≡ c ∷ more → d ≡ c
    → longer ≡ own ++ encode_utf8 d → name ≡ longer ++ encode_utf8_all more
with_next name own longer behind more c d e b same l =
    rw (l, same, e, b) (sym (append_assoc own (encode_utf8 c) (encode_utf8_all more)))
