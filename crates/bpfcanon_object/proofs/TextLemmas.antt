-- No two names have the same text.
use Rattle.std.proofs.Common.{◌≡◌, ◌==◌, ◌<◌, ◌/◌, ◌%◌, ◌+◌, ◌-◌, ◌*◌, ◌++◌, ℕ, Bool, true, false, List, [], ◌∷◌, refl, sym, ap, ◌∙◌, arith, rules, cond, codes, flat_map, append-nil, length, length-append, drop}
use Rattle.std.specs.Prelude.{encode_utf8, encode_utf8_all, nat_lt}
use Rattle.std.specs.Str.{IsAscii, IsUtf8, chars}
use Rattle.std.specs.Fmt.{digit_glyph}
use Rattle.std.proofs.lemmas.Str.{IsAscii-append, encodes-append, encodes-IsAscii, encodes-chars, encodes_same}
use Rattle.std.proofs.lemmas.Str.Ascii.{IsAscii-cons}
use Rattle.bpfcanon_object.specs.Escape.{escaped, escaped_char, is_control, is_format, numbered, numbered_format, six_digits, two_digits}
use Rattle.bpfcanon_object.proofs.EscapeLemmas.{IsAscii-two_digits, control_bound}
use Rattle.bpfcanon_object.proofs.FormatCharacters.{format_bound}

-- a fact about both values of a choice
pub by_cond : (Q : List ℕ → Type 0) (b : Bool) (x y : List ℕ) → (b ≡ true → Q x) → (b ≡ false → Q y) → Q (cond b x y)
by_cond Q true x y p q = p refl
by_cond Q false x y p q = q refl

-- the characters that are printed for one
abbrev printed : ℕ → List ℕ
printed c =
    cond (c == 92) (92 ∷ 92 ∷ []) (
    cond (c == 10) (92 ∷ 110 ∷ []) (
    cond (c == 13) (92 ∷ 114 ∷ []) (
    cond (is_control c) (numbered c) (
    cond (is_format c) (numbered_format c) (c ∷ [])))))

cond-encodes : (b : Bool) (x y : List ℕ) (z w : List ℕ) → (b ≡ true → encode_utf8_all x ≡ z) → (b ≡ false → encode_utf8_all y ≡ w) → encode_utf8_all (cond b x y) ≡ cond b z w
cond-encodes true x y z w p q = p refl
cond-encodes false x y z w p q = q refl

IsAscii-numbered_format : (c : ℕ) → c < 1114112 → IsAscii (numbered_format c)
IsAscii-numbered_format c bound =
    let high = IsAscii-two_digits (c / 65536) (omega arith) in
    let middle = IsAscii-two_digits (c % 65536 / 256) (omega arith) in
    let low = IsAscii-two_digits (c % 65536 % 256) (omega arith) in
    let rest = IsAscii-append (two_digits (c % 65536 / 256)) (two_digits (c % 65536 % 256)) middle low in
    let digits = IsAscii-append (two_digits (c / 65536)) (two_digits (c % 65536 / 256) ++ two_digits (c % 65536 % 256)) high rest in
    IsAscii-append (codes "\\u{") (six_digits c ++ codes "}") (search rules) (IsAscii-append (six_digits c) (codes "}") digits (search rules))

printed-encodes : (c : ℕ) → encode_utf8_all (printed c) ≡ escaped_char c
printed-encodes c =
    cond-encodes (c == 92) (92 ∷ 92 ∷ []) _ (codes "\\\\") _ (λ _. encodes-IsAscii (codes "\\\\") (search rules)) (λ _.
    cond-encodes (c == 10) (92 ∷ 110 ∷ []) _ (codes "\\n") _ (λ _. encodes-IsAscii (codes "\\n") (search rules)) (λ _.
    cond-encodes (c == 13) (92 ∷ 114 ∷ []) _ (codes "\\r") _ (λ _. encodes-IsAscii (codes "\\r") (search rules)) (λ _.
    cond-encodes (is_control c) (numbered c) _ (numbered c) _
    (λ h. let small : c < 160 = control_bound c h in
    encodes-IsAscii (numbered c) (IsAscii-cons 92 (120 ∷ two_digits c) (omega arith) (IsAscii-cons 120 (two_digits c) (omega arith) (IsAscii-two_digits c (omega arith))))) (λ _.
    cond-encodes (is_format c) (numbered_format c) (c ∷ []) (numbered_format c) (encode_utf8 c)
    (λ h. encodes-IsAscii (numbered_format c) (IsAscii-numbered_format c (format_bound c h).0))
    (λ _. append-nil (encode_utf8 c))))))

escaped-encodes : (cs : List ℕ) → flat_map escaped_char cs ≡ encode_utf8_all (flat_map printed cs)
escaped-encodes [] = refl
escaped-encodes (c ∷ cs) = rw (encodes-append (printed c) (flat_map printed cs), printed-encodes c, escaped-encodes cs) refl

-- the character that a text begins with, and how many characters are printed for it
abbrev digit_value : ℕ → ℕ
digit_value g = cond (nat_lt g 58) (g - 48) (g - 87)

abbrev number_at : List ℕ → ℕ
number_at [] = 0
number_at (x ∷ []) = 0
number_at (x ∷ y ∷ t) = digit_value x * 16 + digit_value y

abbrev wide_at : List ℕ → ℕ
wide_at t = number_at (drop 1 t) * 65536 + (number_at (drop 3 t) * 256 + number_at (drop 5 t))

abbrev after_backslash : List ℕ → ℕ
after_backslash [] = 0
after_backslash (b ∷ t) = cond (b == 92) 92 (cond (b == 110) 10 (cond (b == 114) 13 (cond (b == 117) (wide_at t) (number_at t))))

abbrev first_of : List ℕ → ℕ
first_of [] = 0
first_of (a ∷ t) = cond (a == 92) (after_backslash t) a

abbrev rest_after_backslash : List ℕ → List ℕ
rest_after_backslash [] = []
rest_after_backslash (b ∷ t) = cond (b == 120) (drop 2 t) (cond (b == 117) (drop 8 t) t)

abbrev rest_of : List ℕ → List ℕ
rest_of [] = []
rest_of (a ∷ t) = cond (a == 92) (rest_after_backslash t) t

digit_back : (d : ℕ) → d < 16 → digit_value (digit_glyph false d) ≡ d
digit_back d h = grind arith

number_back : (n : ℕ) → n < 256 → digit_value (digit_glyph false (n / 16)) * 16 + digit_value (digit_glyph false (n % 16)) ≡ n
number_back n small = rw (digit_back (n / 16) (omega arith), digit_back (n % 16) (omega arith)) (omega arith)

wide_back : (c : ℕ) (t : List ℕ) → c < 1114112 → wide_at (123 ∷ (six_digits c ++ (125 ∷ t))) ≡ c
wide_back c t bound =
    rw (number_back (c / 65536) (omega arith), number_back (c % 65536 / 256) (omega arith), number_back (c % 65536 % 256) (omega arith)) (omega arith)

first_of-printed : (c : ℕ) (t : List ℕ) → first_of (printed c ++ t) ≡ c
first_of-printed c t =
    let Q : List ℕ → Type 0 = λ p. first_of (p ++ t) ≡ c in
    by_cond Q (c == 92) (92 ∷ 92 ∷ []) _ (λ h. grind arith) (λ n.
    by_cond Q (c == 10) (92 ∷ 110 ∷ []) _ (λ h. grind arith) (λ _.
    by_cond Q (c == 13) (92 ∷ 114 ∷ []) _ (λ h. grind arith) (λ _.
    by_cond Q (is_control c) (numbered c) _ (λ h. let small : c < 160 = control_bound c h in number_back c (omega arith)) (λ _.
    by_cond Q (is_format c) (numbered_format c) (c ∷ []) (λ h. wide_back c t (format_bound c h).0) (λ _. rw n refl)))))

rest_of-printed : (c : ℕ) (t : List ℕ) → rest_of (printed c ++ t) ≡ t
rest_of-printed c t =
    let Q : List ℕ → Type 0 = λ p. rest_of (p ++ t) ≡ t in
    by_cond Q (c == 92) (92 ∷ 92 ∷ []) _ (λ _. refl) (λ n.
    by_cond Q (c == 10) (92 ∷ 110 ∷ []) _ (λ _. refl) (λ _.
    by_cond Q (c == 13) (92 ∷ 114 ∷ []) _ (λ _. refl) (λ _.
    by_cond Q (is_control c) (numbered c) _ (λ _. refl) (λ _.
    by_cond Q (is_format c) (numbered_format c) (c ∷ []) (λ _. refl) (λ _. rw n refl)))))

length-printed : (c : ℕ) → 0 < length (printed c)
length-printed c =
    let Q : List ℕ → Type 0 = λ p. 0 < length p in
    by_cond Q (c == 92) (92 ∷ 92 ∷ []) _ (λ _. omega arith) (λ _.
    by_cond Q (c == 10) (92 ∷ 110 ∷ []) _ (λ _. omega arith) (λ _.
    by_cond Q (c == 13) (92 ∷ 114 ∷ []) _ (λ _. omega arith) (λ _.
    by_cond Q (is_control c) (numbered c) _ (λ _. omega arith) (λ _.
    by_cond Q (is_format c) (numbered_format c) (c ∷ []) (λ _. omega arith) (λ _. omega arith)))))

not_empty : {R : Type 0} (c : ℕ) (t : List ℕ) → printed c ++ t ≡ [] → R
not_empty c t e =
    let some = length-printed c in
    let none = ap length e in
    absurd (omega (arith, some, none, length-append (printed c) t))

texts-same : (cs ds : List ℕ) → flat_map printed cs ≡ flat_map printed ds → cs ≡ ds
texts-same [] [] e = refl
texts-same [] (d ∷ ds) e = not_empty d (flat_map printed ds) (sym e)
texts-same (c ∷ cs) [] e = not_empty c (flat_map printed cs) e
texts-same (c ∷ cs) (d ∷ ds) e =
    let first : c ≡ d = sym (first_of-printed c (flat_map printed cs)) ∙ ap first_of e ∙ first_of-printed d (flat_map printed ds) in
    let rest : flat_map printed cs ≡ flat_map printed ds = sym (rest_of-printed c (flat_map printed cs)) ∙ ap rest_of e ∙ rest_of-printed d (flat_map printed ds) in
    rw (first, texts-same cs ds rest) refl

pub escaped-same : (m n : List ℕ) → IsUtf8 m → IsUtf8 n → escaped m ≡ escaped n → m ≡ n
escaped-same m n um un e =
    let texts = sym (escaped-encodes (chars m)) ∙ e ∙ escaped-encodes (chars n) in
    let same = texts-same (chars m) (chars n) (encodes_same (flat_map printed (chars m)) (flat_map printed (chars n)) texts) in
    sym (encodes-chars m um) ∙ ap encode_utf8_all same ∙ encodes-chars n un
