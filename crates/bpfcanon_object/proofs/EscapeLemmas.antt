-- What is printed of a name has no control and format characters.
use Rattle.std.proofs.Common.{◌≡◌, ◌==◌, ◌<◌, ◌≤◌, ◌/◌, ◌%◌, ◌+◌, ◌-◌, ◌++◌, ℕ, Bool, true, false, not, List, [], ◌∷◌, refl, sym, arith, rules, cond, codes, flat_map, append-nil}
use Rattle.std.specs.Prelude.{encode_utf8, nat_lt}
use Rattle.std.specs.Str.{IsAscii}
use Rattle.std.specs.Fmt.{digit_glyph}
use Rattle.std.proofs.lemmas.Str.{encodes-append, encodes-IsAscii}
use Rattle.std.proofs.lemmas.List.Folds.{list_all-append}
use Rattle.std.proofs.lemmas.Str.Ascii.{IsAscii-cons, IsAscii-nil}
use Rattle.bpfcanon_object.specs.Json.{json_char, json_numbered, json_unit}
use Rattle.bpfcanon_object.specs.Escape.{IsPrintable, escaped_char, four_digits, is_control, is_format, is_hidden, is_shown, numbered, numbered_format, six_digits, two_digits}
use Rattle.bpfcanon_object.proofs.FormatCharacters.{format_bound, hidden_bound, not_hidden, shown_ascii}

pub IsPrintable-append : (xs ys : List ℕ) → IsPrintable xs → IsPrintable ys → IsPrintable (xs ++ ys)
IsPrintable-append xs ys p q = (
  p.0 ++ q.0,
  (rw (p.1.0, q.1.0, encodes-append p.0 q.0) refl, rw (list_all-append (λ c. not (is_hidden c)) p.0 q.0, p.1.1, q.1.1) refl),
)

pub IsPrintable-ascii : (bs : List ℕ) → IsAscii bs → is_shown bs ≡ true → IsPrintable bs
IsPrintable-ascii bs ascii shown = (bs, (sym (encodes-IsAscii bs ascii), shown))

pub IsPrintable-cond : (b : Bool) (xs ys : List ℕ) → (b ≡ true → IsPrintable xs) → (b ≡ false → IsPrintable ys) → IsPrintable (cond b xs ys)
IsPrintable-cond true xs ys p q = p refl
IsPrintable-cond false xs ys p q = q refl

digit_bounds : (d : ℕ) → d < 16 → (48 ≤ digit_glyph false d) × (digit_glyph false d < 103)
digit_bounds d h = grind arith

pub control_bound : (c : ℕ) → is_control c ≡ true → c < 160
control_bound c h = grind arith

control_small : (c : ℕ) → is_control c ≡ true → c < 256
control_small c h = let small : c < 160 = control_bound c h in omega arith

pub IsAscii-two_digits : (n : ℕ) → n < 256 → IsAscii (two_digits n)
IsAscii-two_digits n small =
    let high = digit_bounds (n / 16) (omega arith) in
    let low = digit_bounds (n % 16) (omega arith) in
    let last = IsAscii-cons (digit_glyph false (n % 16)) [] (omega (arith, low.1)) IsAscii-nil in
    IsAscii-cons (digit_glyph false (n / 16)) (digit_glyph false (n % 16) ∷ []) (omega (arith, high.1)) last

pub IsPrintable-two_digits : (n : ℕ) → n < 256 → IsPrintable (two_digits n)
IsPrintable-two_digits n small =
    let high = digit_bounds (n / 16) (omega arith) in
    let low = digit_bounds (n % 16) (omega arith) in
    let first = shown_ascii (digit_glyph false (n / 16)) (omega (arith, high.0)) (omega (arith, high.1)) in
    let second = shown_ascii (digit_glyph false (n % 16)) (omega (arith, low.0)) (omega (arith, low.1)) in
    IsPrintable-ascii (two_digits n) (IsAscii-two_digits n small) (rw (first, second) refl)

pub IsPrintable-four_digits : (n : ℕ) → n < 65536 → IsPrintable (four_digits n)
IsPrintable-four_digits n small =
    IsPrintable-append (two_digits (n / 256)) (two_digits (n % 256)) (IsPrintable-two_digits (n / 256) (omega arith))
    (IsPrintable-two_digits (n % 256) (omega arith))

pub IsPrintable-six_digits : (n : ℕ) → n < 1114112 → IsPrintable (six_digits n)
IsPrintable-six_digits n small =
    IsPrintable-append (two_digits (n / 65536)) (four_digits (n % 65536)) (IsPrintable-two_digits (n / 65536) (omega arith))
    (IsPrintable-four_digits (n % 65536) (omega arith))

pub IsPrintable-encode : (c : ℕ) → is_hidden c ≡ false → IsPrintable (encode_utf8 c)
IsPrintable-encode c h = (c ∷ [], (sym (append-nil (encode_utf8 c)), rw h refl))

pub IsPrintable-escaped_char : (c : ℕ) → IsPrintable (escaped_char c)
IsPrintable-escaped_char c =
    IsPrintable-cond (c == 92) (codes "\\\\") _ (λ _. IsPrintable-ascii (codes "\\\\") (search rules) refl) (λ _.
    IsPrintable-cond (c == 10) (codes "\\n") _ (λ _. IsPrintable-ascii (codes "\\n") (search rules) refl) (λ _.
    IsPrintable-cond (c == 13) (codes "\\r") _ (λ _. IsPrintable-ascii (codes "\\r") (search rules) refl) (λ _.
    IsPrintable-cond (is_control c) (numbered c) _
    (λ h. let small : c < 256 = control_small c h in IsPrintable-append (codes "\\x") (two_digits c) (IsPrintable-ascii (codes "\\x") (search rules) refl) (IsPrintable-two_digits c small)) (λ p.
    IsPrintable-cond (is_format c) (numbered_format c) (encode_utf8 c)
    (λ h. IsPrintable-append (codes "\\u{") (six_digits c ++ codes "}") (IsPrintable-ascii (codes "\\u{") (search rules) refl)
    (IsPrintable-append (six_digits c) (codes "}") (IsPrintable-six_digits c (format_bound c h).0) (IsPrintable-ascii (codes "}") (search rules) refl)))
    (λ q. IsPrintable-encode c (not_hidden c p q))))))

pub IsPrintable-json_unit : (n : ℕ) → n < 65536 → IsPrintable (json_unit n)
unfolding json_unit
IsPrintable-json_unit n small =
    IsPrintable-append (codes "\\u") (four_digits n) (IsPrintable-ascii (codes "\\u") (search rules) refl) (IsPrintable-four_digits n small)

IsPrintable-json_numbered : (c : ℕ) → c < 1114112 → IsPrintable (json_numbered c)
IsPrintable-json_numbered c bound =
    IsPrintable-cond (nat_lt c 65536) (json_unit c) _ (λ h. let small : c < 65536 = grind (arith, h) in IsPrintable-json_unit c small) (λ h.
    let large : 65536 ≤ c = grind (arith, h) in
    let low : (c - 65536) / 1024 < 1024 = omega arith in
    IsPrintable-append (json_unit (55296 + (c - 65536) / 1024)) (json_unit (56320 + c % 1024))
    (IsPrintable-json_unit (55296 + (c - 65536) / 1024) (omega arith)) (IsPrintable-json_unit (56320 + c % 1024) (omega arith)))

pub json_numbered-large : (c : ℕ) → 65536 ≤ c → json_numbered c ≡ json_unit (55296 + (c - 65536) / 1024) ++ json_unit (56320 + c % 1024)
json_numbered-large c h = let e : nat_lt c 65536 ≡ false = grind (arith, h) in rw e refl

pub IsPrintable-json_char : (c : ℕ) → IsPrintable (json_char c)
IsPrintable-json_char c =
    IsPrintable-cond (c == 34) (codes "\\\"") _ (λ _. IsPrintable-ascii (codes "\\\"") (search rules) refl) (λ _.
    IsPrintable-cond (c == 92) (codes "\\\\") _ (λ _. IsPrintable-ascii (codes "\\\\") (search rules) refl) (λ _.
    IsPrintable-cond (is_hidden c) (json_numbered c) (encode_utf8 c) (λ h. IsPrintable-json_numbered c (hidden_bound c h)) (IsPrintable-encode c)))

pub IsPrintable-flat_map : (f : ℕ → List ℕ) → ((c : ℕ) → IsPrintable (f c)) → (cs : List ℕ) → IsPrintable (flat_map f cs)
IsPrintable-flat_map f p [] = ([], (refl, refl))
IsPrintable-flat_map f p (c ∷ cs) = IsPrintable-append (f c) (flat_map f cs) (p c) (IsPrintable-flat_map f p cs)
