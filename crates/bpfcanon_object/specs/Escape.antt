-- How names are printed, so that nothing acts on a terminal or a log.
use Rattle.std.specs.Prelude.{◌≡◌, ◌==◌, ◌||◌, ◌&&◌, if◌then◌else◌, ◌++◌, ◌/◌, ◌%◌, ℕ, Bool, true, false, List, [], ◌∷◌, codes, encode_utf8, encode_utf8_all, nat_lt, nat_le, not}
use Rattle.std.specs.List.{flat_map, list_all, list_any}
use Rattle.std.specs.Fmt.{digit_glyph}
use Rattle.std.specs.Str.{bytes_eq, chars}

-- the general category Cc of Unicode
abbrev pub is_control : ℕ → Bool
is_control c = nat_lt c 32 || nat_le 127 c && nat_lt c 160

-- the first and the last of each run of characters of the general categories Cf, Zl and Zp of Unicode: those of the direction of text, others
-- that change how text is shown, and line separators
abbrev pub format_characters : List (ℕ × ℕ)
format_characters =
    (0xad, 0xad) ∷ (0x600, 0x605) ∷ (0x61c, 0x61c) ∷ (0x6dd, 0x6dd) ∷ (0x70f, 0x70f) ∷ (0x890, 0x891) ∷ (0x8e2, 0x8e2)
    ∷ (0x180e, 0x180e) ∷ (0x200b, 0x200f) ∷ (0x2028, 0x202e) ∷ (0x2060, 0x2064) ∷ (0x2066, 0x206f) ∷ (0xfeff, 0xfeff) ∷ (0xfff9, 0xfffb)
    ∷ (0x110bd, 0x110bd) ∷ (0x110cd, 0x110cd) ∷ (0x13430, 0x1343f) ∷ (0x1bca0, 0x1bca3) ∷ (0x1d173, 0x1d17a) ∷ (0xe0001, 0xe0001)
    ∷ (0xe0020, 0xe007f) ∷ []

abbrev pub is_format : ℕ → Bool
is_format c = list_any (λ run. nat_le run.0 c && nat_le c run.1) format_characters

-- a character that isn't printed as it is
abbrev pub is_hidden : ℕ → Bool
is_hidden c = is_control c || is_format c

-- none of the characters is one
abbrev pub is_shown : List ℕ → Bool
is_shown cs = list_all (λ c. not (is_hidden c)) cs

-- a text without control and format characters
abbrev pub IsPrintable : List ℕ → Type 0
IsPrintable bytes = (cs : List ℕ) × ((bytes ≡ encode_utf8_all cs) × (is_shown cs ≡ true))

-- a byte in two hexadecimal digits
abbrev pub two_digits : ℕ → List ℕ
two_digits c = digit_glyph false (c / 16) ∷ digit_glyph false (c % 16) ∷ []

-- a number below 2 ^ 16 in four
abbrev pub four_digits : ℕ → List ℕ
four_digits n = two_digits (n / 256) ++ two_digits (n % 256)

-- a number below 2 ^ 24 in six
abbrev pub six_digits : ℕ → List ℕ
six_digits n = two_digits (n / 65536) ++ four_digits (n % 65536)

-- a control character by its number
abbrev pub numbered : ℕ → List ℕ
numbered c = codes "\\x" ++ two_digits c

-- a format character by its number
abbrev pub numbered_format : ℕ → List ℕ
numbered_format c = codes "\\u{" ++ (six_digits c ++ codes "}")

-- how a character of a name is printed
abbrev pub escaped_char : ℕ → List ℕ
escaped_char c =
    if c == 92 then codes "\\\\" else
    if c == 10 then codes "\\n" else
    if c == 13 then codes "\\r" else
    if is_control c then numbered c else
    if is_format c then numbered_format c else encode_utf8 c

-- how a name is printed
abbrev pub escaped : List ℕ → List ℕ
escaped name = flat_map escaped_char (chars name)

-- a backslash before a line of sha256sum says that its name is escaped
abbrev pub mark : List ℕ → List ℕ
mark name = if bytes_eq (escaped name) name then [] else codes "\\"

-- a name as sha256sum writes it at the start of a line
abbrev pub marked : List ℕ → List ℕ
marked name = mark name ++ escaped name
