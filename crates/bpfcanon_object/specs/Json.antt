-- Strings and objects of JSON (RFC 8259).
use Rattle.std.specs.Prelude.{◌==◌, if◌then◌else◌, ◌++◌, ◌+◌, ◌-◌, ◌/◌, ◌%◌, ℕ, List, codes, encode_utf8, nat_lt}
use Rattle.std.specs.{List.flat_map, Str.chars}
use Rattle.bpfcanon_object.specs.{Escape.four_digits, Escape.is_hidden, Lines.newline}

-- a unit of UTF-16 in a JSON string
unfoldable pub json_unit : ℕ → List ℕ
json_unit n = codes "\\u" ++ four_digits n

-- a character of a JSON string by its number: one above 2 ^ 16 by its surrogates
abbrev pub json_numbered : ℕ → List ℕ
json_numbered c =
    if nat_lt c 65536 then json_unit c else
    json_unit (55296 + (c - 65536) / 1024) ++ json_unit (56320 + c % 1024)

-- a character of a JSON string (RFC 8259 section 7); control characters above 31 and format characters are escaped too
abbrev pub json_char : ℕ → List ℕ
json_char c =
    if c == 34 then codes "\\\"" else
    if c == 92 then codes "\\\\" else
    if is_hidden c then json_numbered c else encode_utf8 c

-- what is between the quotation marks of a JSON string
abbrev pub json_text : List ℕ → List ℕ
json_text text = flat_map json_char (chars text)

-- a JSON object for a file, with members after that of its name
abbrev pub json_line : List ℕ → List ℕ → List ℕ
json_line name members = codes "{\"file\":\"" ++ (json_text name ++ (codes "\"," ++ (members ++ (codes "}" ++ newline))))
