-- Strings in a string table (System V ABI, "String Table").
use Rattle.std.specs.Prelude.{ℕ, ◌==◌, ◌&&◌, ◌-◌, nat_lt, nat_le, not, Bool, List, length, drop, take_while, slice_index}

-- the longest name of a section, in bytes
abbrev pub NAME_LIMIT : ℕ
NAME_LIMIT = 1024

-- a string table begins and ends with a NUL
abbrev pub is_closed : List ℕ → Bool
is_closed strings = nat_lt 0 (length strings) && (slice_index strings 0 == 0 && slice_index strings (length strings - 1) == 0)

-- the string at an offset: the bytes up to a NUL
abbrev pub string_at : List ℕ → ℕ → List ℕ
string_at strings off = take_while (λ c. not (c == 0)) (drop off strings)

-- an offset in a string table at which the name of a section stands
abbrev pub is_section_name : List ℕ → ℕ → Bool
is_section_name strings off = nat_lt off (length strings) && nat_le (length (string_at strings off)) NAME_LIMIT
