-- Which strings of a string section are UTF-8. A string begins at any offset, and ends at the next NUL.
use Rattle.std.specs.Prelude.{◌≡◌, ◌↔◌, ℕ, ◌<◌, ◌≤◌, Bool, true, false, IsUtf8, Option, None, Some, List, length, get_or, slice_index}
use Rattle.btf_raw.specs.Names.{TextAt}
use Rattle.std.specs.Borrow.{Bor}

-- a character may begin with this byte
abbrev pub BeginsChar : ℕ → Type 0
BeginsChar byte = 128 ≤ byte → 192 ≤ byte

-- there is a mark for each byte, which is set if the string that begins there is UTF-8
pub record AreMarks (strings : List ℕ) (marks : List Bool) : Type 0 where
  pub size : length marks ≡ length strings
  pub right : (offset : ℕ) (text : List ℕ) → TextAt strings offset text → (get_or marks offset false ≡ true) ↔ IsUtf8 text

-- the marks of a section, or none if all of it is UTF-8
abbrev pub HasMarks : List ℕ → Option (Bor (List Bool)) → Type 0
HasMarks strings None = IsUtf8 strings
HasMarks strings (Some marks) = AreMarks strings marks.now

-- the next offset after this one at which a character may begin, or the end; and whether the string there is UTF-8
pub record IsNextChar (strings : List ℕ) (at next : ℕ) (rest : Bool) : Type 0 where
  pub past : at < next
  pub inside : next ≤ length strings
  pub begins : next < length strings → BeginsChar (slice_index strings next)
  pub between : (i : ℕ) → at < i → i < next → 128 ≤ slice_index strings i
  pub rest_is : (text : List ℕ) → TextAt strings next text → (rest ≡ true) ↔ IsUtf8 text
