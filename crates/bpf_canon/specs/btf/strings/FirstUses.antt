-- The distinct offsets of a string section at which names begin, in the order of first use.
use Rattle.std.specs.Prelude.{◌≡◌, ◌≢◌, ℕ, zero, suc, ◌+◌, ◌/◌, ◌%◌, nat_eq, List, [], ◌∷◌, ◌++◌, length, slice_index, if◌then◌else◌}
use Rattle.std.specs.{Int.bit_at, List.list_any, List.Contains}

-- another offset is appended, unless it is already present
abbrev pub noted : List ℕ → ℕ → List ℕ
noted offsets off = if list_any (nat_eq off) offsets then offsets else offsets ++ off ∷ []

-- several more offsets are noted, in sequence
abbrev pub noted_all : List ℕ → List ℕ → List ℕ
noted_all offsets [] = offsets
noted_all offsets (off ∷ offs) = noted_all (noted offsets off) offs

-- a string section, and the offsets in it that have been noted
pub record Noted : Type 0 where
  pub strings : List ℕ
  pub offsets : List ℕ

-- a string section in which no offset has been noted
abbrev pub nothing_noted : List ℕ → Noted
nothing_noted strings = record { strings = strings; offsets = [] }

-- the bit of an offset in 64-bit elements
abbrev pub mark_of : List ℕ → ℕ → ℕ
mark_of words off = bit_at (slice_index words (off / 64)) (off % 64)

-- the bits of the first n offsets
abbrev pub slots_of : List ℕ → ℕ → List ℕ
slots_of words zero = []
slots_of words (suc n) = slots_of words n ++ mark_of words n ∷ []

-- a byte of the section is marked if and only if its offset is noted
pub record AreMarked (offsets marks : List ℕ) : Type 0 where
  pub marked : (off : ℕ) → Contains offsets off → slice_index marks off ≢ 0
  pub only : (off : ℕ) → slice_index marks off ≢ 0 → Contains offsets off

-- the bit set has a bit for each byte of the section, which is set for the noted offsets
pub record HaveMarks (section_len : ℕ) (words offsets : List ℕ) : Type 0 where
  pub whole : length words ≡ section_len / 64 + 1
  pub are_marked : AreMarked offsets (slots_of words section_len)
