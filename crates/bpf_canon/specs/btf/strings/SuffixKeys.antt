-- The last bytes of a string as a number.
use Rattle.std.specs.Prelude.{◌≡◌, ℕ, zero, suc, ◌+◌, ◌-◌, ◌*◌, ◌^◌, List, [], ◌∷◌, reverse, slice_index}
use Rattle.std.specs.Int.{w64, to_le_bytes}

-- the first n bytes as a number, the first one most significant, with 0 for each missing byte
abbrev pub front_key : ℕ → List ℕ → ℕ
front_key zero y = 0
front_key (suc n) [] = 0
front_key (suc n) (b ∷ y) = b * 256 ^ n + front_key n y

-- the last eight bytes as a number, the last one most significant
unfoldable pub suffix_key : List ℕ → ℕ
suffix_key x = front_key 8 (reverse x)

-- two keys have the same byte at this index from the end of their strings
abbrev pub HaveSameByte : ℕ → ℕ → ℕ → Type 0
HaveSameByte a b j = slice_index (to_le_bytes w64 a) (7 - j) ≡ slice_index (to_le_bytes w64 b) (7 - j)
