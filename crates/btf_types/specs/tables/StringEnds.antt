-- The ends of the strings in a string section (btf.rst section 2.1).
use Rattle.std.specs.Prelude.{◌≡◌, ℕ, ◌+◌, ◌<◌, ◌≤◌, List, length, slice_index}
use Rattle.btf_raw.specs.Names.{IsEnd}

abbrev pub IsAmong : List ℕ → ℕ → Type 0
IsAmong ends end = (k : ℕ) × (k < length ends) × (slice_index ends k ≡ end)

-- These offsets of NULs, ascending and below at, include the ends of all strings of at least 128 bytes that end below at.
pub record AreLongEndsTo (strings ends : List ℕ) (at : ℕ) : Type 0 where
  pub inside : (k : ℕ) → k < length ends → slice_index ends k < at
  pub nuls : (k : ℕ) → k < length ends → slice_index strings (slice_index ends k) ≡ 0
  pub rising : (j k : ℕ) → j ≤ k → k < length ends → slice_index ends j ≤ slice_index ends k
  pub each : (offset end : ℕ) → end < at → IsEnd strings offset end → offset + 128 ≤ end → IsAmong ends end

-- likewise for the complete section
abbrev pub AreLongEnds : List ℕ → List ℕ → Type 0
AreLongEnds strings ends = AreLongEndsTo strings ends (length strings)
