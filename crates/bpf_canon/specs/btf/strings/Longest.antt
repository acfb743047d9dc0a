-- The longest used strings of a section.
use Rattle.std.specs.Prelude.{◌≡◌, ◌≢◌, ℕ, ◌<◌, ◌≤◌, List, length, slice_index}
use Rattle.std.specs.List.{All, Any}
use Rattle.bpf_canon.specs.{btf.strings.SectionTexts.HasKey, declared.btf.strings.ranked_texts.SectionText.SectionText}

-- a non-empty string from a used offset (one whose slot isn't 0) to the next NUL
pub record IsUsed (section slots : List ℕ) (t : SectionText) : Type 0 where
  pub slot : slice_index slots t.start ≢ 0
  pub some : t.start < t.end
  pub inside : t.end < length section
  pub nul : slice_index section t.end ≡ 0
  pub before : (k : ℕ) → t.start ≤ k → k < t.end → slice_index section k ≢ 0

-- the offset is within the string
pub record IsInText (off : ℕ) (t : SectionText) : Type 0 where
  pub from : t.start ≤ off
  pub before : off < t.end

-- each used offset is within one of these, unless its string is empty
pub record AreLongestOf (section slots : List ℕ) (ts : List SectionText) : Type 0 where
  pub few : length ts ≤ length section
  pub keys : All (HasKey section) ts
  pub used : All (IsUsed section slots) ts
  pub each : (off : ℕ) → off < length section → slice_index slots off ≢ 0 → slice_index section off ≢ 0 → Any (IsInText off) ts
