-- The used offsets of a section in ascending order. An offset is used if its slot isn't 0.
use Rattle.std.specs.Prelude.{◌≡◌, ℕ, zero, suc, ◌+◌, ◌*◌, ◌/◌, ◌<◌, ◌==◌, List, [], ◌∷◌, ◌++◌, length, slice_index, if◌then◌else◌}
use Rattle.bpf_canon.specs.btf.strings.FirstUses.{slots_of, HaveMarks}

-- those below n
abbrev pub used_below : List ℕ → ℕ → List ℕ
used_below slots zero = []
used_below slots (suc n) = if slice_index slots n == 0 then used_below slots n else used_below slots n ++ n ∷ []

-- the number of an offset: how many smaller ones are used
abbrev pub offset_number : List ℕ → ℕ → ℕ
offset_number slots off = length (used_below slots off)

-- the used offsets in the order of first use, and the slots of a section
pub record Used : Type 0 where
  pub offsets : List ℕ
  pub slots : List ℕ

abbrev pub number_of : Used → ℕ → ℕ
number_of u off = offset_number u.slots off

abbrev pub used_count : Used → ℕ
used_count u = offset_number u.slots (length u.slots)

-- For each group of 64 offsets, the number of used ones before it.
pub record AreCounted (slots before : List ℕ) : Type 0 where
  pub words : length before ≡ length slots / 64 + 1
  pub counts : (word : ℕ) → word < length before → slice_index before word ≡ offset_number slots (64 * word)

-- the 64-bit elements have the bits of these offsets, and the used offsets before each of them are counted
pub record AreNumbered (section_len : ℕ) (words offsets before : List ℕ) : Type 0 where
  pub have_marks : HaveMarks section_len words offsets
  pub are_counted : AreCounted (slots_of words section_len) before
