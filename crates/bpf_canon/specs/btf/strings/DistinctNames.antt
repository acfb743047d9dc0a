-- The string table in which no two names share bytes: each distinct name is stored once, in the order of first use.
use Rattle.std.specs.Prelude.{ℕ, List, [], ◌∷◌}
use Rattle.btf_types.specs.Names.{kept, table_of, offset_within}

-- NUL, then each distinct name that isn't empty, in the order of first use, each followed by NUL
abbrev pub distinct_table : List (List ℕ) → List ℕ
distinct_table xs = table_of (kept xs)

-- the offset of a name in the table of the distinct names: 0 if it is empty
abbrev pub distinct_offset : List (List ℕ) → List ℕ → ℕ
distinct_offset xs [] = 0
distinct_offset xs (b ∷ bytes) = offset_within (kept xs) (b ∷ bytes)
