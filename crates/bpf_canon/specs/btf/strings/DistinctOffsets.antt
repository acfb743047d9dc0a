-- The table of distinct names while it grows, and the offsets of names in it.
use Rattle.std.specs.Prelude.{◌≡◌, ◌≢◌, ℕ, ◌^◌, ◌<◌, ◌≤◌, Option, Some, None, MatchOption, List, [], ◌∷◌, ◌++◌, length, map, slice_index}
use Rattle.std.specs.{Borrow.Bor, BTreeMap.BTreeMap, BTreeMap.get_by, Cmp.Lexicographic.slice_cmp, List.Contains, Ordering.nat_cmp, Ordering.ordering_then}
use Rattle.btf_types.specs.{Names.kept, Names.table_of, Names.offset_within, Reading.text_from}
use Rattle.bpf_canon.specs.btf.strings.DistinctNames.{distinct_table, distinct_offset}
use Rattle.bpf_canon.specs.btf.strings.UsedOffsets.{Used, number_of, used_count}
use Rattle.bpf_canon.specs.declared.btf.strings.distinct_offsets.NameTable.{NameTable}

-- offsets by strings, which are sorted by their lengths first
abbrev pub OffsetsByText : Type 0
OffsetsByText = BTreeMap (ℕ × Bor (List ℕ)) ℕ

-- the offset that such a map has for a string
abbrev pub offset_for : OffsetsByText → List ℕ → Option ℕ
offset_for by_text x = get_by (λ key. ordering_then (nat_cmp (length x) key.0) (slice_cmp nat_cmp x key.1.now)) by_text

-- The bytes are the table of these strings, and the map has the offset of each in it.
pub record IsTableOf (ks : List (List ℕ)) (bytes : List ℕ) (by_text : OffsetsByText) : Type 0 where
  pub bytes_are : bytes ≡ table_of ks
  pub there : (x : List ℕ) → Contains ks x → offset_for by_text x ≡ Some (offset_within ks x)
  pub absent : (x : List ℕ) → ¬ Contains ks x → offset_for by_text x ≡ None

-- the table of the names xs, within the limit, and the offset of the name x in it
pub record HasOffset (xs : List (List ℕ)) (bytes : List ℕ) (by_text : OffsetsByText) (x : List ℕ) (limit text_offset : ℕ) : Type 0 where
  pub table : IsTableOf (kept xs) bytes by_text
  pub within : length bytes ≤ limit
  pub text_offset_is : text_offset ≡ distinct_offset xs x

-- From the table of some names, the new one is that with the name x too, unless it would be longer than the limit.
abbrev pub AddsName : List ℕ → OffsetsByText → List ℕ → OffsetsByText → List ℕ → ℕ → Option ℕ → Type 0
AddsName old old_offsets new new_offsets x limit text_offset =
    (xs : List (List ℕ)) → IsTableOf (kept xs) old old_offsets
    → MatchOption text_offset (limit < length (distinct_table (xs ++ x ∷ []))) (HasOffset (xs ++ x ∷ []) new new_offsets x limit)

-- Each used name has, by the number of its old offset, its offset in the table of all.
pub record AreDistinct (section : List ℕ) (used : Used) (text_offsets bytes : List ℕ) : Type 0 where
  pub marked : (off : ℕ) → Contains used.offsets off → slice_index used.slots off ≢ 0
  pub numbers : length text_offsets ≡ used_count used
  pub text_offset : (off : ℕ) → Contains used.offsets off → slice_index text_offsets (number_of used off) ≡ distinct_offset (map (text_from section) used.offsets) (text_from section off)
  pub bytes_are : bytes ≡ distinct_table (map (text_from section) used.offsets)
  pub fits : length bytes < 2 ^ 32

-- the same of the struct, with a table within the limit
pub record IsTableWithin {A : Type 0} (section : List ℕ) (used : Used) (limit : ℕ) (t : NameTable A) : Type 0 where
  pub are_distinct : AreDistinct section used t.text_offsets.items t.bytes.items
  pub within : length t.bytes.items ≤ limit
