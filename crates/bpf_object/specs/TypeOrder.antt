-- The order in which a canonical file has the records of .BTF, and their new numbers.
use Rattle.std.specs.Prelude.{ℕ, zero, suc, ◌+◌, ◌-◌, ◌%◌, ◌==◌, ◌&&◌, ◌||◌, nat_le, Bool, false, List, [], ◌∷◌, ◌++◌, length, map, slice_index, slice_index_or, if◌then◌else◌}
use Rattle.std.specs.{List.range_with_len, Cmp.Lexicographic.slice_cmp}
use Rattle.std.specs.List.Sorted.{IsPermutation, IsStrictlySortedBy}
use Rattle.std.specs.Ordering.{nat_cmp, ordering_then}
use Rattle.std.specs.declared.cmp.Ordering.{Ordering}
use Rattle.bpf_elf.specs.Names.{string_at}
use Rattle.btf_raw.specs.KindNumbers.{ARRAY, FWD, FUNC_PROTO, VAR, DATASEC, TYPE_TAG}
use Rattle.btf_raw.specs.Kinds.{has_target, is_struct}
use Rattle.btf_raw.specs.Frames.{name_word, third_word, kind, flag}
use Rattle.btf_types.specs.{Reading.tabulate, Sections.SectionWords}

-- the record with a number, from 1; void has none
abbrev pub frame_of : SectionWords → ℕ → List ℕ
frame_of s zero = []
frame_of s (suc i) = slice_index_or s.frames i []

-- how many TYPE_TAG follow each other from a type on; at most n are counted
abbrev pub tags_from : SectionWords → ℕ → ℕ → ℕ
tags_from s zero id = 0
tags_from s (suc n) id = if kind (frame_of s id) == TYPE_TAG then suc (tags_from s n (third_word (frame_of s id))) else 0

-- The layer of a TYPE_TAG: 1 if its type is none, and otherwise one more than that of its type. It is in no layer, and there are more of them than records,
-- if they never end.
abbrev pub layer : SectionWords → ℕ → ℕ
layer s id = tags_from s (suc (length s.frames)) id

-- ---- the order

-- the records are in groups: VAR, DATASEC and FWD after the others, then each layer, and then the TYPE_TAG in none
abbrev pub group : SectionWords → ℕ → ℕ
group s id =
    let k = kind (frame_of s id) in
    if k == VAR then 1 else if k == DATASEC then 2 else if k == FWD then 3 else if k == TYPE_TAG then 3 + layer s id else 0

-- a TYPE_TAG in a layer
abbrev pub has_layer : SectionWords → ℕ → Bool
has_layer s id = kind (frame_of s id) == TYPE_TAG && nat_le (layer s id) (length s.frames)

-- VAR, FWD and the layers are sorted, and the other groups stay as they are
abbrev pub is_sorted : SectionWords → ℕ → Bool
is_sorted s id = kind (frame_of s id) == VAR || (kind (frame_of s id) == FWD || has_layer s id)

-- by name, then by kind_flag (that of a VAR is 0), and a layer then by the new numbers of the types
abbrev pub sorted_name : SectionWords → ℕ → List ℕ
sorted_name s id = if is_sorted s id then string_at s.strings (name_word (frame_of s id)) else []

abbrev pub sorted_flag : SectionWords → ℕ → ℕ
sorted_flag s id = if is_sorted s id then flag (frame_of s id) else 0

abbrev pub sorted_type : SectionWords → (ℕ → ℕ) → ℕ → ℕ
sorted_type s new id = if has_layer s id then new (third_word (frame_of s id)) else 0

-- what records are sorted by: their groups, and then these; names by their lengths, and then by their bytes
abbrev pub key : SectionWords → (ℕ → ℕ) → ℕ → List ℕ
key s new id =
    group s id ∷ length (sorted_name s id) ∷ (sorted_name s id ++ sorted_flag s id ∷ sorted_type s new id ∷ [])

-- whether a record precedes another: by these, and then by their old numbers
abbrev pub compare_types : SectionWords → (ℕ → ℕ) → ℕ → ℕ → Ordering
compare_types s new a b = ordering_then (slice_cmp nat_cmp (key s new a) (key s new b)) (nat_cmp a b)

-- ---- the new numbers

-- the place of a number in a list, counted from k on; a number that isn't there stays as it is
abbrev pub place_from : ℕ → List ℕ → ℕ → ℕ
place_from k [] id = id
place_from k (a ∷ rest) id = if a == id then k else place_from (suc k) rest id

-- the new number of a type, from the old numbers in their new order
abbrev pub new_number : List ℕ → ℕ → ℕ
new_number ids id = place_from 1 ids id

-- these are the old numbers in their new order
pub record IsOrder (s : SectionWords) (ids : List ℕ) : Type 0 where
  pub permutation : IsPermutation (range_with_len 1 (length s.frames)) ids
  pub sorted : IsStrictlySortedBy (compare_types s (new_number ids)) ids

-- ---- the records with new numbers

-- Field j of a record of this kind is a type: size or type, both types of an ARRAY, and after the first three fields the second of the 3 of a member,
-- the second of the 2 of a parameter, and the first of the 3 of an entry.
abbrev pub is_type_word : ℕ → ℕ → Bool
is_type_word k j =
    if j == 2 then has_target k
    else if k == ARRAY then j == 3 || j == 4
    else if is_struct k then nat_le 3 j && (j - 3) % 3 == 1
    else if k == FUNC_PROTO then nat_le 3 j && (j - 3) % 2 == 1
    else if k == DATASEC then nat_le 3 j && (j - 3) % 3 == 0
    else false

abbrev pub renewed_word : (ℕ → ℕ) → List ℕ → ℕ → ℕ
renewed_word new f j = if is_type_word (kind f) j then new (slice_index f j) else slice_index f j

abbrev pub renewed_frame : (ℕ → ℕ) → List ℕ → List ℕ
renewed_frame new f = tabulate (renewed_word new f) (length f)

-- the records in their new order
abbrev pub ordered : List ℕ → SectionWords → SectionWords
ordered ids s = record {
  order = s.order;
  strings = s.strings;
  frames = map (λ id. renewed_frame (new_number ids) (frame_of s id)) ids;
}
