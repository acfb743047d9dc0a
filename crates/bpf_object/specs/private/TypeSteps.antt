-- The order of the records of .BTF as it is computed, by old numbers.
use Rattle.std.specs.Prelude.{◌≡◌, ◌≢◌, ℕ, ◌+◌, ◌-◌, ◌^◌, ◌<◌, ◌≤◌, ◌==◌, ◌||◌, min, Bool, true, List, length, map, slice_index, slice_index_or, if◌then◌else◌}
use Rattle.std.specs.{List.All, List.Contains, List.range_with_len}
use Rattle.std.specs.List.Sorted.{IsPermutation, IsNonDecreasingBy}
use Rattle.std.specs.declared.cmp.Ordering.TheVariants.{Less}
use Rattle.bpf_elf.specs.Names.{is_closed}
use Rattle.btf_raw.specs.KindNumbers.{FWD, VAR, DATASEC, TYPE_TAG}
use Rattle.btf_raw.specs.Frames.{name_word, third_word, kind}
use Rattle.btf_types.specs.Sections.{SectionWords}
use Rattle.bpf_object.specs.declared.{type_keys.RecordKey.RecordKey, type_layers.Walk.Walk}
use Rattle.bpf_object.specs.TypeOrder.{frame_of, layer, group, is_sorted, sorted_flag, sorted_type, compare_types, new_number, IsOrder, renewed_frame}
use Rattle.bpf_object.specs.private.NameRanks.{RankedNames, IsRank}

-- a type is TYPE_TAG, and this is its type
pub record IsTagOf (s : SectionWords) (id t : ℕ) : Type 0 where
  pub tag : (kind (frame_of s id) == TYPE_TAG) ≡ true
  pub is : t ≡ third_word (frame_of s id)

-- the TYPE_TAG that have been counted from a type on, and where they lead; if they go on from there, they are at least so many
pub record IsWalk (s : SectionWords) (least id : ℕ) (walk : Walk) : Type 0 where
  pub most : walk.steps ≤ length s.frames + 1
  pub leads : layer s id ≡ min (walk.steps + layer s walk.to) (length s.frames + 1)
  pub goes_on : 0 < walk.to → min least (length s.frames + 1) ≤ walk.steps

abbrev pub walk_at : List Walk → ℕ → Walk
walk_at walks id = slice_index_or walks id (record { steps = 0; to = 0 })

abbrev pub AreWalks : SectionWords → ℕ → List Walk → Type 0
AreWalks s least walks = (id : ℕ) → IsWalk s least id (walk_at walks id)

abbrev pub steps_of : List Walk → List ℕ
steps_of walks = map (λ walk. walk.steps) walks

abbrev pub AreLayers : SectionWords → List ℕ → Type 0
AreLayers s layers = (id : ℕ) → id ≤ length s.frames → slice_index layers id ≡ layer s id

-- records of this kind may be sorted by their names
abbrev pub may_be_sorted : ℕ → Bool
may_be_sorted k = k == VAR || (k == FWD || k == TYPE_TAG)

-- the offsets of the names of those among the first n records
pub record AreNameOffsets (s : SectionWords) (n : ℕ) (offsets : List ℕ) : Type 0 where
  pub inside : All (λ off. off < length s.strings) offsets
  pub few : length offsets ≤ n
  pub each : (id : ℕ) → 0 < id → id ≤ n → may_be_sorted (kind (frame_of s id)) ≡ true → Contains offsets (name_word (frame_of s id))

-- the new number of a type, by a list of those of all types from void on
abbrev pub numbered : List ℕ → ℕ → ℕ
numbered numbers id = slice_index_or numbers id id

-- the group of a record of this kind, in this layer
abbrev pub group_of : ℕ → ℕ → ℕ
group_of k l = if k == VAR then 1 else if k == DATASEC then 2 else if k == FWD then 3 else if k == TYPE_TAG then 3 + l else 0

-- the offset of the name that a record is sorted by, or that of the empty one
abbrev pub sorted_offset : SectionWords → ℕ → ℕ
sorted_offset s id = if is_sorted s id then name_word (frame_of s id) else 0

-- the name that each record is sorted by has a rank
abbrev pub AreRanked : SectionWords → RankedNames → Type 0
AreRanked s names = (id : ℕ) → 0 < id → id ≤ length s.frames → 0 < slice_index names.ranks (sorted_offset s id)

-- what a record is sorted by; its name by the rank, from 1
pub record IsKey (s : SectionWords) (names : RankedNames) (new : ℕ → ℕ) (key : RecordKey) : Type 0 where
  pub group : key.group ≡ group s key.id
  pub known : 0 < key.name
  pub name : IsRank names (sorted_offset s key.id) key.name
  pub flag : key.flag ≡ sorted_flag s key.id
  pub target : key.target ≡ sorted_type s new key.id

-- what the order is found from: the layers of the records, and the ranks of their names
pub record IsSortable (s : SectionWords) (layers : List ℕ) (names : RankedNames) : Type 0 where
  pub few : length s.frames + 5 ≤ 2 ^ 32
  pub closed : is_closed s.strings ≡ true
  pub layers_are : AreLayers s layers
  pub strings : names.strings ≡ s.strings
  pub ranked : AreRanked s names

-- a record has the number of its place, and the one before precedes it
pub record IsPlaced (s : SectionWords) (ids numbers : List ℕ) (k : ℕ) : Type 0 where
  pub place : slice_index numbers (slice_index ids k) ≡ k + 1
  pub follows : 0 < k → compare_types s (numbered numbers) (slice_index ids (k - 1)) (slice_index ids k) ≡ Less

-- the numbers of records by their keys, and their groups
abbrev pub ids_in : List RecordKey → List ℕ
ids_in keys = map (λ (key : RecordKey). key.id) keys

abbrev pub HaveGroups : SectionWords → List RecordKey → Type 0
HaveGroups s keys = All (λ key. key.group ≡ group s key.id) keys

-- each number is there once
abbrev pub AreApart : List ℕ → Type 0
AreApart ids = (i j : ℕ) → i < j → j < length ids → slice_index ids i ≢ slice_index ids j

-- each record precedes the next
abbrev pub AreInOrder : SectionWords → (ℕ → ℕ) → List ℕ → Type 0
AreInOrder s new ids = (k : ℕ) → k + 1 < length ids → compare_types s new (slice_index ids k) (slice_index ids (k + 1)) ≡ Less

-- all records are there, in the order of their groups
pub record AreGrouped (s : SectionWords) (ids : List ℕ) : Type 0 where
  pub all : IsPermutation (range_with_len 1 (length s.frames)) ids
  pub rise : IsNonDecreasingBy (group s) ids

-- the groups before a place are in their order, and each record there has the number of its place, and void has 0
pub record AreSortedTo (s : SectionWords) (ids numbers : List ℕ) (end : ℕ) : Type 0 where
  pub grouped : AreGrouped s ids
  pub apart : (j k : ℕ) → j < end → end ≤ k → k < length ids → group s (slice_index ids j) < group s (slice_index ids k)
  pub whole : length numbers ≡ length ids + 1
  pub void : slice_index numbers 0 ≡ 0
  pub each : (k : ℕ) → k < end → IsPlaced s ids numbers k

-- the records in their new order, and the numbers that they have there
pub record AreNumbered (s : SectionWords) (ids numbers : List ℕ) : Type 0 where
  pub order : IsOrder s ids
  pub each : (id : ℕ) → numbered numbers id ≡ new_number ids id

-- the numbers are those of records
abbrev pub AreInRange : ℕ → List ℕ → Type 0
AreInRange n ids = All (λ id. (0 < id) × (id ≤ n)) ids

-- records in this order, with these new numbers
abbrev pub renewed_frames : SectionWords → (ℕ → ℕ) → List ℕ → List (List ℕ)
renewed_frames s new ids = map (λ id. renewed_frame new (frame_of s id)) ids
