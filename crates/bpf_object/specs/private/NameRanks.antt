-- The ranks of names.
use Rattle.std.specs.Prelude.{◌≡◌, ◌≢◌, ℕ, ◌+◌, ◌-◌, ◌<◌, ◌≤◌, min, true, List, ◌∷◌, length, map, take, drop, slice_index}
use Rattle.std.specs.{Cmp.Lexicographic.slice_cmp, List.All, List.Contains}
use Rattle.std.specs.List.Sorted.{IsStrictlySortedBy}
use Rattle.std.specs.Ordering.{nat_cmp}
use Rattle.std.specs.declared.cmp.Ordering.TheVariants.{Greater}
use Rattle.bpf_elf.specs.Names.{is_closed, string_at}
use Rattle.bpf_object.specs.declared.name_ranks.NameAt.{NameAt}

-- a name ends there
pub record HasEnd (strings : List ℕ) (name : NameAt) : Type 0 where
  pub ordered : name.start ≤ name.end
  pub size : length (string_at strings name.start) ≡ name.end - name.start

-- its bytes
abbrev pub bytes_in : List ℕ → NameAt → List ℕ
bytes_in strings name =
    let end = min name.end (length strings) in
    let start = min name.start end in
    take (end - start) (drop start strings)

-- a string table, 0 or 1 and the rank of the name at each offset, an offset of the name of each rank, and the last of these names
pub record RankedNames : Type 0 where
  pub strings : List ℕ
  pub ranks : List ℕ
  pub names : List ℕ
  pub last : NameAt

-- names are sorted by their lengths, and then by their bytes
abbrev pub text_key : List ℕ → List ℕ
text_key name = length name ∷ name

abbrev pub name_key : List ℕ → ℕ → List ℕ
name_key strings off = text_key (string_at strings off)

abbrev pub bytes_key : List ℕ → NameAt → List ℕ
bytes_key strings name = text_key (bytes_in strings name)

-- where names begin
abbrev pub starts : List NameAt → List ℕ
starts names = map (λ name. name.start) names

-- the same offsets, each once
pub record HasSame (offsets distinct : List ℕ) : Type 0 where
  pub keeps : (off : ℕ) → Contains offsets off → Contains distinct off
  pub adds_none : (off : ℕ) → Contains distinct off → Contains offsets off
  pub few : length distinct ≤ length offsets

-- the names at these offsets
pub record AreNames (strings offsets : List ℕ) (names : List NameAt) : Type 0 where
  pub ends : All (HasEnd strings) names
  pub same : HasSame offsets (starts names)

-- none of them is greater than a later one
abbrev pub Rise : List ℕ → List NameAt → Type 0
Rise strings names =
    (i j : ℕ) → i ≤ j → j < length names → slice_cmp nat_cmp (name_key strings (slice_index (starts names) i)) (name_key strings (slice_index (starts names) j)) ≢ Greater

-- an offset of the last name
abbrev pub last_name : List ℕ → ℕ
last_name names = slice_index names (length names - 1)

-- the name at an offset has this rank, from 1
pub record HasRank (strings names : List ℕ) (off rank : ℕ) : Type 0 where
  pub there : rank ≤ length names
  pub is : string_at strings off ≡ string_at strings (slice_index names (rank - 1))

pub record AreRanks (strings ranks names : List ℕ) (last : NameAt) : Type 0 where
  pub closed : is_closed strings ≡ true
  pub whole : length ranks ≡ length strings
  pub some : 0 < length names
  pub inside : All (λ off. off < length strings) names
  pub sorted : IsStrictlySortedBy (slice_cmp nat_cmp) (map (name_key strings) names)
  pub each : (off : ℕ) → 0 < slice_index ranks off → HasRank strings names off (slice_index ranks off)
  pub last_is : last_name names ≡ last.start
  pub ends : HasEnd strings last

-- likewise, of names whose ranks are known
pub record IsRank (r : RankedNames) (off rank : ℕ) : Type 0 where
  pub has : HasRank r.strings r.names off rank
  pub sorted : IsStrictlySortedBy (slice_cmp nat_cmp) (map (name_key r.strings) r.names)

-- the empty name alone is noted
pub record OfEmpty (strings : List ℕ) (r : RankedNames) : Type 0 where
  pub strings_are : r.strings ≡ strings
  pub start : r.last.start ≡ 0
  pub known : 0 < slice_index r.ranks 0
  pub one : length r.names ≡ 1

-- the name at an offset is noted, and is the last one; those before still are
pub record Notes (old new : RankedNames) (off : ℕ) : Type 0 where
  pub known : 0 < slice_index new.ranks off
  pub keeps : (other : ℕ) → 0 < slice_index old.ranks other → 0 < slice_index new.ranks other
  pub last : name_key new.strings new.last.start ≡ name_key new.strings off
  pub few : length new.names ≤ length old.names + 1

-- the names at these offsets have ranks, and the empty one
pub record AreNoted (r : RankedNames) (offsets : List ℕ) : Type 0 where
  pub empty : 0 < slice_index r.ranks 0
  pub each : All (λ off. 0 < slice_index r.ranks off) offsets
