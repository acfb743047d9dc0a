-- The contents of maps and sets of borrowed strings.
use Rattle.std.specs.Prelude.{◌≡◌, ◌⊎◌, ◌<◌, ◌^◌, ℕ, List, [], ◌∷◌, ◌++◌, length, map, slice_index, slice_index_or}
use Rattle.std.specs.{Borrow.Bor, List.All, List.Contains, List.Sorted.IsPermutation, List.Sorted.IsSorted}
use Rattle.btf_types.specs.Names.{kept, table_of, offset_within}
use Rattle.btf_types.specs.strings.SharedNames.{suffix_cmp, hosts_of, host_in}

-- the borrowed strings
abbrev pub borrowed_texts : List (Bor (List ℕ)) → List (List ℕ)
borrowed_texts names = map (λ name. name.now) names

-- new contains the kept names of old and of one more name
abbrev pub AddsName : List (List ℕ) → List (List ℕ) → List ℕ → Type 0
AddsName old new x = (xs : List (List ℕ)) → old ≡ kept xs → new ≡ kept (xs ++ x ∷ [])

-- likewise for several names
abbrev pub AddsNames : List (List ℕ) → List (List ℕ) → List (List ℕ) → Type 0
AddsNames old new names = (xs : List (List ℕ)) → old ≡ kept xs → new ≡ kept (xs ++ names)

-- the name is empty, or one of the kept names
abbrev pub IsInTable : List (List ℕ) → List ℕ → Type 0
IsInTable names x = (x ≡ []) ⊎ Contains names x

-- the name of an index
abbrev pub name_at : List (List ℕ) → ℕ → List ℕ
name_at ks i = slice_index_or ks i []

-- The names with their indices, sorted by their reversed bytes.
pub record AreIndexed (ks : List (List ℕ)) (sorted : List (Bor (List ℕ) × ℕ)) : Type 0 where
  pub permutation : IsPermutation ks (map (λ s. s.0.now) sorted)
  pub in_order : IsSorted suffix_cmp (map (λ s. s.0.now) sorted)
  pub inside : All (λ s. s.1 < length ks) sorted
  pub names : All (λ s. name_at ks s.1 ≡ s.0.now) sorted
  pub each : (i : ℕ) → i < length ks → Contains (map (λ s. s.1) sorted) i

-- each name has the index of its host
pub record HaveHosts (ks : List (List ℕ)) (host_indices : List ℕ) : Type 0 where
  pub whole : length host_indices ≡ length ks
  pub inside : (i : ℕ) → i < length ks → slice_index host_indices i < length ks
  pub each : (i : ℕ) → i < length ks → name_at ks (slice_index host_indices i) ≡ host_in (hosts_of ks) (name_at ks i)

-- each name that is its own host has its offset in their table, which has this length
pub record ArePlacedHosts (ks : List (List ℕ)) (host_indices text_offsets : List ℕ) (table_len : ℕ) : Type 0 where
  pub whole : length text_offsets ≡ length ks
  pub each : (i : ℕ) → i < length ks → slice_index host_indices i ≡ i → slice_index text_offsets i ≡ offset_within (hosts_of ks) (name_at ks i)
  pub long : table_len ≡ length (table_of (hosts_of ks))

-- What is stored for the kept names: the host of each, and the offset of each host.
pub record AreShared (ks : List (List ℕ)) (host_indices text_offsets : List ℕ) (table_len : ℕ) : Type 0 where
  pub own : kept ks ≡ ks
  pub have_hosts : HaveHosts ks host_indices
  pub are_placed : ArePlacedHosts ks host_indices text_offsets table_len
  pub capacity : table_len < 2 ^ 32
