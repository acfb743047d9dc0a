-- The length of the longest common suffix of two strings, and laws by which these lengths determine the hosts of sorted strings.
use Rattle.std.specs.Prelude.{◌≡◌, ℕ, ◌+◌, ◌-◌, ◌<◌, ◌≤◌, ◌==◌, true, false, List, [], ◌∷◌, length, reverse, slice_index_or, if◌then◌else◌}
use Rattle.std.specs.List.Sorted.{IsSorted}
use Rattle.btf_types.specs.strings.{SharedNames.is_suffix, SharedNames.suffix_cmp, SharedNames.hosts_of, SharedNames.host_in, LongestTexts.SameMembers}

-- the length of the longest common prefix of two lists
abbrev pub common_front : List ℕ → List ℕ → ℕ
common_front [] y = 0
common_front (a ∷ x) [] = 0
common_front (a ∷ x) (b ∷ y) = if a == b then 1 + common_front x y else 0

abbrev pub common_tail : List ℕ → List ℕ → ℕ
common_tail x y = common_front (reverse x) (reverse y)

-- these strings, sorted by reversed bytes; some may occur more than once
pub record AreInSuffixOrder (ks sorted : List (List ℕ)) : Type 0 where
  pub members : SameMembers ks sorted
  pub in_order : IsSorted suffix_cmp sorted

-- the string at a rank
abbrev pub at_rank : List (List ℕ) → ℕ → List ℕ
at_rank sorted k = slice_index_or sorted k []

-- the ranks of the strings that end with a string are contiguous
abbrev pub RanksAreTogether : List (List ℕ) → Type 0
RanksAreTogether sorted = IsSorted suffix_cmp sorted → (x : List ℕ) (i j k : ℕ) → i ≤ j → j ≤ k → k < length sorted → is_suffix x (at_rank sorted i) ≡ true → is_suffix x (at_rank sorted k) ≡ true → is_suffix x (at_rank sorted j) ≡ true

-- Rank l is the first such that adjacent strings from there up to rank k have at least n bytes in common at their ends.
pub record IsFirstRank (sorted : List (List ℕ)) (n l k : ℕ) : Type 0 where
  pub before : l ≤ k
  pub common : (j : ℕ) → l < j → j ≤ k → n ≤ common_tail (at_rank sorted (j - 1)) (at_rank sorted j)
  pub less : 0 < l → common_tail (at_rank sorted (l - 1)) (at_rank sorted l) < n

-- Rank r is the first from rank l on whose string isn't a suffix of the next one.
pub record IsNextHost (sorted : List (List ℕ)) (l r : ℕ) : Type 0 where
  pub inside : r < length sorted
  pub from : l ≤ r
  pub passed : (j : ℕ) → l ≤ j → j < r → is_suffix (at_rank sorted j) (at_rank sorted (j + 1)) ≡ true
  pub stops : r + 1 < length sorted → is_suffix (at_rank sorted r) (at_rank sorted (r + 1)) ≡ false

-- Rank l is the first whose string ends with x.
pub record IsFirstEnding (sorted : List (List ℕ)) (x : List ℕ) (l : ℕ) : Type 0 where
  pub ends : is_suffix x (at_rank sorted l) ≡ true
  pub first : (j : ℕ) → j < length sorted → is_suffix x (at_rank sorted j) ≡ true → l ≤ j

-- the first rank from which on the sorted strings end with a string, by their common suffixes
abbrev pub FirstRankEnds : List (List ℕ) → Type 0
FirstRankEnds sorted = IsSorted suffix_cmp sorted → (x : List ℕ) (l k : ℕ) → k < length sorted → is_suffix x (at_rank sorted k) ≡ true → IsFirstRank sorted (length x) l k → IsFirstEnding sorted x l

-- the next host from that rank on is the host of the string
abbrev pub RankHasHost : List (List ℕ) → List (List ℕ) → Type 0
RankHasHost ks sorted = AreInSuffixOrder ks sorted → (x : List ℕ) (l k r : ℕ) → k < length sorted → is_suffix x (at_rank sorted k) ≡ true → IsFirstRank sorted (length x) l k → IsNextHost sorted l r → host_in (hosts_of ks) x ≡ at_rank sorted r
