-- Numbers of sorted strings: the common suffixes of adjacent ones, and the ranks that follow from them.
use Rattle.std.specs.Prelude.{◌≡◌, ℕ, zero, suc, ◌<◌, ◌≤◌, List, length, slice_index}
use Rattle.btf_types.specs.strings.{CommonSuffixes.common_tail, CommonSuffixes.at_rank, CommonSuffixes.IsNextHost, SharedNames.suffix_cmp}
use Rattle.std.specs.List.Sorted.{IsSorted}

-- the length of the common suffix of the string of a rank and the one before it
abbrev pub common_before : List (List ℕ) → ℕ → ℕ
common_before sorted zero = 0
common_before sorted (suc k) = common_tail (at_rank sorted k) (at_rank sorted (suc k))

pub record AreCommon (sorted : List (List ℕ)) (common : List ℕ) : Type 0 where
  pub whole : length common ≡ length sorted
  pub each : (k : ℕ) → k < length sorted → slice_index common k ≡ common_before sorted k

-- each rank has its next host
pub record AreNextHosts (sorted : List (List ℕ)) (host_ranks : List ℕ) : Type 0 where
  pub whole : length host_ranks ≡ length sorted
  pub each : (k : ℕ) → k < length sorted → IsNextHost sorted k (slice_index host_ranks k)

-- p is the last rank before k with a shorter common suffix
pub record IsLower (common : List ℕ) (p k : ℕ) : Type 0 where
  pub before : p < k
  pub less : slice_index common p < slice_index common k
  pub between : (j : ℕ) → p < j → j < k → slice_index common k ≤ slice_index common j

-- each of the first ranks with a non-empty common suffix has its lower rank
pub record AreLower (common lower : List ℕ) : Type 0 where
  pub few : length lower ≤ length common
  pub first : slice_index common 0 ≡ 0
  pub each : (k : ℕ) → k < length lower → 0 < slice_index common k → IsLower common (slice_index lower k) k

-- strings sorted by their reversed bytes, with these numbers of each
pub record AreRanked (sorted : List (List ℕ)) (common host_ranks : List ℕ) : Type 0 where
  pub in_order : IsSorted suffix_cmp sorted
  pub are_common : AreCommon sorted common
  pub are_hosts : AreNextHosts sorted host_ranks
