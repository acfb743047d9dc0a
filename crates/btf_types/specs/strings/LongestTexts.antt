-- Laws by which a few of the names determine all hosts, about the definitions only.
use Rattle.std.specs.Prelude.{◌≡◌, ℕ, ◌<◌, true, List, length}
use Rattle.std.specs.{List.Any, List.Contains, List.filter, List.list_any, Str.bytes_eq}
use Rattle.btf_types.specs.{Names.kept, strings.SharedNames.is_suffix, strings.SharedNames.hosts, strings.SharedNames.host_in}

-- a selection of the strings, such that each string that isn't empty is a suffix of one of these
pub record AreLongest (xs longest : List (List ℕ)) : Type 0 where
  pub among : (z : List ℕ) → Contains longest z → Contains xs z
  pub each : (x : List ℕ) → Contains xs x → 0 < length x → Any (λ l. is_suffix x l ≡ true) longest

-- these lists have the same elements
pub record SameMembers (xs ys : List (List ℕ)) : Type 0 where
  pub here : (z : List ℕ) → Contains xs z → Contains ys z
  pub there : (z : List ℕ) → Contains ys z → Contains xs z

-- the hosts of the longest strings are the hosts of all names
abbrev pub LongestHaveHosts : List (List ℕ) → List (List ℕ) → Type 0
LongestHaveHosts xs longest = AreLongest xs longest → SameMembers (hosts xs) (hosts longest)

-- in the order of first use, the hosts are the stored names that are hosts of the longest strings
abbrev pub HostsByFirstUse : List (List ℕ) → List (List ℕ) → Type 0
HostsByFirstUse xs longest = AreLongest xs longest → hosts xs ≡ filter (λ x. list_any (bytes_eq x) (hosts longest)) (kept xs)

-- each string has one host, by the names and by the longest strings
abbrev pub LongestHaveHost : List (List ℕ) → List (List ℕ) → Type 0
LongestHaveHost xs longest = AreLongest xs longest → (x : List ℕ) → host_in (hosts xs) x ≡ host_in (hosts longest) x
