-- Laws of the string table in which names share suffixes, about the definitions only.
use Rattle.std.specs.Prelude.{◌≡◌, ℕ, ◌+◌, ◌<◌, ◌≤◌, true, false, List, length, slice_index_or}
use Rattle.std.specs.List.{All, AllZip, Any, Contains, flat_map, sum_by, Sorted.IsPermutation, Sorted.IsSorted}
use Rattle.std.specs.Ordering.{is_lt}
use Rattle.bpf_words.specs.declared.Order.{Order}
use Rattle.btf_raw.specs.{Header.HasNulEnds, Names.NameAt, Names.IsWithoutNul}
use Rattle.btf_types.specs.{Values.TypeRecord, Encoding.IsRecord, strings.StringTable.string_table}
use Rattle.btf_types.specs.Names.{IsName, with_nul, kept, table_of}
use Rattle.btf_types.specs.strings.SharedNames.{is_suffix, is_proper_suffix, suffix_cmp, hosts, host, shared_table, shared_offset}

-- each name is at its offset in the string table
abbrev pub SharedOffsetsHold : List (List ℕ) → Type 0
SharedOffsetsHold xs = All IsName xs → All (λ x. NameAt (shared_table xs) (shared_offset xs x) x) xs

-- the section consists of these strings, each followed by NUL: it is cut after each NUL
pub record IsCutInto (section : List ℕ) (strings : List (List ℕ)) : Type 0 where
  pub without_nul : All IsWithoutNul strings
  pub whole : section ≡ flat_map with_nul strings

-- the section contains the name, at some offset
abbrev pub HasName : List ℕ → List ℕ → Type 0
HasName section x = (offset : ℕ) × NameAt section offset x

-- a section that begins and ends with NUL can be cut
abbrev pub SectionsAreCut : List ℕ → Type 0
SectionsAreCut section = HasNulEnds section → (strings : List (List ℕ)) × IsCutInto section strings

-- each name in a section is a suffix of one of its strings
abbrev pub NamesEndStrings : List ℕ → List (List ℕ) → Type 0
NamesEndStrings section strings = IsCutInto section strings → (x : List ℕ) → HasName section x → Any (λ s. is_suffix x s ≡ true) strings

-- no string ends with two different hosts
abbrev pub HostsEndApart : List (List ℕ) → Type 0
HostsEndApart xs = (s h g : List ℕ) → Contains (hosts xs) h → Contains (hosts xs) g → is_suffix h s ≡ true → is_suffix g s ≡ true → h ≡ g

-- a section that contains all names is at least as long as their shared table
abbrev pub SharedIsShortest : List (List ℕ) → List ℕ → Type 0
SharedIsShortest xs section = HasNulEnds section → All (HasName section) xs → length (shared_table xs) ≤ length section

-- the kept names, sorted by reversed bytes
pub record IsSuffixSorted (xs sorted : List (List ℕ)) : Type 0 where
  pub permutation : IsPermutation (kept xs) sorted
  pub in_order : IsSorted suffix_cmp sorted

-- with the kept names so sorted, a name that is a proper suffix of any other is a proper suffix of the next one, and both have the same host
pub record NextSharesHost (xs sorted : List (List ℕ)) (k : ℕ) (x next : List ℕ) : Type 0 where
  pub inside : k + 1 < length sorted
  pub suffix : is_proper_suffix x next ≡ true
  pub host : host xs x ≡ host xs next

-- if a sorted name is a suffix of any other, it is a suffix of the next one, and has its host
abbrev pub NextHasHost : List (List ℕ) → List (List ℕ) → Type 0
NextHasHost xs sorted = IsSuffixSorted xs sorted → (k : ℕ) (d z : List ℕ) → k < length sorted → Contains (kept xs) z → is_proper_suffix (slice_index_or sorted k d) z ≡ true → NextSharesHost xs sorted k (slice_index_or sorted k d) (slice_index_or sorted (k + 1) d)

-- a string table has one byte, and for each stored name its bytes and one more
abbrev pub TableLength : List (List ℕ) → Type 0
TableLength ks = length (table_of ks) ≡ 1 + sum_by (λ k. length k + 1) ks

-- the host of a kept name: a host that ends with it, such that no lesser one by reversed bytes does
pub record IsLeastHost (xs : List (List ℕ)) (x h : List ℕ) : Type 0 where
  pub host : Contains (hosts xs) h
  pub suffix : is_suffix x h ≡ true
  pub least : (g : List ℕ) → Contains (hosts xs) g → is_suffix x g ≡ true → is_lt (suffix_cmp g h) ≡ false

-- the host of a name is the least stored name that ends with it
abbrev pub HostIsLeast : List (List ℕ) → Type 0
HostIsLeast xs = (x : List ℕ) → Contains (kept xs) x → IsLeastHost xs x (host xs x)

-- no other name is the host
abbrev pub HostIsOne : List (List ℕ) → Type 0
HostIsOne xs = (x g h : List ℕ) → IsLeastHost xs x g → IsLeastHost xs x h → g ≡ h

-- the string table of records is no longer than a string section that encodes them and has NUL ends
abbrev pub EncodedTableFits : Type 0
EncodedTableFits = (o : Order) (strings : List ℕ) (v : List TypeRecord) (encodings : List (List ℕ)) → HasNulEnds strings → AllZip (IsRecord o strings) v encodings → length (string_table v) ≤ length strings
