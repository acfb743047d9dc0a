-- The table of hosts, in the order of first use.
use Rattle.std.specs.Prelude.{◌≡◌, ◌≢◌, ℕ, ◌+◌, ◌-◌, ◌<◌, ◌≤◌, nat_eq, if◌then◌else◌, false, List, ◌++◌, length, map, take, drop, slice_index}
use Rattle.std.specs.List.{All, Contains, flat_map}
use Rattle.btf_types.specs.{Names.with_nul, Names.offset_within, Reading.text_from, strings.CommonSuffixes.at_rank}
use Rattle.btf_types.specs.strings.SharedNames.{is_suffix, hosts, host, shared_table, shared_offset}
use Rattle.bpf_canon.specs.btf.strings.UsedOffsets.{Used, number_of, used_count}
use Rattle.bpf_canon.specs.btf.strings.InHost.{host_at, no_host, sorted_in}
use Rattle.bpf_canon.specs.declared.btf.strings.{shared_offsets.InHost.InHost, ranked_texts.RankedTexts.RankedTexts}
use Rattle.bpf_canon.specs.declared.btf.strings.shared_offsets.{Span.Span, HostOffsets.HostOffsets}

-- the bytes of the section from the start of a span to the NUL at its end
abbrev pub span_bytes : List ℕ → Span → List ℕ
span_bytes section s = take (s.end + 1 - s.start) (drop s.start section)

-- the span is part of the section
pub record IsSpan (section : List ℕ) (s : Span) : Type 0 where
  pub up : s.start ≤ s.end
  pub inside : s.end < length section

-- the new spans have the bytes of the old ones, then the bytes of a string
pub record HasText (section : List ℕ) (old new : List Span) (text : Span) : Type 0 where
  pub are_spans : All (IsSpan section) new
  pub bytes : flat_map (span_bytes section) new ≡ flat_map (span_bytes section) old ++ span_bytes section text

-- likewise in each section that contains the old spans and the string
abbrev pub AddsText : List Span → List Span → Span → Type 0
AddsText old new text = (section : List ℕ) → All (IsSpan section) old → IsSpan section text → HasText section old new text

-- Among the names xs, the host of x is the string of this rank, which isn't a suffix of the next one.
pub record IsAtHost (sorted xs : List (List ℕ)) (x : List ℕ) (h : InHost) : Type 0 where
  pub rank : ℕ
  pub numbered : h.host ≡ rank
  pub inside : rank < length sorted
  pub last : rank + 1 < length sorted → is_suffix (at_rank sorted rank) (at_rank sorted (rank + 1)) ≡ false
  pub is_host : host xs x ≡ at_rank sorted rank
  pub before : h.before + length x ≡ length (at_rank sorted rank)
  pub long : h.len ≡ length (at_rank sorted rank)

-- the name at an offset has its host, and the empty one has none
pub record HasHost (section slots : List ℕ) (sorted xs : List (List ℕ)) (in_hosts : List InHost) (off : ℕ) : Type 0 where
  pub inside : off < length section
  pub used : slice_index slots off ≢ 0
  pub empty : slice_index section off ≡ 0 → host_at slots in_hosts off ≡ no_host
  pub some : slice_index section off ≢ 0 → IsAtHost sorted xs (text_from section off) (host_at slots in_hosts off)

-- The hosts are spans of the section, and each rank whose string is a host has its offset.
pub record AreHostOffsets (section : List ℕ) (sorted xs : List (List ℕ)) (by_rank : List ℕ) (spans : List Span) (len : ℕ) : Type 0 where
  pub are_spans : All (IsSpan section) spans
  pub texts : flat_map (span_bytes section) spans ≡ flat_map with_nul (hosts xs)
  pub whole : len ≡ length (shared_table xs)
  pub ranks : length by_rank ≡ length sorted
  pub text_offset : (r : ℕ) → r < length sorted → (r + 1 < length sorted → is_suffix (at_rank sorted r) (at_rank sorted (r + 1)) ≡ false) → Contains (hosts xs) (at_rank sorted r) → slice_index by_rank r ≡ offset_within (hosts xs) (at_rank sorted r)

-- The same, stated of the structs: each used name has its host, and each host has its offset.
abbrev pub names_in : {A : Type 0} → RankedTexts A → Used → List (List ℕ)
names_in r used = map (text_from r.section.now) used.offsets

abbrev pub HaveTheirHosts : {A : Type 0} → Used → RankedTexts A → List InHost → Type 0
HaveTheirHosts used r in_hosts = All (HasHost r.section.now used.slots (sorted_in r) (names_in r used) in_hosts) used.offsets

abbrev pub AreOffsetsOf : {A : Type 0} → Used → RankedTexts A → HostOffsets A → Type 0
AreOffsetsOf used r h = AreHostOffsets r.section.now (sorted_in r) (names_in r used) h.by_rank.items h.spans.items h.len

-- the new offset of a name: that of its host plus the number of bytes of the host before the name, or 0 for the empty name
abbrev pub new_name_offset : List ℕ → InHost → ℕ
new_name_offset by_rank at = if nat_eq at.len 0 then 0 else slice_index by_rank at.host + at.before

-- Each used name has, by the number of its old offset, its offset in the shared table, whose contents are the hosts.
pub record ArePlaced (section : List ℕ) (used : Used) (text_offsets : List ℕ) (spans : List Span) (len : ℕ) : Type 0 where
  pub marked : (off : ℕ) → Contains used.offsets off → slice_index used.slots off ≢ 0
  pub numbers : length text_offsets ≡ used_count used
  pub text_offset : (off : ℕ) → Contains used.offsets off → slice_index text_offsets (number_of used off) ≡ shared_offset (map (text_from section) used.offsets) (text_from section off)
  pub are_spans : All (IsSpan section) spans
  pub texts : flat_map (span_bytes section) spans ≡ flat_map with_nul (hosts (map (text_from section) used.offsets))
  pub whole : len ≡ length (shared_table (map (text_from section) used.offsets))
