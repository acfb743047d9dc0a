-- The positions of names in their hosts.
use Rattle.std.specs.Prelude.{◌≡◌, ◌≢◌, ℕ, ◌+◌, ◌^◌, ◌<◌, false, List, length, slice_index, slice_index_or}
use Rattle.btf_types.specs.Reading.{text_from}
use Rattle.btf_types.specs.strings.{SharedNames.is_suffix, SharedNames.hosts_of, SharedNames.host_in, CommonSuffixes.at_rank, CommonSuffixes.AreInSuffixOrder}
use Rattle.bpf_canon.specs.btf.strings.UsedOffsets.{Used, offset_number}
use Rattle.bpf_canon.specs.btf.strings.{SectionTexts.texts_in, Ranks.AreRanked, Longest.IsInText, Longest.AreLongestOf}
use Rattle.bpf_canon.specs.declared.btf.strings.ranked_texts.SectionText.{SectionText}
use Rattle.bpf_canon.specs.declared.btf.strings.{shared_offsets.InHost.InHost, ranked_texts.RankedTexts.RankedTexts}

-- The string of this rank is the host of x in every list with this sorted order, and it isn't a suffix of the next one.
pub record IsInHost (sorted : List (List ℕ)) (x : List ℕ) (h : InHost) : Type 0 where
  pub rank : ℕ
  pub numbered : h.host ≡ rank
  pub inside : rank < length sorted
  pub last : rank + 1 < length sorted → is_suffix (at_rank sorted rank) (at_rank sorted (rank + 1)) ≡ false
  pub host : (ks : List (List ℕ)) → AreInSuffixOrder ks sorted → host_in (hosts_of ks) x ≡ at_rank sorted rank
  pub before : h.before + length x ≡ length (at_rank sorted rank)
  pub long : h.len ≡ length (at_rank sorted rank)

abbrev pub no_host : InHost
no_host = record { host = 0; before = 0; len = 0 }

abbrev pub no_text : SectionText
no_text = record { key = 0; before = 0; start = 0; end = 0 }

-- the host of a used offset
abbrev pub host_at : List ℕ → List InHost → ℕ → InHost
host_at slots in_hosts off = slice_index_or in_hosts (offset_number slots off) no_host

-- The used offsets within a string have their hosts, and the others are unchanged.
pub record FindsWithin (section slots : List ℕ) (sorted : List (List ℕ)) (t : SectionText) (old new : List InHost) : Type 0 where
  pub whole : length new ≡ length old
  pub here : (off : ℕ) → slice_index slots off ≢ 0 → IsInText off t → IsInHost sorted (text_from section off) (host_at slots new off)
  pub there : (off : ℕ) → slice_index slots off ≢ 0 → ¬ IsInText off t → host_at slots new off ≡ host_at slots old off

-- Each used offset has its host, unless its string is empty.
pub record AreInHosts (section slots : List ℕ) (sorted : List (List ℕ)) (in_hosts : List InHost) : Type 0 where
  pub whole : length in_hosts ≡ offset_number slots (length slots)
  pub empty : (off : ℕ) → slice_index slots off ≢ 0 → slice_index section off ≡ 0 → host_at slots in_hosts off ≡ no_host
  pub some : (off : ℕ) → slice_index slots off ≢ 0 → slice_index section off ≢ 0 → IsInHost sorted (text_from section off) (host_at slots in_hosts off)

-- Each used offset within the strings of the first k ranks has its host, and that of an empty string has none.
pub record HostsTo (section slots : List ℕ) (ts : List SectionText) (sorted : List (List ℕ)) (in_hosts : List InHost) (k : ℕ) : Type 0 where
  pub whole : length in_hosts ≡ offset_number slots (length slots)
  pub empty : (off : ℕ) → slice_index slots off ≢ 0 → slice_index section off ≡ 0 → host_at slots in_hosts off ≡ no_host
  pub here : (j off : ℕ) → j < k → slice_index slots off ≢ 0 → IsInText off (slice_index_or ts j no_text) → IsInHost sorted (text_from section off) (host_at slots in_hosts off)

-- The longest used strings of a section, sorted, with their numbers.
pub record AreRankedTexts (section slots : List ℕ) (ts : List SectionText) (common host_ranks : List ℕ) : Type 0 where
  pub ranked : AreRanked (texts_in section ts) common host_ranks
  pub longest : AreLongestOf section slots ts
  pub whole : length slots ≡ length section
  pub few : length section < 2 ^ 32

-- The same, stated of the struct: the strings by rank, and the hosts found for the first ranks.
abbrev pub sorted_in : {A : Type 0} → RankedTexts A → List (List ℕ)
sorted_in r = texts_in r.section.now r.texts.items

abbrev pub IsRankedFor : {A : Type 0} → Used → RankedTexts A → Type 0
IsRankedFor used r = AreRankedTexts r.section.now used.slots r.texts.items r.common.items r.host_ranks.items

abbrev pub FindsWithinRank : {A : Type 0} → Used → RankedTexts A → ℕ → List InHost → List InHost → Type 0
FindsWithinRank used r rank old new = FindsWithin r.section.now used.slots (sorted_in r) (slice_index_or r.texts.items rank no_text) old new

abbrev pub FindsRanks : {A : Type 0} → Used → RankedTexts A → List InHost → ℕ → Type 0
FindsRanks used r in_hosts k = HostsTo r.section.now used.slots r.texts.items (sorted_in r) in_hosts k

abbrev pub FindsHosts : {A : Type 0} → Used → RankedTexts A → List InHost → Type 0
FindsHosts used r in_hosts = AreInHosts r.section.now used.slots (sorted_in r) in_hosts
