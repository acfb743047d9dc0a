-- From the hosts of used offsets to the offsets of names in the shared table.
use Rattle.std.proofs.Common.{◌≡◌, ◌≢◌, ℕ, ◌+◌, ◌^◌, ◌<◌, if◌then◌else◌, inl, inr, List, [], ◌∷◌, length, map, get_or, sym, ap, ◌∙◌, subst, arith, rules}
use Rattle.std.proofs.lemmas.Grind.{common_steps}
use Rattle.std.specs.{Prelude.nat_eq, List.All, List.Any, List.Contains, List.Sorted.IsPermutation}
use Rattle.std.proofs.lemmas.Bool.{cases_eq, Decides.nat_tests}
use Rattle.std.proofs.lemmas.List.{length-map, get_or-map, get_or_default, Elements.All-map}
use Rattle.std.proofs.lemmas.List.Sorted.{All-permutation, Contains-permutation, length_permutation}
use Rattle.btf_types.specs.{Names.kept, Names.offset_within, Reading.text_from}
use Rattle.btf_types.specs.strings.SharedNames.{hosts, hosts_of, host_in, shared_among, shared_table, shared_offset}
use Rattle.btf_types.specs.strings.{LongestTexts.AreLongest, CommonSuffixes.at_rank, CommonSuffixes.AreInSuffixOrder}
use Rattle.btf_types.proofs.Members.{Has, Has-from_Contains, Contains-from_Has}
use Rattle.btf_types.proofs.StringLemmas.Longest.{longest_have_host}
use Rattle.bpf_canon.proofs.BtfLemmas.Names.KeptSteps.{offset_room}
use Rattle.bpf_canon.specs.btf.strings.{FirstUses.AreMarked, SectionTexts.text_in, SectionTexts.HasKey}
use Rattle.bpf_canon.specs.btf.strings.{UsedOffsets.Used, UsedOffsets.offset_number}
use Rattle.bpf_canon.specs.btf.strings.InHost.{no_host, host_at, sorted_in, IsRankedFor, FindsHosts}
use Rattle.bpf_canon.specs.btf.strings.Longest.{IsUsed, IsInText, AreLongestOf}
use Rattle.bpf_canon.specs.btf.strings.HostOffsets.{HasHost, AreHostOffsets, ArePlaced, new_name_offset, names_in, HaveTheirHosts, AreOffsetsOf}
use Rattle.bpf_canon.specs.declared.btf.strings.{ranked_texts.SectionText.SectionText, shared_offsets.InHost.InHost, ranked_texts.RankedTexts.RankedTexts}
use Rattle.bpf_canon.specs.declared.btf.strings.shared_offsets.{Span.Span, HostOffsets.HostOffsets}
use Rattle.bpf_canon.proofs.BtfLemmas.Strings.UsedSteps.{used_inside, used_at, number_inside}
use Rattle.bpf_canon.proofs.BtfLemmas.Strings.{LongestSteps.used_length, RankSteps.in_suffix_order, HostOffsetSteps.host_there}
use Rattle.bpf_canon.proofs.BtfLemmas.Strings.FoundHosts.{longest_are, in_map, text_some}

-- the longest strings in another order
any_permuted : (P : SectionText → Type 0) (xs ys : List SectionText) → IsPermutation xs ys → Any P xs → Any P ys
any_permuted P xs ys perm (k, t, inside, is, p) = let c = Contains-permutation xs ys t perm (k, inside, is) in (c.0, t, c.1, c.2, p)

pub longest_permuted : (section slots : List ℕ) (texts ordered : List SectionText) → AreLongestOf section slots texts → IsPermutation texts ordered → AreLongestOf section slots ordered
longest_permuted section slots texts ordered are perm = record {
  few = omega (arith, are.few, length_permutation texts ordered perm);
  keys = All-permutation (HasKey section) texts ordered perm are.keys;
  used = All-permutation (IsUsed section slots) texts ordered perm are.used;
  each = λ off h s b. any_permuted (IsInText off) texts ordered perm (are.each off h s b);
}

module _ {A : Type 0} (used : Used) (r : RankedTexts A) (in_hosts : List InHost) (marked : AreMarked used.offsets used.slots) (ranked : IsRankedFor used r) (hosts_are : FindsHosts used r in_hosts) where
  inside : (off : ℕ) → Contains used.offsets off → off < length r.section.now
  inside off c = omega (arith, used_inside used.slots off (marked.marked off c), ranked.whole)

  all_inside : All (λ off. off < length r.section.now) used.offsets
  all_inside k d h = inside (get_or used.offsets k d) (k, h, get_or_default used.offsets k (get_or used.offsets k d) d h)

  are : AreLongest (names_in r used) (sorted_in r)
  are = longest_are r.section.now used.slots used.offsets r.texts.items ranked.longest marked all_inside

  some_text : All (λ (t : List ℕ). 0 < length t) (sorted_in r)
  some_text = All-map (λ (t : List ℕ). 0 < length t) (text_in r.section.now) r.texts.items (λ k d h.
      let u = ranked.longest.used k d h in
      omega (arith, used_length r.section.now used.slots (get_or r.texts.items k d) u, u.some))

  order : AreInSuffixOrder (kept (sorted_in r)) (sorted_in r)
  order = in_suffix_order (sorted_in r) ranked.ranked.in_order some_text

  pub is_found : (off : ℕ) → Contains used.offsets off → HasHost r.section.now used.slots (sorted_in r) (names_in r used) in_hosts off
  is_found off c = record {
    inside = inside off c;
    used = marked.marked off c;
    empty = hosts_are.empty off (marked.marked off c);
    some = λ b.
        let h = hosts_are.some off (marked.marked off c) b in
        record {
          rank = h.rank;
          numbered = h.numbered;
          inside = h.inside;
          last = h.last;
          is_host = longest_have_host (names_in r used) (sorted_in r) are (text_from r.section.now off) ∙ h.host (kept (sorted_in r)) order;
          before = h.before;
          long = h.long;
        };
  }

  pub all_found : HaveTheirHosts used r in_hosts
  all_found k d h = is_found (get_or used.offsets k d) (k, h, get_or_default used.offsets k (get_or used.offsets k d) d h)

if_some : (n v : ℕ) → 0 < n → (if nat_eq n 0 then 0 else v) ≡ v
if_some n v h = grind (arith, nat_tests)

-- the offset of a name, at the end of its host
offset_at_host : (ks : List (List ℕ)) (x h : List ℕ) (n b : ℕ) → 0 < length x → host_in (hosts_of ks) x ≡ h → n ≡ offset_within (hosts_of ks) h → b + length x ≡ length h → n + b ≡ shared_among ks x
offset_at_host ks [] h n b some is text_offset before = absurd (omega (arith, some))
offset_at_host ks (c ∷ bytes) h n b some is text_offset before = grind arith

module _ (section slots offsets by_rank : List ℕ) (sorted : List (List ℕ)) (in_hosts : List InHost) (spans : List Span) (len : ℕ) (host_offsets : AreHostOffsets section sorted (map (text_from section) offsets) by_rank spans len)
    (off : ℕ) (c : Contains offsets off) (is : HasHost section slots sorted (map (text_from section) offsets) in_hosts off) where
  abbrev names : List (List ℕ)
  names = map (text_from section) offsets

  abbrev x : List ℕ
  x = text_from section off

  abbrev h : InHost
  h = host_at slots in_hosts off

  has : Has names x
  has = Has-from_Contains names x (in_map (text_from section) offsets off c)

  some : get_or section off 0 ≢ 0 → 0 < length x
  some b = omega (arith, text_some)

  there : (b : get_or section off 0 ≢ 0) → Has (hosts names) (at_rank sorted (is.some b).rank)
  there b = host_there sorted names x h (is.some b) has (some b)

  text_offset_is : (b : get_or section off 0 ≢ 0) → get_or by_rank h.host 0 ≡ offset_within (hosts names) (at_rank sorted (is.some b).rank)
  text_offset_is b = grind (arith, Contains-from_Has, there)

  pub host_ranked : 0 < h.len → h.host < length by_rank
  host_ranked long = elim (cases_eq (get_or section off 0) 0) [
    | inl z ↦ absurd (omega (arith, long, ap (λ (i : InHost). i.len) (is.empty z)))
    | inr b ↦ let a = is.some b in omega (arith, a.numbered, a.inside, host_offsets.ranks)
  ]

  -- the offset of a name that isn't empty
  placed_at : (b : get_or section off 0 ≢ 0) → new_name_offset by_rank h ≡ get_or by_rank h.host 0 + h.before
  placed_at b = let a = is.some b in if_some h.len (get_or by_rank h.host 0 + h.before) (omega (arith, a.long, a.before, some b))

  pub place_fits : length (shared_table names) < 2 ^ 32 → new_name_offset by_rank h < 2 ^ 32
  place_fits room = elim (cases_eq (get_or section off 0) 0) [
    | inl z ↦ omega (arith, ap (new_name_offset by_rank) (is.empty z))
    | inr b ↦ let a = is.some b in omega (arith, placed_at b, text_offset_is b, a.before, offset_room (hosts names) (at_rank sorted a.rank) (there b), room)
  ]

  pub offset_found : new_name_offset by_rank h ≡ shared_offset names x
  offset_found = elim (cases_eq (get_or section off 0) 0) [
    | inl z ↦ grind (arith, common_steps)
    | inr b ↦ let a = is.some b in placed_at b ∙ offset_at_host (kept names) x (at_rank sorted a.rank) (get_or by_rank h.host 0) h.before (some b) a.is_host (text_offset_is b) a.before
  ]

-- all of it together
module _ {A : Type 0} (used : Used) (r : RankedTexts A) (in_hosts : List InHost) (marked : AreMarked used.offsets used.slots) (ranked : IsRankedFor used r) (hosts_are : FindsHosts used r in_hosts) (h : HostOffsets A) (host_offsets : AreOffsetsOf used r h) where
  at : (off : ℕ) → Contains used.offsets off → HasHost r.section.now used.slots (sorted_in r) (names_in r used) in_hosts off
  at off c = is_found used r in_hosts marked ranked hosts_are off c

  -- each number is that of a name
  each_number : (P : InHost → Type 0) → ((off : ℕ) → Contains used.offsets off → P (host_at used.slots in_hosts off)) → All P in_hosts
  each_number P is k d h =
      let u = used_at used.slots (length used.slots) k (omega (arith, h, hosts_are.whole)) in
      subst P (sym (get_or_default in_hosts k d no_host h ∙ ap (λ (j : ℕ). get_or in_hosts j no_host) (sym u.3))) (is u.0 (marked.only u.0 u.2))

  pub all_ranked : All (λ (i : InHost). 0 < i.len → i.host < length h.by_rank.items) in_hosts
  all_ranked = each_number (λ (i : InHost). 0 < i.len → i.host < length h.by_rank.items)
      (λ off c. host_ranked r.section.now used.slots used.offsets h.by_rank.items (sorted_in r) in_hosts h.spans.items h.len host_offsets off c (at off c))

  pub all_fit : length (shared_table (names_in r used)) < 2 ^ 32 → All (λ (i : InHost). new_name_offset h.by_rank.items i < 2 ^ 32) in_hosts
  all_fit room = search (rules, each_number, place_fits, at)

  pub all_placed : ArePlaced r.section.now used (map (new_name_offset h.by_rank.items) in_hosts) h.spans.items h.len
  all_placed = record {
    marked = marked.marked;
    numbers = length-map in_hosts (new_name_offset h.by_rank.items) ∙ hosts_are.whole;
    text_offset = λ off c.
        let inside : offset_number used.slots off < length in_hosts = omega (arith, number_inside used.slots off (marked.marked off c), hosts_are.whole) in
        get_or-map (new_name_offset h.by_rank.items) in_hosts (offset_number used.slots off) no_host 0 inside
        ∙ offset_found r.section.now used.slots used.offsets h.by_rank.items (sorted_in r) in_hosts h.spans.items h.len host_offsets off c (at off c);
    are_spans = host_offsets.are_spans;
    texts = host_offsets.texts;
    whole = host_offsets.whole;
  }
