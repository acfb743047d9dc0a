-- The host of a string by ranks, and the steps of the loops that find all hosts.
use Rattle.std.proofs.Common.{◌≡◌, ◌≢◌, ℕ, zero, suc, ◌+◌, ◌-◌, ◌<◌, ◌≤◌, true, ◌⊎◌, inl, inr, List, [], length, map, get_or, set, refl, sym, ap, ◌∙◌, subst, arith}
use Rattle.std.specs.List.{All}
use Rattle.std.proofs.lemmas.Bool.{cases_eq}
use Rattle.std.proofs.lemmas.List.{get_or-map, length-map, length-set, get_or-set_same, get_or-set_other, get_or_default, get_or_read}
use Rattle.btf_types.specs.Reading.{text_from}
use Rattle.btf_types.specs.strings.{SharedNames.is_suffix, CommonSuffixes.at_rank, CommonSuffixes.IsFirstRank, CommonSuffixes.IsNextHost}
use Rattle.btf_types.proofs.StringLemmas.Suffixes.{Ends, Ends-refl, Ends-trans, Ends-length, Ends-from_suffix, suffix_from_Ends}
use Rattle.btf_types.proofs.StringLemmas.CommonSuffixes.{first_ends, rank_has_host}
use Rattle.bpf_canon.specs.btf.strings.{SectionTexts.text_in, Ranks.AreRanked, UsedOffsets.offset_number}
use Rattle.bpf_canon.specs.btf.strings.Longest.{IsUsed, IsInText, AreLongestOf}
use Rattle.bpf_canon.specs.btf.strings.InHost.{IsInHost, no_text, host_at, FindsWithin, AreInHosts, HostsTo}
use Rattle.bpf_canon.specs.declared.btf.strings.{ranked_texts.SectionText.SectionText, shared_offsets.InHost.InHost}
use Rattle.bpf_canon.proofs.BtfLemmas.Strings.{UsedSteps.number_injective, UsedSteps.number_inside, UsedSteps.used_inside, RankSteps.first_rank_is}
use Rattle.bpf_canon.proofs.BtfLemmas.Strings.LongestSteps.{used_length, within_length, within_ends}

-- the strings before the next host are all suffixes of it
passed_end : (ms : List (List ℕ)) (n j l r : ℕ) → n + j ≡ r → l ≤ j → ((i : ℕ) → l ≤ i → i < r → is_suffix (at_rank ms i) (at_rank ms (i + 1)) ≡ true) → Ends (at_rank ms j) (at_rank ms r)
passed_end ms zero j l r e low p = subst (λ (m : ℕ). Ends (at_rank ms j) (at_rank ms m)) (let same : j ≡ r = omega (arith, e) in same) (Ends-refl (at_rank ms j))
passed_end ms (suc n) j l r e low p =
    Ends-trans (at_rank ms j) (at_rank ms (j + 1)) (at_rank ms r) (Ends-from_suffix _ _ (p j low (omega (arith, e)))) (passed_end ms n (j + 1) l r (omega (arith, e)) (omega (arith, low)) p)

module _ (section slots : List ℕ) (ts : List SectionText) (common host_ranks : List ℕ) (ranked : AreRanked (map (text_in section) ts) common host_ranks) (used : All (IsUsed section slots) ts) where
  abbrev texts : List (List ℕ)
  texts = map (text_in section) ts

  pub text_of_rank : (k : ℕ) → k < length ts → at_rank texts k ≡ text_in section (get_or ts k no_text)
  text_of_rank k inside = get_or-map (text_in section) ts k no_text [] inside

  pub length_of_rank : (k : ℕ) → k < length ts → length (at_rank texts k) ≡ (get_or ts k no_text).end - (get_or ts k no_text).start
  length_of_rank k inside = ap (λ (l : List ℕ). length l) (text_of_rank k inside) ∙ used_length section slots (get_or ts k no_text) (used k no_text inside)

  first : (rank off l : ℕ) → rank < length ts → IsInText off (get_or ts rank no_text) → l ≤ rank → ((j : ℕ) → l < j → j ≤ rank → (get_or ts rank no_text).end - off ≤ get_or common j 0) → get_or common l 0 < (get_or ts rank no_text).end - off → IsFirstRank texts (length (text_from section off)) l rank
  first rank off l inside within below before less =
      let long = within_length section slots (get_or ts rank no_text) off (used rank no_text inside) within in
      subst (λ (n : ℕ). IsFirstRank texts n l rank) (sym long) (first_rank_is texts common ((get_or ts rank no_text).end - off) l rank ranked.are_common (omega (arith, inside, length-map ts (text_in section))) below before less)

  ends_rank : (rank off : ℕ) → rank < length ts → IsInText off (get_or ts rank no_text) → Ends (text_from section off) (at_rank texts rank)
  ends_rank rank off inside within =
      subst (Ends (text_from section off)) (sym (text_of_rank rank inside)) (within_ends section slots (get_or ts rank no_text) off (used rank no_text inside) within)

  next : (rank l : ℕ) → rank < length ts → l ≤ rank → IsNextHost texts l (get_or host_ranks l 0)
  next rank l inside below = ranked.are_hosts.each l (omega (arith, inside, below, length-map ts (text_in section)))

  pub next_inside : (rank l : ℕ) → rank < length ts → l ≤ rank → get_or host_ranks l 0 < length ts
  next_inside rank l inside below = let n = next rank l inside below in omega (arith, n.inside, length-map ts (text_in section))

  ends_host : (rank off l : ℕ) → rank < length ts → IsInText off (get_or ts rank no_text) → l ≤ rank → IsFirstRank texts (length (text_from section off)) l rank → Ends (text_from section off) (at_rank texts (get_or host_ranks l 0))
  ends_host rank off l inside within below is =
      let n = next rank l inside below in
      Ends-trans (text_from section off) (at_rank texts l) (at_rank texts (get_or host_ranks l 0))
      (first_ends texts ranked.in_order (text_from section off) l rank (omega (arith, inside, length-map ts (text_in section))) (ends_rank rank off inside within) is)
      (passed_end texts (get_or host_ranks l 0 - l) l l (get_or host_ranks l 0) (omega (arith, n.from)) (omega arith) n.passed)

  pub no_longer : (rank off l : ℕ) → rank < length ts → IsInText off (get_or ts rank no_text) → l ≤ rank → ((j : ℕ) → l < j → j ≤ rank → (get_or ts rank no_text).end - off ≤ get_or common j 0) → get_or common l 0 < (get_or ts rank no_text).end - off → (get_or ts rank no_text).end - off ≤ (get_or ts (get_or host_ranks l 0) no_text).end - (get_or ts (get_or host_ranks l 0) no_text).start
  no_longer rank off l inside within below before less =
      let is = first rank off l inside within below before less in
      let ends = ends_host rank off l inside within below is in
      omega (
        arith,
        Ends-length (text_from section off) (at_rank texts (get_or host_ranks l 0)) ends,
        within_length section slots (get_or ts rank no_text) off (used rank no_text inside) within,
        length_of_rank (get_or host_ranks l 0) (next_inside rank l inside below),
      )

  pub in_host : (rank off l : ℕ) → rank < length ts → IsInText off (get_or ts rank no_text) → l ≤ rank → ((j : ℕ) → l < j → j ≤ rank → (get_or ts rank no_text).end - off ≤ get_or common j 0) → get_or common l 0 < (get_or ts rank no_text).end - off
      → (h : InHost) → h.host ≡ get_or host_ranks l 0 → h.before + ((get_or ts rank no_text).end - off) ≡ (get_or ts (get_or host_ranks l 0) no_text).end - (get_or ts (get_or host_ranks l 0) no_text).start
      → h.len ≡ (get_or ts (get_or host_ranks l 0) no_text).end - (get_or ts (get_or host_ranks l 0) no_text).start → IsInHost texts (text_from section off) h
  in_host rank off l inside within below before less h host_is before_is len_is =
      let is = first rank off l inside within below before less in
      let n = next rank l inside below in
      record {
        rank = get_or host_ranks l 0;
        numbered = host_is;
        inside = n.inside;
        last = n.stops;
        host = λ ks order. rank_has_host ks texts order (text_from section off) l rank (get_or host_ranks l 0) (omega (arith, inside, length-map ts (text_in section))) (suffix_from_Ends _ _ (ends_rank rank off inside within)) is n;
        before = omega (arith, before_is, within_length section slots (get_or ts rank no_text) off (used rank no_text inside) within, length_of_rank (get_or host_ranks l 0) (next_inside rank l inside below));
        long = len_is ∙ sym (length_of_rank (get_or host_ranks l 0) (next_inside rank l inside below));
      }

  -- the step from what was read: the string of the rank, the first rank, its host, and the host's string
  pub record StepsBack (rank off from l v : ℕ) (t u : SectionText) : Type 0 where
    pub low : (get_or ts rank no_text).start ≤ off
    pub shorter : t.end - off ≤ u.end - u.start
    pub back : (j : ℕ) → l < j → j ≤ from → (get_or ts rank no_text).end - off ≤ get_or common j 0
    pub in_hosts : (h : InHost) → h.host ≡ v → h.before + (t.end - off) ≡ u.end - u.start → h.len ≡ u.end - u.start → IsInHost texts (text_from section off) h

  pub steps_back : (rank off from l v : ℕ) (s t u : SectionText) (numbers : List ℕ) → rank < length ts → s ≡ get_or ts rank s → t ≡ get_or ts rank t → s.start ≤ off → off < t.end → from ≤ rank
      → ((j : ℕ) → from < j → j ≤ rank → (get_or ts rank no_text).end - off ≤ get_or common j 0) → numbers ≡ common → l ≤ from → ((j : ℕ) → l < j → j ≤ from → t.end - off ≤ get_or numbers j 0) → get_or numbers l 0 < t.end - off
      → v ≡ get_or host_ranks l v → u ≡ get_or ts v u → StepsBack rank off from l v t u
  steps_back rank off from l v s t u numbers inside s_is t_is low high below before same back more less v_is u_is =
      let d = get_or ts rank no_text in
      let s_end : s ≡ d = s_is ∙ get_or_default ts rank s no_text inside in
      let t_end : t ≡ d = t_is ∙ get_or_default ts rank t no_text inside in
      let from_start : d.start ≤ off = omega (arith, low, ap (λ (k : SectionText). k.start) s_end) in
      let ends : t.end ≡ d.end = ap (λ (k : SectionText). k.end) t_end in
      let within : IsInText off d = record { from = from_start; before = omega (arith, high, ends) } in
      let back_here : (j : ℕ) → l < j → j ≤ from → d.end - off ≤ get_or common j 0 = λ j a b. omega (arith, more j a b, ends, ap (λ (k : List ℕ). get_or k j 0) same) in
      let all : (j : ℕ) → l < j → j ≤ rank → d.end - off ≤ get_or common j 0 = grind arith in
      let less_here : get_or common l 0 < d.end - off = omega (arith, less, ends, ap (λ (k : List ℕ). get_or k l 0) same) in
      let low_enough : l ≤ rank = omega (arith, back, below) in
      let l_inside : l < length host_ranks = omega (arith, low_enough, inside, ranked.are_hosts.whole, length-map ts (text_in section)) in
      let host_is : v ≡ get_or host_ranks l 0 = get_or_read host_ranks l v l_inside v_is 0 in
      let v_inside : v < length ts = omega (arith, host_is, next_inside rank l inside low_enough) in
      let u_end : u ≡ get_or ts (get_or host_ranks l 0) no_text = u_is ∙ get_or_default ts v u no_text v_inside ∙ ap (λ (k : ℕ). get_or ts k no_text) host_is in
      let u_len : u.end - u.start ≡ (get_or ts (get_or host_ranks l 0) no_text).end - (get_or ts (get_or host_ranks l 0) no_text).start = ap (λ (k : SectionText). k.end - k.start) u_end in
      record {
        low = from_start;
        shorter = omega (arith, no_longer rank off l inside within low_enough all less_here, u_len, ends);
        back = back_here;
        in_hosts = λ h a b e. in_host rank off l inside within low_enough all less_here h (omega (arith, a, host_is)) (omega (arith, b, u_len, ends)) (e ∙ u_len);
      }

  -- likewise for a string that isn't a suffix of the one before it, from its rank on
  pub steps_alone : (rank n v : ℕ) (t u : SectionText) → rank < length ts → n ≡ get_or common rank n → n < t.end - t.start → t ≡ get_or ts rank t → v ≡ get_or host_ranks rank v → u ≡ get_or ts v u → StepsBack rank t.start rank rank v t u
  steps_alone rank n v t u inside n_is less t_is v_is u_is =
      let in_common : rank < length common = omega (arith, inside, ranked.are_common.whole, length-map ts (text_in section)) in
      steps_back rank t.start rank rank v t t u common inside t_is t_is (omega arith) (omega (arith, less)) (omega arith) (λ j a b. absurd (omega (arith, a, b))) refl (omega arith) (λ j a b. absurd (omega (arith, a, b)))
      (omega (arith, less, get_or_read common rank n in_common n_is 0)) v_is u_is

-- the loop over the offsets within a string
pub record WithinTo (section slots : List ℕ) (sorted : List (List ℕ)) (common : List ℕ) (t : SectionText) (rank : ℕ) (old in_hosts : List InHost) (from off : ℕ) : Type 0 where
  pub whole : length in_hosts ≡ length old
  pub below : from ≤ rank
  pub before : (j : ℕ) → from < j → j ≤ rank → t.end - off ≤ get_or common j 0
  pub here : (o : ℕ) → get_or slots o 0 ≢ 0 → t.start ≤ o → o < off → IsInHost sorted (text_from section o) (host_at slots in_hosts o)
  pub there : (o : ℕ) → get_or slots o 0 ≢ 0 → ¬ ((t.start ≤ o) × (o < off)) → host_at slots in_hosts o ≡ host_at slots old o

module _ (section slots : List ℕ) (sorted : List (List ℕ)) (common : List ℕ) (t : SectionText) (rank : ℕ) (old : List InHost) where
  pub within_skips : (in_hosts : List InHost) (from off : ℕ) → WithinTo section slots sorted common t rank old in_hosts from off → get_or slots off 0 ≡ 0 → WithinTo section slots sorted common t rank old in_hosts from (off + 1)
  within_skips in_hosts from off to z = grind arith

  pub within_finds : (in_hosts : List InHost) (from off next : ℕ) (h : InHost) → WithinTo section slots sorted common t rank old in_hosts from off → length old ≡ offset_number slots (length slots) → t.start ≤ off → get_or slots off 0 ≢ 0 → next ≤ from
      → ((j : ℕ) → next < j → j ≤ from → t.end - off ≤ get_or common j 0) → IsInHost sorted (text_from section off) h → WithinTo section slots sorted common t rank old (set in_hosts (offset_number slots off) h) next (off + 1)
  within_finds in_hosts from off next h to long low s back more is = grind (arith, get_or-set_same, number_inside, get_or-set_other, number_injective, length-set)

-- the host of a separate string
pub finds_alone : (section slots : List ℕ) (sorted : List (List ℕ)) (t : SectionText) (old : List InHost) (h : InHost) → IsUsed section slots t → ((k : ℕ) → t.start + 1 ≤ k → k < t.end → get_or slots k 0 ≡ 0) → length old ≡ offset_number slots (length slots) → IsInHost sorted (text_from section t.start) h
    → FindsWithin section slots sorted t old (set old (offset_number slots t.start) h)
finds_alone section slots sorted t old h used alone long is = grind (arith, get_or-set_same, number_inside, length-set, get_or-set_other, number_injective)

-- likewise for a string that was read
module _ (section slots : List ℕ) (ts : List SectionText) (longest : AreLongestOf section slots ts) (rank : ℕ) (t : SectionText) (inside : rank < length ts) (t_is : t ≡ get_or ts rank t) where
  t_end : t ≡ get_or ts rank no_text
  t_end = t_is ∙ get_or_default ts rank t no_text inside

  pub used_read : IsUsed section slots t
  used_read = subst (IsUsed section slots) (sym t_end) (longest.used rank no_text inside)

  pub finds_read : (sorted : List (List ℕ)) (old : List InHost) (h : InHost) → ((k : ℕ) → t.start + 1 ≤ k → k < t.end → get_or slots k 0 ≡ 0) → length old ≡ offset_number slots (length slots) → IsInHost sorted (text_from section t.start) h
      → FindsWithin section slots sorted (get_or ts rank no_text) old (set old (offset_number slots t.start) h)
  finds_read sorted old h alone long is =
      subst (λ (k : SectionText). FindsWithin section slots sorted k old (set old (offset_number slots t.start) h)) t_end (finds_alone section slots sorted t old h used_read alone long is)

cases_within : (off : ℕ) (t : SectionText) → IsInText off t ⊎ (¬ IsInText off t)
cases_within off t = grind arith

module _ (section slots : List ℕ) (ts : List SectionText) (sorted : List (List ℕ)) (longest : AreLongestOf section slots ts) where
  pub hosts_more : (old new : List InHost) (k : ℕ) → HostsTo section slots ts sorted old k → k < length ts → FindsWithin section slots sorted (get_or ts k no_text) old new → HostsTo section slots ts sorted new (k + 1)
  hosts_more old new k to inside finds =
      let used = longest.used k no_text inside in
      record {
        whole = finds.whole ∙ to.whole;
        empty = λ off s z. finds.there off s (λ w. used.before off w.from w.before z) ∙ to.empty off s z;
        here = λ j off h s w. elim (cases_eq j k) [
          | inl e ↦ finds.here off s (subst (λ (m : ℕ). IsInText off (get_or ts m no_text)) e w)
          | inr n ↦ elim (cases_within off (get_or ts k no_text)) [
            | inl v ↦ finds.here off s v
            | inr v ↦ subst (IsInHost sorted (text_from section off)) (sym (finds.there off s v)) (to.here j off (omega (arith, h, n)) s w)
          ]
        ];
      }

  pub hosts_all : (in_hosts : List InHost) → HostsTo section slots ts sorted in_hosts (length ts) → length slots ≡ length section → AreInHosts section slots sorted in_hosts
  hosts_all in_hosts to long = record {
    whole = to.whole;
    empty = to.empty;
    some = λ off s b.
        let t = longest.each off (omega (arith, used_inside slots off s, long)) s b in
        to.here t.0 off t.2 s (subst (IsInText off) (sym t.3 ∙ get_or_default ts t.0 t.1 no_text t.2) t.4);
  }
