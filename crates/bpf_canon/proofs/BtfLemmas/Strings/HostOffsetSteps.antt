-- Steps of the loop that assigns offsets to hosts in the order of first use.
use Rattle.std.proofs.Common.{◌≡◌, ◌≢◌, ℕ, ◌+◌, ◌<◌, ◌≤◌, true, false, not, inl, inr, List, [], ◌∷◌, ◌++◌, length, map, get_or, set, take, drop, sym, ap, ◌∙◌, subst, arith, take-append-drop}
use Rattle.std.specs.List.{flat_map, list_any, All, Sorted.IsSorted}
use Rattle.std.proofs.lemmas.{Bool.both_ways, Bool.cases_eq, Bool.cases_lt, Bool.false_from_ne_true, List.Concat.flat_map-append}
use Rattle.std.proofs.lemmas.List.{append-nil, nil_from_length, map-append, length-set, get_or-set_same, get_or-set_other, get_or_default, map_more, get_or_read}
use Rattle.btf_types.specs.{Names.kept, Names.with_nul, Names.table_of, Names.offset_within, Reading.text_from, strings.CommonSuffixes.at_rank}
use Rattle.btf_raw.specs.Header.{HasNulEnds}
use Rattle.btf_types.specs.strings.SharedNames.{is_suffix, is_proper_suffix, suffix_cmp, hosts, host, shared_table}
use Rattle.btf_types.proofs.Members.{Has, Has-from_Contains}
use Rattle.btf_types.proofs.StringLemmas.Suffixes.{Ends, Ends-refl, Ends-same_length, suffix_from_Ends}
use Rattle.btf_types.proofs.StringLemmas.{Hosts.host_is, Hosts.own_host_of, Hosts.host_differs, CommonSuffixes.ranks_are_together, Longest.Has-kept_some}
use Rattle.bpf_canon.specs.btf.strings.InHost.{host_at, no_host, sorted_in, IsRankedFor}
use Rattle.bpf_canon.specs.btf.strings.UsedOffsets.{Used, offset_number, number_of}
use Rattle.bpf_canon.specs.declared.btf.strings.{shared_offsets.InHost.InHost, shared_offsets.Span.Span, ranked_texts.RankedTexts.RankedTexts}
use Rattle.bpf_canon.specs.btf.strings.HostOffsets.{span_bytes, IsSpan, HasText, IsAtHost, HasHost, AreHostOffsets, names_in, HaveTheirHosts}
use Rattle.bpf_canon.proofs.BtfLemmas.Names.{KeptSteps.offset_stays, KeptSteps.offset_last, KeptSteps.length-table_push, Gathering.Has-front, Gathering.Has-back}
use Rattle.bpf_canon.proofs.BtfLemmas.Strings.{FoundHosts.text_some, FoundHosts.empty_at_nul, FoundHosts.in_map, TableSpans.span_of}
use Rattle.bpf_canon.proofs.BtfLemmas.Strings.PlacedHosts.{is_own, host_offsets, laid_empty, laid_other, laid_known, laid_new, laid_fits, has_push}

-- a rank whose string isn't a suffix of the next one
pub record IsLast (sorted : List (List ℕ)) (r : ℕ) : Type 0 where
  pub inside : r < length sorted
  pub last : r + 1 < length sorted → is_suffix (at_rank sorted r) (at_rank sorted (r + 1)) ≡ false

before_same : (sorted : List (List ℕ)) (r s : ℕ) → IsSorted suffix_cmp sorted → IsLast sorted r → IsLast sorted s → at_rank sorted r ≡ at_rank sorted s → ¬ (r < s)
before_same sorted r s up a b e h =
    let more : r + 1 < length sorted = omega (arith, h, b.inside) in
    both_ways _ (a.last more)
    (ranks_are_together sorted up (at_rank sorted r) r (r + 1) s (omega arith) (omega (arith, h)) b.inside
    (suffix_from_Ends _ _ (Ends-refl (at_rank sorted r)))
    (suffix_from_Ends _ _ (subst (Ends (at_rank sorted r)) e (Ends-refl (at_rank sorted r)))))

pub rank_same : (sorted : List (List ℕ)) (r s : ℕ) → IsSorted suffix_cmp sorted → IsLast sorted r → IsLast sorted s → at_rank sorted r ≡ at_rank sorted s → r ≡ s
rank_same sorted r s up a b e = elim (cases_eq r s) [
  | inl q ↦ q
  | inr n ↦ elim (cases_lt r s) [
    | inl l ↦ absurd (before_same sorted r s up a b e l)
    | inr g ↦ absurd (before_same sorted s r up b a (sym e) (omega (arith, g, n)))
  ]
]

-- placed so far
pub record LaidTo (section : List ℕ) (sorted out : List (List ℕ)) (by_rank : List ℕ) (spans : List Span) (len : ℕ) : Type 0 where
  pub are_spans : All (IsSpan section) spans
  pub texts : flat_map (span_bytes section) spans ≡ flat_map with_nul out
  pub whole : len ≡ length (table_of out)
  pub ranks : length by_rank ≡ length sorted
  pub absent : (r : ℕ) → IsLast sorted r → get_or by_rank r 0 ≡ 0 → ¬ Has out (at_rank sorted r)
  pub there : (r : ℕ) → IsLast sorted r → get_or by_rank r 0 ≢ 0 → Has out (at_rank sorted r)
  pub text_offset : (r : ℕ) → IsLast sorted r → get_or by_rank r 0 ≢ 0 → get_or by_rank r 0 ≡ offset_within out (at_rank sorted r)

pub lays_one : (section : List ℕ) (sorted out : List (List ℕ)) (by_rank : List ℕ) (spans new : List Span) (len r : ℕ) (s : Span) → LaidTo section sorted out by_rank spans len → IsSorted suffix_cmp sorted → IsLast sorted r → get_or by_rank r 0 ≡ 0
    → HasText section spans new s → span_bytes section s ≡ with_nul (at_rank sorted r) → LaidTo section sorted (out ++ at_rank sorted r ∷ []) (set by_rank r len) new (len + (length (at_rank sorted r) + 1))
lays_one section sorted out by_rank spans new len r s to up at empty more text =
    let x = at_rank sorted r in
    let gone : ¬ Has out x = to.absent r at empty in
    let some : 0 < len = omega (arith, to.whole) in
    let here : get_or (set by_rank r len) r 0 ≡ len = get_or-set_same by_rank r len 0 (omega (arith, to.ranks, at.inside)) in
    let other = λ (k : ℕ) (n : k ≢ r). get_or-set_other by_rank r k len 0 n in
    record {
      are_spans = more.are_spans;
      texts = more.bytes ∙ ap (λ (t : List ℕ). t ++ span_bytes section s) to.texts ∙ ap (λ (t : List ℕ). flat_map with_nul out ++ t) (text ∙ sym (append-nil (with_nul x))) ∙ sym (flat_map-append with_nul out (x ∷ []));
      whole = omega (arith, to.whole, length-table_push out x);
      ranks = length-set by_rank r len ∙ to.ranks;
      absent = λ k a z h. elim (cases_eq k r) [
        | inl e ↦ omega (arith, some, here, z, ap (λ (n : ℕ). get_or (set by_rank r len) n 0) e)
        | inr n ↦
            let old : get_or by_rank k 0 ≡ 0 = sym (other k n) ∙ z in
            elim (has_push out x (at_rank sorted k) h) [
              | inl i ↦ to.absent k a old i
              | inr e ↦ n (sym (rank_same sorted r k up at a e))
            ]
      ];
      there = grind (arith, Has-back, Has-front);
      text_offset = λ k a z. elim (cases_eq k r) [
        | inl e ↦
            ap (λ (n : ℕ). get_or (set by_rank r len) n 0) e ∙ here ∙ to.whole ∙ sym (offset_last out x gone)
            ∙ ap (λ (m : ℕ). offset_within (out ++ x ∷ []) (at_rank sorted m)) (sym e)
        | inr n ↦ grind (arith, offset_stays)
      ];
    }

-- a name at an offset
module _ (section slots : List ℕ) (sorted xs : List (List ℕ)) (in_hosts : List InHost) (off : ℕ) (is : HasHost section slots sorted xs in_hosts off) (has : Has xs (text_from section off)) where
  abbrev h : InHost
  h = host_at slots in_hosts off

  abbrev x : List ℕ
  x = text_from section off

  pub no_host_empty : h.len ≡ 0 → x ≡ []
  no_host_empty z = nil_from_length x (elim (cases_eq (get_or section off 0) 0) [
    | inl nul ↦ empty_at_nul section off is.inside nul
    | inr b ↦ let a = is.some b in omega (arith, a.long, a.before, z)
  ])

  pub at_host : h.len ≢ 0 → IsAtHost sorted xs x h
  at_host n = grind arith

module _ (sorted xs : List (List ℕ)) (x : List ℕ) (h : InHost) (a : IsAtHost sorted xs x h) (has : Has xs x) (some : 0 < length x) where
  in_kept : Has (kept xs) x
  in_kept = Has-kept_some xs x has some

  ends_host : Ends x (host xs x)
  ends_host = (host_is (kept xs) x in_kept).ends

  pub host_last : IsLast sorted a.rank
  host_last = record { inside = a.inside; last = a.last }

  pub own_text : h.before ≡ 0 → at_rank sorted a.rank ≡ x
  own_text z = sym a.is_host ∙ Ends-same_length x (host xs x) ends_host (omega (arith, a.before, z, ap (λ (t : List ℕ). length t) a.is_host))

  pub own_yes : h.before ≡ 0 → is_own xs x ≡ true
  own_yes z = ap not (false_from_ne_true (list_any (is_proper_suffix x) (kept xs)) (λ t. host_differs (kept xs) x in_kept t (a.is_host ∙ own_text z)))

  pub own_no : h.before ≢ 0 → is_own xs x ≡ false
  own_no n = grind (arith, own_host_of, in_kept)

  pub host_there : Has (hosts xs) (at_rank sorted a.rank)
  host_there = subst (Has (hosts xs)) a.is_host (host_is (kept xs) x in_kept).host

-- the table with the string of a host that wasn't present, and the offsets then
pub record LaysText (section : List ℕ) (sorted out : List (List ℕ)) (by_rank : List ℕ) (spans : List Span) (host len v : ℕ) (s : Span) : Type 0 where
  pub span : IsSpan section s
  pub whole : len + (v + 1) ≡ length (table_of out)
  pub laid_out : (new : List Span) → HasText section spans new s → LaidTo section sorted out (set by_rank host len) new (len + (v + 1))

-- the step of one offset, whose number is n
module _ (section slots offsets : List ℕ) (sorted : List (List ℕ)) (in_hosts : List InHost) (k n : ℕ) (inside : k < length offsets) (n_is : n ≡ offset_number slots (get_or offsets k 0))
    (all : All (HasHost section slots sorted (map (text_from section) offsets) in_hosts) offsets) where
  abbrev names : List (List ℕ)
  names = map (text_from section) offsets

  abbrev taken : ℕ → List (List ℕ)
  taken j = map (text_from section) (take j offsets)

  abbrev own : List ℕ
  own = text_from section (get_or offsets k 0)

  abbrev here : InHost
  here = get_or in_hosts n no_host

  same_here : here ≡ host_at slots in_hosts (get_or offsets k 0)
  same_here = ap (λ (m : ℕ). get_or in_hosts m no_host) n_is

  is : HasHost section slots sorted names in_hosts (get_or offsets k 0)
  is = all k 0 inside

  has : Has names own
  has = Has-from_Contains names own (in_map (text_from section) offsets (get_or offsets k 0) (k, inside, get_or_default offsets k (get_or offsets k 0) 0 inside))

  more : host_offsets names (taken (k + 1)) ≡ host_offsets names (taken k ++ own ∷ [])
  more = ap (host_offsets names) (map_more (text_from section) offsets k 0 inside)

  at_here : here.len ≢ 0 → IsAtHost sorted names own here
  at_here h = subst (IsAtHost sorted names own) (sym same_here) (at_host section slots sorted names in_hosts (get_or offsets k 0) is has (λ z. h (ap (λ (i : InHost). i.len) same_here ∙ z)))

  some_here : here.len ≢ 0 → 0 < length own
  some_here h = grind (arith, text_some)

  -- a name that is its own host is as long as that
  pub own_long : here.len ≢ 0 → here.before ≡ 0 → here.len ≡ length own
  own_long h b = let a = at_here h in omega (arith, a.long, a.before, b)

  pub placed_inside : (by_rank : List ℕ) (spans : List Span) (len : ℕ) → LaidTo section sorted (host_offsets names (taken k)) by_rank spans len → here.len ≢ 0 → here.host < length by_rank
  placed_inside by_rank spans len to h = let a = at_here h in omega (arith, a.numbered, a.inside, to.ranks)

  pub skips_empty : here.len ≡ 0 → host_offsets names (taken k) ≡ host_offsets names (taken (k + 1))
  skips_empty z = sym (more ∙ laid_empty names (taken k) own (no_host_empty section slots sorted names in_hosts (get_or offsets k 0) is has (ap (λ (i : InHost). i.len) (sym same_here) ∙ z)))

  pub skips_other : here.len ≢ 0 → here.before ≢ 0 → host_offsets names (taken k) ≡ host_offsets names (taken (k + 1))
  skips_other h b = sym (more ∙ laid_other names (taken k) own (own_no sorted names own here (at_here h) has (some_here h) b))

  pub skips_placed : (by_rank : List ℕ) (spans : List Span) (len : ℕ) → LaidTo section sorted (host_offsets names (taken k)) by_rank spans len → here.len ≢ 0 → here.before ≡ 0 → get_or by_rank here.host 0 ≢ 0 → host_offsets names (taken k) ≡ host_offsets names (taken (k + 1))
  skips_placed by_rank spans len to h b p =
      let a = at_here h in
      let there : Has (host_offsets names (taken k)) (at_rank sorted a.rank) = to.there a.rank (host_last sorted names own here a has (some_here h)) (λ z. p (ap (λ (j : ℕ). get_or by_rank j 0) a.numbered ∙ z)) in
      sym (more ∙ laid_known names (taken k) own (subst (Has (host_offsets names (taken k))) (own_text sorted names own here a has (some_here h) b) there))

  lays : (by_rank : List ℕ) (spans : List Span) (len v : ℕ) (s : Span) → LaidTo section sorted (host_offsets names (taken k)) by_rank spans len → IsSorted suffix_cmp sorted → here.len ≢ 0 → here.before ≡ 0 → get_or by_rank here.host 0 ≡ 0
      → IsSpan section s → span_bytes section s ≡ with_nul own → v ≡ length own → LaysText section sorted (host_offsets names (taken (k + 1))) by_rank spans here.host len v s
  lays by_rank spans len v s to up h b p span bytes v_is =
      let a = at_here h in
      let at = host_last sorted names own here a has (some_here h) in
      let text : at_rank sorted a.rank ≡ own = own_text sorted names own here a has (some_here h) b in
      let free : get_or by_rank a.rank 0 ≡ 0 = ap (λ (j : ℕ). get_or by_rank j 0) (sym a.numbered) ∙ p in
      let out : host_offsets names (taken k) ++ at_rank sorted a.rank ∷ [] ≡ host_offsets names (taken (k + 1)) = grind (arith, more, laid_new, some_here, own_yes, has) in
      let len_is : length (at_rank sorted a.rank) ≡ v = ap (λ (t : List ℕ). length t) text ∙ sym v_is in
      let long = ap (λ (l : List (List ℕ)). length (table_of l)) out in
      record {
        span = span;
        whole = omega (arith, to.whole, len_is, length-table_push (host_offsets names (taken k)) (at_rank sorted a.rank), long);
        laid_out = λ new more_bytes.
            let laid_one = lays_one section sorted (host_offsets names (taken k)) by_rank spans new len a.rank s to up at free more_bytes (bytes ∙ ap with_nul (sym text)) in
            subst (λ (m : ℕ). LaidTo section sorted (host_offsets names (taken (k + 1))) (set by_rank m len) new (len + (v + 1))) (sym a.numbered)
            (subst (λ (m : ℕ). LaidTo section sorted (host_offsets names (taken (k + 1))) (set by_rank a.rank len) new (len + (m + 1))) len_is
            (subst (λ (l : List (List ℕ)). LaidTo section sorted l (set by_rank a.rank len) new (len + (length (at_rank sorted a.rank) + 1))) out laid_one));
      }

-- the hosts among the first k used names
abbrev pub placed_to : {A : Type 0} → RankedTexts A → Used → ℕ → List (List ℕ)
placed_to r used k = host_offsets (names_in r used) (map (text_from r.section.now) (take k used.offsets))

-- the same from what was read: the offsets, the number of one, and whether its host is placed
pub lays_read : {A : Type 0} (used : Used) (r : RankedTexts A) (in_hosts : List InHost) (offsets : List ℕ) (k n : ℕ) → offsets ≡ used.offsets → k < length offsets → n ≡ number_of used (get_or offsets k 0) → HaveTheirHosts used r in_hosts
    → (by_rank : List ℕ) (spans : List Span) (len there : ℕ) → LaidTo r.section.now (sorted_in r) (placed_to r used k) by_rank spans len → IsRankedFor used r → HasNulEnds r.section.now
    → (get_or in_hosts n no_host).len ≢ 0 → (get_or in_hosts n no_host).before ≡ 0 → there ≡ get_or by_rank (get_or in_hosts n no_host).host there → there ≡ 0
    → LaysText r.section.now (sorted_in r) (placed_to r used (k + 1)) by_rank spans (get_or in_hosts n no_host).host len (get_or in_hosts n no_host).len (record { start = get_or offsets k 0; end = get_or offsets k 0 + (get_or in_hosts n no_host).len })
lays_read used r in_hosts offsets k n same inside n_is all by_rank spans len there to ranked ends h b there_is z =
    let section = r.section.now in
    let sorted = sorted_in r in
    let here = get_or in_hosts n no_host in
    let off = get_or used.offsets k 0 in
    let low : k < length used.offsets = subst (λ (l : List ℕ). k < length l) same inside in
    let number : n ≡ number_of used off = n_is ∙ ap (λ (l : List ℕ). number_of used (get_or l k 0)) same in
    let below : here.host < length by_rank = placed_inside section used.slots used.offsets sorted in_hosts k n low number all by_rank spans len to h in
    let long : here.len ≡ length (text_from section off) = own_long section used.slots used.offsets sorted in_hosts k n low number all h b in
    let span = span_of section off here.len ends (all k 0 low).inside long in
    subst (λ (l : List ℕ). LaysText section sorted (placed_to r used (k + 1)) by_rank spans here.host len here.len (record { start = get_or l k 0; end = get_or l k 0 + here.len })) (sym same)
    (lays section used.slots used.offsets sorted in_hosts k n low number all by_rank spans len here.len (record { start = off; end = off + here.len }) to ranked.ranked.in_order h b (sym (get_or_read by_rank here.host there below there_is 0) ∙ z) span.span span.bytes long)

pub laid_room : (section offsets : List ℕ) (j : ℕ) → length (table_of (host_offsets (map (text_from section) offsets) (map (text_from section) (take j offsets)))) ≤ length (shared_table (map (text_from section) offsets))
laid_room section offsets j =
    let xs = map (text_from section) offsets in
    let whole : map (text_from section) (take j offsets) ++ map (text_from section) (drop j offsets) ≡ xs =
    sym (map-append (text_from section) (take j offsets) (drop j offsets)) ∙ ap (map (text_from section)) (take-append-drop j offsets) in
    let same = ap (λ (l : List (List ℕ)). length (table_of (host_offsets xs l))) whole in
    omega (arith, laid_fits xs (map (text_from section) (take j offsets)) (map (text_from section) (drop j offsets)), same)

pub laid_all : (section : List ℕ) (sorted xs : List (List ℕ)) (by_rank : List ℕ) (spans : List Span) (len : ℕ) → LaidTo section sorted (hosts xs) by_rank spans len → AreHostOffsets section sorted xs by_rank spans len
laid_all section sorted xs by_rank spans len to = grind (arith, Has-from_Contains)
