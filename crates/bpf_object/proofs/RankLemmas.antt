-- The ranks of names, when one more is noted, and which are noted in the end.
use Rattle.std.proofs.Common.{◌≡◌, ◌≢◌, ℕ, zero, suc, ◌+◌, ◌-◌, ◌^◌, ◌<◌, ◌≤◌, true, List, [], ◌∷◌, ◌++◌, length, get_or, map, below_more, inl, inr, refl, sym, ap, subst, ◌∙◌, length-append, arith}
use Rattle.std.specs.Prelude.{slice_index, replicate, nat_lt, ◌==◌, ◌&&◌}
use Rattle.std.specs.{Cmp.Lexicographic.slice_cmp, List.All}
use Rattle.std.specs.List.Sorted.{IsStrictlySortedBy}
use Rattle.std.specs.Ordering.{nat_cmp, ordering_then, ordering_index}
use Rattle.std.specs.declared.cmp.Ordering.{Ordering, TheVariants.Less, TheVariants.Equal, TheVariants.Greater}
use Rattle.std.proofs.Math.ListN.{set, length-set, get_or-append}
use Rattle.std.proofs.Math.Seq.{get_or-append_seam}
use Rattle.std.proofs.lemmas.Bool.{cases_eq, cases_lt, and_parts, ltb-true}
use Rattle.std.proofs.lemmas.Cmp.{nat_list_cmp_total}
use Rattle.std.proofs.lemmas.List.{get_or-set_same, get_or-set_other, get_or-map, get_or_default, get_or_past, length-map, map-append, length-replicate}
use Rattle.std.proofs.lemmas.List.Elements.{All-nil, All-push, All-contains, All-contains_itself}
use Rattle.std.proofs.lemmas.Map.Keys.{Less-from_sorted, sorted_from_all_adjacent}
use Rattle.std.proofs.lemmas.Map.Lookups.{exact_bytes}
use Rattle.bpf_elf.specs.Names.{is_closed, string_at}
use Rattle.bpf_object.specs.private.NameRanks.{text_key, name_key, last_name, starts, HasEnd, AreNames, Rise, HasRank, AreRanks, RankedNames, OfEmpty, Notes, AreNoted}
use Rattle.bpf_object.specs.declared.name_ranks.NameAt.{NameAt}
use Rattle.bpf_object.proofs.{KeyLemmas.first_empty, NameEnds.none_at_start, OrderLayers.less}

abbrev Keys : List (List ℕ) → Type 0
Keys ks = IsStrictlySortedBy (slice_cmp nat_cmp) ks

-- one more key, which is greater than the last
sorted_more : (ks : List (List ℕ)) (k : List ℕ) → Keys ks → 0 < length ks → slice_cmp nat_cmp (get_or ks (length ks - 1) []) k ≡ Less → Keys (ks ++ k ∷ [])
sorted_more ks k sorted some less =
    sorted_from_all_adjacent nat_list_cmp_total (ks ++ k ∷ []) [] (λ i lt.
    let inside : i < length ks = omega (arith, lt, length-append ks (k ∷ [])) in
    elim (cases_eq (i + 1) (length ks)) [
      | inl last ↦
          let before : i ≡ length ks - 1 = omega (arith, last) in
          let left : get_or (ks ++ k ∷ []) i [] ≡ get_or ks (length ks - 1) [] = get_or-append ks (k ∷ []) [] i inside ∙ ap (λ (j : ℕ). get_or ks j []) before in
          let right : get_or (ks ++ k ∷ []) (i + 1) [] ≡ k = ap (λ (j : ℕ). get_or (ks ++ k ∷ []) j []) last ∙ get_or-append_seam ks k [] [] in
          ap (λ (a : List ℕ). slice_cmp nat_cmp a (get_or (ks ++ k ∷ []) (i + 1) [])) left
          ∙ ap (slice_cmp nat_cmp (get_or ks (length ks - 1) [])) right ∙ less
      | inr other ↦
          let next : i + 1 < length ks = omega (arith, inside, other) in
          ap (λ (a : List ℕ). slice_cmp nat_cmp a (get_or (ks ++ k ∷ []) (i + 1) [])) (get_or-append ks (k ∷ []) [] i inside)
          ∙ ap (slice_cmp nat_cmp (get_or ks i [])) (get_or-append ks (k ∷ []) [] (i + 1) next)
          ∙ Less-from_sorted (slice_cmp nat_cmp) ks i (i + 1) [] sorted (omega arith) next
    ])

same_tail : (a b : ℕ) (x y : List ℕ) → a ∷ x ≡ b ∷ y → x ≡ y
same_tail a b x y e = cc

module _ (strings ranks names : List ℕ) (last : NameAt) (are : AreRanks strings ranks names last) (off : ℕ) (there : off < length strings) where
  -- ranks with one that is set
  set_ranks : (more : List ℕ) (rank : ℕ) → ((i : ℕ) → i < length names → slice_index more i ≡ slice_index names i) → length names ≤ length more → HasRank strings more off rank
      → (at : ℕ) → 0 < slice_index (set ranks off rank) at → HasRank strings more at (slice_index (set ranks off rank) at)
  set_ranks more rank keeps longer here at known = elim (cases_eq at off) [
    | inl e ↦
        let whole = are.whole in
        let is : slice_index (set ranks off rank) at ≡ rank = ap (slice_index (set ranks off rank)) e ∙ get_or-set_same ranks off rank 0 (omega (arith, there, whole)) in
        subst (HasRank strings more at) (sym is) (subst (λ (o : ℕ). HasRank strings more o rank) (sym e) here)
    | inr other ↦
        let is : slice_index (set ranks off rank) at ≡ slice_index ranks at = get_or-set_other ranks off at rank 0 other in
        let old = are.each at (omega (arith, known, is)) in
        let inside = old.there in
        subst (HasRank strings more at) (sym is)
        (record {
          there = omega (arith, inside, longer);
          is = old.is ∙ ap (string_at strings) (sym (keeps (slice_index ranks at - 1) (omega (arith, inside, known, is))));
        })
  ]

  pub ranks_pushed : (name : NameAt) → name.start ≡ off → HasEnd strings name → slice_cmp nat_cmp (name_key strings last.start) (name_key strings off) ≡ Less
      → AreRanks strings (set ranks off (length (names ++ off ∷ []))) (names ++ off ∷ []) name
  ranks_pushed name is_off ends rises =
      let less = ap (λ (o : ℕ). slice_cmp nat_cmp (name_key strings o) (name_key strings off)) are.last_is ∙ rises in
      let size : length (names ++ off ∷ []) ≡ length names + 1 = length-append names (off ∷ []) in
      let some = are.some in
      let keys : map (name_key strings) (names ++ off ∷ []) ≡ map (name_key strings) names ++ name_key strings off ∷ [] = map-append (name_key strings) names (off ∷ []) in
      let count = length-map names (name_key strings) in
      let final : get_or (map (name_key strings) names) (length (map (name_key strings) names) - 1) [] ≡ name_key strings (last_name names) =
      ap (λ (n : ℕ). get_or (map (name_key strings) names) (n - 1) []) count ∙ get_or-map (name_key strings) names (length names - 1) 0 [] (omega (arith, some)) in
      let sorted : IsStrictlySortedBy (slice_cmp nat_cmp) (map (name_key strings) (names ++ off ∷ [])) =
      subst (λ (ks : List (List ℕ)). IsStrictlySortedBy (slice_cmp nat_cmp) ks) (sym keys)
      (sorted_more (map (name_key strings) names) (name_key strings off) are.sorted (omega (arith, some, count))
      (ap (λ (a : List ℕ). slice_cmp nat_cmp a (name_key strings off)) final ∙ less)) in
      let end : length (names ++ off ∷ []) - 1 ≡ length names = omega (arith, size) in
      record {
        closed = are.closed;
        whole = length-set ranks off (length (names ++ off ∷ [])) ∙ are.whole;
        some = omega (arith, size);
        inside = All-push (λ o. o < length strings) names off are.inside there;
        sorted = sorted;
        each =
            set_ranks (names ++ off ∷ []) (length (names ++ off ∷ [])) (λ i lt. get_or-append names (off ∷ []) 0 i lt) (omega (arith, size))
            (record {
              there = omega arith;
              is =
                  let at : length (names ++ off ∷ []) - 1 ≡ length names = omega (arith, size) in
                  ap (string_at strings) (sym (ap (slice_index (names ++ off ∷ [])) at ∙ get_or-append_seam names off [] 0));
            });
        last_is = ap (slice_index (names ++ off ∷ [])) end ∙ get_or-append_seam names off [] 0 ∙ sym is_off;
        ends = ends;
      }

  pub ranks_repeated : slice_cmp nat_cmp (name_key strings last.start) (name_key strings off) ≡ Equal → AreRanks strings (set ranks off (length names)) names last
  ranks_repeated ties =
      let equal = ap (λ (o : ℕ). slice_cmp nat_cmp (name_key strings o) (name_key strings off)) are.last_is ∙ ties in
      let same : string_at strings off ≡ string_at strings (last_name names) =
      sym (same_tail _ _ _ _ (exact_bytes (name_key strings (last_name names)) (name_key strings off) equal)) in
      record {
        closed = are.closed;
        whole = length-set ranks off (length names) ∙ are.whole;
        some = are.some;
        inside = are.inside;
        sorted = are.sorted;
        each = set_ranks names (length names) (λ i lt. refl) (omega arith) (record { there = omega arith; is = same });
        last_is = are.last_is;
        ends = are.ends;
      }

zeros : (n i z : ℕ) → get_or (replicate n z) i z ≡ z
zeros zero i z = refl
zeros (suc n) zero z = refl
zeros (suc n) (suc i) z = zeros n i z

-- the empty name
module _ (strings : List ℕ) (closed : is_closed strings ≡ true) where
  some : 0 < length strings
  some = ltb-true 0 (length strings) (and_parts (nat_lt 0 (length strings)) (slice_index strings 0 == 0 && slice_index strings (length strings - 1) == 0) closed).0

  abbrev fresh : List ℕ
  fresh = replicate (length strings) 0

  fresh_length : length fresh ≡ length strings
  fresh_length = length-replicate {A = ℕ} (length strings) 0

  -- the empty name alone
  ranks_first : AreRanks strings (set fresh 0 1) (replicate 1 0) (record { start = 0; end = 0 })
  ranks_first = record {
    last_is = refl;
    ends = none_at_start strings closed;
    closed = closed;
    whole = length-set fresh 0 1 ∙ fresh_length;
    some = omega arith;
    inside = All-push (λ o. o < length strings) [] 0 (All-nil (λ o. o < length strings)) some;
    sorted = sorted_from_all_adjacent nat_list_cmp_total (map (name_key strings) (replicate 1 0)) [] (λ k lt. absurd (omega (arith, lt)));
    each = λ at known. elim (cases_eq at 0) [
      | inl e ↦
          let is : slice_index (set fresh 0 1) at ≡ 1 = ap (slice_index (set fresh 0 1)) e ∙ get_or-set_same fresh 0 1 0 (omega (arith, some, fresh_length)) in
          subst (HasRank strings (replicate 1 0) at) (sym is) (record { there = omega arith; is = ap (string_at strings) e })
      | inr other ↦
          let is : slice_index (set fresh 0 1) at ≡ 0 = get_or-set_other fresh 0 at 1 0 other ∙ zeros (length strings) at 0 in
          absurd (omega (arith, known, is))
    ];
  }

  pub ranks_of_empty : (ranks names : List ℕ) → ranks ≡ replicate (length strings) 0 → names ≡ replicate 1 0 → AreRanks strings (set ranks 0 1) names (record { start = 0; end = 0 })
  ranks_of_empty ranks names first second =
      subst (λ (r : List ℕ). AreRanks strings (set r 0 1) names (record { start = 0; end = 0 })) (sym first) (subst (λ (m : List ℕ). AreRanks strings (set fresh 0 1) m (record { start = 0; end = 0 })) (sym second) ranks_first)

pub empty_first : (strings ranks names : List ℕ) → is_closed strings ≡ true → ranks ≡ replicate (length strings) 0 → names ≡ replicate 1 0
    → OfEmpty strings (record { strings = strings; ranks = set ranks 0 1; names = names; last = record { start = 0; end = 0 } })
empty_first strings ranks names closed first second =
    let size : length ranks ≡ length strings = ap length first ∙ fresh_length strings closed in
    record {
      strings_are = refl;
      start = refl;
      known = omega (arith, get_or-set_same ranks 0 1 0 (omega (arith, size, some strings closed)));
      one = ap length second;
    }

pub ruleset first_ranks = (ranks_of_empty, empty_first)

-- ---- which offsets are noted

noted_set : (ranks : List ℕ) (off rank other : ℕ) → 0 < rank → 0 < slice_index ranks other → 0 < slice_index (set ranks off rank) other
noted_set ranks off rank other some known = elim (cases_eq other off) [
  | inr apart ↦ omega (arith, known, get_or-set_other ranks off other rank 0 apart)
  | inl e ↦ elim (cases_lt other (length ranks)) [
    | inl there ↦ omega (arith, some, ap (slice_index (set ranks off rank)) e ∙ get_or-set_same ranks off rank 0 (omega (arith, there, e)))
    | inr past ↦ absurd (omega (arith, known, get_or_past ranks other 0 past))
  ]
]

pub push_notes : (old : RankedNames) (name : NameAt) (names : List ℕ) (rank : ℕ) → length old.ranks ≡ length old.strings → name.start < length old.strings
    → length names ≡ length old.names + 1 → rank ≡ length names
    → Notes old (record { strings = old.strings; ranks = set old.ranks name.start rank; names = names; last = name }) name.start
push_notes old name names rank whole there size is = record {
  known = omega (arith, get_or-set_same old.ranks name.start rank 0 (omega (arith, there, whole)), size, is);
  keeps = λ other known. noted_set old.ranks name.start rank other (omega (arith, size, is)) known;
  last = refl;
  few = omega (arith, size);
}

pub repeat_notes : (old : RankedNames) (off rank : ℕ) → length old.ranks ≡ length old.strings → off < length old.strings → 0 < length old.names → rank ≡ length old.names
    → slice_cmp nat_cmp (name_key old.strings old.last.start) (name_key old.strings off) ≡ Equal
    → Notes old (record { strings = old.strings; ranks = set old.ranks off rank; names = old.names; last = old.last }) off
repeat_notes old off rank whole there some is ties = record {
  known = omega (arith, get_or-set_same old.ranks off rank 0 (omega (arith, there, whole)), some, is);
  keeps = λ other known. noted_set old.ranks off rank other (omega (arith, some, is)) known;
  last = exact_bytes (name_key old.strings old.last.start) (name_key old.strings off) ties;
  few = omega arith;
}

-- the first k names are noted, and none of the others is less than the last of them
pub record AreUpTo (strings : List ℕ) (names : List NameAt) (k : ℕ) (r : RankedNames) : Type 0 where
  pub strings_are : r.strings ≡ strings
  pub empty : 0 < slice_index r.ranks 0
  pub noted : (i : ℕ) → i < k → 0 < slice_index r.ranks (slice_index (starts names) i)
  pub rest : (i : ℕ) → k ≤ i → i < length names
      → slice_cmp nat_cmp (name_key strings r.last.start) (name_key strings (slice_index (starts names) i)) ≢ Greater
  pub few : length r.names ≤ k + 1

least : (a : List ℕ) → slice_cmp nat_cmp (text_key []) (text_key a) ≢ Greater
least [] greater = omega (arith, ap ordering_index greater)
least (x ∷ a) greater =
    let is : slice_cmp nat_cmp (text_key []) (text_key (x ∷ a)) ≡ Less =
    ap (λ (o : Ordering). ordering_then o (slice_cmp nat_cmp [] (x ∷ a))) (less 0 (suc (length a)) (omega arith)) in
    omega (arith, ap ordering_index (sym is ∙ greater))

abbrev pub no_name : NameAt
no_name = record { start = 0; end = 0 }

start_at : (names : List NameAt) (k : ℕ) → slice_index (starts names) k ≡ (get_or names k no_name).start
start_at [] k = refl
start_at (name ∷ names) zero = refl
start_at (name ∷ names) (suc k) = start_at names k

-- a name that may be noted next
pub record IsNext (r : RankedNames) (name : NameAt) : Type 0 where
  pub there : name.start < length r.strings
  pub few : length r.names + 1 < 2 ^ 32
  pub end : HasEnd r.strings name
  pub not_less : slice_cmp nat_cmp (name_key r.strings r.last.start) (name_key r.strings name.start) ≢ Greater

module _ (strings : List ℕ) (names : List NameAt) where
  pub up_to_none : (r : RankedNames) → is_closed strings ≡ true → OfEmpty strings r → AreUpTo strings names 0 r
  up_to_none r closed first =
      let none : name_key strings r.last.start ≡ text_key [] = ap text_key (ap (string_at strings) first.start ∙ first_empty strings closed) in
      let one = first.one in
      record {
        strings_are = first.strings_are;
        empty = first.known;
        noted = λ i lt. absurd (omega (arith, lt));
        rest = λ i _ there.
            subst (λ (a : List ℕ). slice_cmp nat_cmp a (name_key strings (slice_index (starts names) i)) ≢ Greater) (sym none)
            (least (string_at strings (slice_index (starts names) i)));
        few = omega (arith, one);
      }

  pub up_to_more : (k : ℕ) (old new : RankedNames) → Rise strings names → k < length names → AreUpTo strings names k old → new.strings ≡ old.strings
      → Notes old new (get_or names k no_name).start → AreUpTo strings names (k + 1) new
  up_to_more k old new rise there are same notes =
      let off = slice_index (starts names) k in
      let noted : Notes old new off = subst (λ (o : ℕ). Notes old new o) (sym (start_at names k)) notes in
      let whole = same ∙ are.strings_are in
      let last : name_key strings new.last.start ≡ name_key strings off = subst (λ (s : List ℕ). name_key s new.last.start ≡ name_key s off) whole noted.last in
      let before = are.few in
      let now = noted.few in
      record {
        strings_are = whole;
        empty = noted.keeps 0 are.empty;
        noted = below_more _ _ (λ i lt. noted.keeps (slice_index (starts names) i) (are.noted i lt)) noted.known;
        rest = λ i from within.
            subst (λ (a : List ℕ). slice_cmp nat_cmp a (name_key strings (slice_index (starts names) i)) ≢ Greater) (sym last)
            (rise k i (omega (arith, from)) within);
        few = omega (arith, before, now);
      }

  module _ (offsets : List ℕ) (are : AreNames strings offsets names) (r : RankedNames) (k : ℕ) (up : AreUpTo strings names k r) where
    pub next_name : All (λ off. off < length strings) offsets → length offsets + 1 < 2 ^ 32 → k < length names → IsNext r (get_or names k no_name)
    next_name inside short within =
        let size = length-map names (λ (n : NameAt). n.start) in
        let here = start_at names k in
        let found = are.same.adds_none (slice_index (starts names) k) (All-contains_itself (starts names) k 0 (omega (arith, within, size))) in
        let there = All-contains (λ (off : ℕ). off < length strings) offsets (slice_index (starts names) k) inside found in
        let few = are.same.few in
        let before = up.few in
        record {
          there = omega (arith, there, here, ap length up.strings_are);
          few = omega (arith, short, within, few, before, size);
          end = subst (λ (s : List ℕ). HasEnd s (get_or names k no_name)) (sym up.strings_are) (are.ends k no_name within);
          not_less =
              subst (λ (s : List ℕ). slice_cmp nat_cmp (name_key s r.last.start) (name_key s (get_or names k no_name).start) ≢ Greater) (sym up.strings_are)
              (subst (λ (off : ℕ). slice_cmp nat_cmp (name_key strings r.last.start) (name_key strings off) ≢ Greater) here (up.rest k (omega arith) within));
        }

    pub all_noted : length names ≤ k → AreNoted r offsets
    all_noted end = record {
      empty = up.empty;
      each = λ j d there.
          let found = are.same.keeps (get_or offsets j d) (All-contains_itself offsets j d there) in
          let within : found.0 < k = omega (arith, found.1, end, length-map names (λ (n : NameAt). n.start)) in
          let is : slice_index (starts names) found.0 ≡ get_or offsets j d = get_or_default (starts names) found.0 0 (get_or offsets j d) found.1 ∙ found.2 in
          subst (λ (off : ℕ). 0 < slice_index r.ranks off) is (up.noted found.0 within);
    }
