-- The offsets of hosts in their table, in the order of the names, and the offset of each name.
use Rattle.std.proofs.Common.{Bor, ◌≡◌, ◌≢◌, ℕ, zero, suc, ◌+◌, ◌-◌, ◌<◌, ◌≤◌, ◌^◌, true, false, inl, inr, List, [], ◌∷◌, ◌++◌, length, get_or, set, take, drop, refl, sym, ap, ◌∙◌, subst, arith, append_assoc, append-nil}
use Rattle.std.proofs.lemmas.Grind.{common_steps}
use Rattle.std.specs.{List.filter}
use Rattle.std.proofs.lemmas.List.{Concat.flat_map-append, Elements.filter-append, Sorted.IsPermutation-refl}
use Rattle.std.proofs.lemmas.Bool.{cases_eq, cases_lt, not-true}
use Rattle.std.proofs.lemmas.List.{get_or-set_same, get_or-set_other, length-set, take-append-drop, take_all, get_or_read}
use Rattle.btf_types.specs.Names.{table_of, offset_within}
use Rattle.btf_types.specs.strings.SharedNames.{hosts_of, host_in, shared_among}
use Rattle.btf_types.proofs.Members.{Has, Has-get_or, Has-from_filter}
use Rattle.btf_types.proofs.StringLemmas.{Texts.same_text, Texts.bytes_eq-same, Distinct.NoRepeats, Distinct.apart_after}
use Rattle.btf_types.proofs.StringLemmas.{Suffixes.Ends-length, Hosts.host_is, Hosts.own_host_of}
use Rattle.bpf_canon.specs.btf.names.Interned.{borrowed_texts, HaveHosts, ArePlacedHosts, AreShared, name_at}
use Rattle.bpf_canon.proofs.BtfLemmas.Names.KeptSteps.{offset_stays, offset_last, length-table_push}
use Rattle.bpf_canon.proofs.BtfLemmas.Names.HostSearch.{text_at, texts_length}
use Rattle.bpf_canon.proofs.BtfLemmas.Names.{KeptSteps.offset_room, Gathering.Has-front, Gathering.Has-back}
use Rattle.bpf_canon.proofs.BtfLemmas.Names.HostSteps.{keeps, own_host_test, hosts_among, hosts_among_more, hosts_among_same, hosts_among_room}

-- names that are apart have one index each
pub index_is : (ks : List (List ℕ)) → NoRepeats ks → (i j : ℕ) → i < length ks → j < length ks → name_at ks i ≡ name_at ks j → i ≡ j
index_is ks apart i j a b e = elim (cases_eq i j) [
  | inl q ↦ q
  | inr n ↦ elim (cases_lt i j) [
    | inl l ↦ absurd (apart_after ks ks apart (IsPermutation-refl ks) i j [] l b e)
    | inr m ↦ absurd (apart_after ks ks apart (IsPermutation-refl ks) j i [] (omega (arith, m, n)) a (sym e))
  ]
]

not_before : (ks : List (List ℕ)) (k : ℕ) → NoRepeats ks → k < length ks → ¬ Has (take k ks) (name_at ks k)
not_before [] k n h = absurd (omega (arith, h))
not_before (x ∷ xs) zero n h = λ i. i
not_before (x ∷ xs) (suc k) (n, ns) h = grind (arith, Has-get_or, (not_before xs k ns (omega (arith, h))))

pub offset_stays_all : (rest ks : List (List ℕ)) (y : List ℕ) → Has ks y → offset_within (ks ++ rest) y ≡ offset_within ks y
offset_stays_all [] ks y h = ap (λ (l : List (List ℕ)). offset_within l y) (append-nil ks)
offset_stays_all (r ∷ rest) ks y h = grind (arith, append_assoc, offset_stays, (offset_stays_all rest (ks ++ r ∷ []) y (Has-front ks (r ∷ []) y h)))

-- the hosts among the first k names have their offsets, and this is the length of their table
pub record PlacedTo (ks : List (List ℕ)) (host_indices text_offsets : List ℕ) (table_len k : ℕ) : Type 0 where
  pub whole : length text_offsets ≡ length ks
  pub each : (i : ℕ) → i < k → get_or host_indices i 0 ≡ i → get_or text_offsets i 0 ≡ length (table_of (hosts_among ks i))
  pub long : table_len ≡ length (table_of (hosts_among ks k))

module _ (ks : List (List ℕ)) (host_indices : List ℕ) (apart : NoRepeats ks) (have : HaveHosts ks host_indices) where
  pub keeps_own : (i : ℕ) → i < length ks → get_or host_indices i 0 ≡ i → keeps ks (name_at ks i) ≡ true
  keeps_own i h e = grind (arith, common_steps, own_host_test, Has-get_or, bytes_eq-same)

  pub keeps_other : (i : ℕ) → i < length ks → get_or host_indices i 0 ≢ i → keeps ks (name_at ks i) ≡ false
  keeps_other i h n = grind (arith, own_host_test, Has-get_or, index_is, same_text)

  pub placed_own : (text_offsets : List ℕ) (len k : ℕ) → PlacedTo ks host_indices text_offsets len k → k < length ks → get_or host_indices k 0 ≡ k → PlacedTo ks host_indices (set text_offsets k len) (len + (length (name_at ks k) + 1)) (k + 1)
  placed_own text_offsets len k to low e = record {
    whole = length-set text_offsets k len ∙ to.whole;
    each = grind (arith, get_or-set_same, get_or-set_other);
    long = ap (λ (m : ℕ). m + (length (name_at ks k) + 1)) to.long ∙ sym (length-table_push (hosts_among ks k) (name_at ks k)) ∙ ap (λ (l : List (List ℕ)). length (table_of l)) (sym (hosts_among_more ks k [] low (keeps_own k low e)));
  }

  pub placed_room : (text_offsets : List ℕ) (len k : ℕ) → PlacedTo ks host_indices text_offsets len k → k < length ks → get_or host_indices k 0 ≡ k → len + (length (name_at ks k) + 1) ≤ length (table_of (hosts_of ks))
  placed_room text_offsets len k to low e = let more = (placed_own text_offsets len k to low e).long in omega (arith, more, hosts_among_room ks (k + 1))

  pub placed_other : (text_offsets : List ℕ) (len k : ℕ) → PlacedTo ks host_indices text_offsets len k → k < length ks → get_or host_indices k 0 ≢ k → PlacedTo ks host_indices text_offsets len (k + 1)
  placed_other text_offsets len k to low n = record {
    whole = to.whole;
    each = grind arith;
    long = to.long ∙ ap (λ (l : List (List ℕ)). length (table_of l)) (sym (hosts_among_same ks k [] low (keeps_other k low n)));
  }

  all_among : hosts_among ks (length ks) ≡ hosts_of ks
  all_among = ap (filter (keeps ks)) (take_all (length ks) ks (omega arith))

  pub placed_all : (text_offsets : List ℕ) (len : ℕ) → PlacedTo ks host_indices text_offsets len (length ks) → ArePlacedHosts ks host_indices text_offsets len
  placed_all text_offsets len to = record {
    whole = to.whole;
    each = λ i h o.
        let x = name_at ks i in
        let rest = filter (keeps ks) (drop (i + 1) ks) in
        let front = hosts_among ks i in
        let more : hosts_among ks (i + 1) ≡ front ++ x ∷ [] = hosts_among_more ks i [] h (keeps_own i h o) in
        let split : hosts_of ks ≡ (front ++ x ∷ []) ++ rest = ap (filter (keeps ks)) (sym (take-append-drop (i + 1) ks)) ∙ filter-append (keeps ks) (take (i + 1) ks) (drop (i + 1) ks) ∙ ap (λ (l : List (List ℕ)). l ++ rest) more in
        let none : ¬ Has front x = λ y. not_before ks i apart h ((Has-from_filter (keeps ks) (take i ks) x y).0) in
        to.each i h o ∙ sym (ap (λ (l : List (List ℕ)). offset_within l x) split ∙ offset_stays_all rest (front ++ x ∷ []) x (Has-back front (x ∷ []) x (inl refl)) ∙ offset_last front x none);
    long = to.long ∙ ap (λ (l : List (List ℕ)). length (table_of l)) all_among;
  }

-- one name more in a table
pub table_more : (out old : List ℕ) (hs : List (List ℕ)) (x : List ℕ) → out ≡ old ++ table_of hs → (out ++ x) ++ 0 ∷ [] ≡ old ++ table_of (hs ++ x ∷ [])
table_more out old hs x e = grind (arith, append_assoc, flat_map-append)

-- a name that isn't empty, the index of its host, and the offset of the host
pub record HasOffset (ks : List (List ℕ)) (host_indices text_offsets : List ℕ) (x : List ℕ) (i : ℕ) : Type 0 where
  pub inside : get_or host_indices i 0 < length ks
  pub shorter : length x ≤ length (name_at ks (get_or host_indices i 0))
  pub fits : get_or text_offsets (get_or host_indices i 0) 0 + length (name_at ks (get_or host_indices i 0)) < length (table_of (hosts_of ks))
  pub text_offset : get_or text_offsets (get_or host_indices i 0) 0 + (length (name_at ks (get_or host_indices i 0)) - length x) ≡ shared_among ks x

in_shared : (ks : List (List ℕ)) (x h : List ℕ) (n : ℕ) → 0 < length x → h ≡ host_in (hosts_of ks) x → n ≡ offset_within (hosts_of ks) h → n + (length h - length x) ≡ shared_among ks x
in_shared ks [] h n some is text_offset = absurd (omega (arith, some))
in_shared ks (b ∷ bytes) h n some is text_offset = grind arith

pub has_offset : (ks : List (List ℕ)) (host_indices text_offsets : List ℕ) (table_len : ℕ) → NoRepeats ks → AreShared ks host_indices text_offsets table_len → (x : List ℕ) (i : ℕ) → i < length ks → name_at ks i ≡ x → 0 < length x → HasOffset ks host_indices text_offsets x i
has_offset ks host_indices text_offsets table_len apart are x i low is some =
    let h = get_or host_indices i 0 in
    let name = name_at ks h in
    let have = are.have_hosts in
    let inside = have.inside i low in
    let has_x : Has ks x = subst (Has ks) is (Has-get_or ks i [] low) in
    let host : name ≡ host_in (hosts_of ks) x = have.each i low ∙ ap (host_in (hosts_of ks)) is in
    let its = host_is ks x has_x in
    let in_hosts : Has (hosts_of ks) name = subst (Has (hosts_of ks)) (sym host) its.host in
    let alone = not-true _ ((Has-from_filter (keeps ks) ks name in_hosts).1) in
    let own : get_or host_indices h 0 ≡ h = index_is ks apart (get_or host_indices h 0) h (have.inside h inside) inside (have.each h inside ∙ own_host_of ks name (Has-get_or ks h [] inside) alone) in
    let text_offset = are.are_placed.each h inside own in
    record {
      inside = inside;
      shorter = omega (arith, Ends-length x (host_in (hosts_of ks) x) its.ends, ap (λ (t : List ℕ). length t) host);
      fits = omega (arith, text_offset, offset_room (hosts_of ks) name in_hosts);
      text_offset = in_shared ks x name (get_or text_offsets h 0) some host text_offset;
    }

-- the same in the form that the code needs: the borrowed names, and what was read of the hosts and of their offsets
pub record ReadsOffset (ks : List (List ℕ)) (names : List (Bor (List ℕ))) (x : List ℕ) (h n : ℕ) (d : Bor (List ℕ)) : Type 0 where
  pub shorter : length x ≤ length ((get_or names h d).now)
  pub fits : n + length ((get_or names h d).now) < 2 ^ 32
  pub text_offset : n + (length ((get_or names h d).now) - length x) ≡ shared_among ks x

pub reads_offset : (ks : List (List ℕ)) (names : List (Bor (List ℕ))) (host_indices text_offsets : List ℕ) (table_len i h n : ℕ) (x : List ℕ) (d : Bor (List ℕ)) → d.now ≡ [] → borrowed_texts names ≡ ks → NoRepeats ks → AreShared ks host_indices text_offsets table_len
    → i < length ks → name_at ks i ≡ x → 0 < length x → h ≡ get_or host_indices i h → n ≡ get_or text_offsets h n → ReadsOffset ks names x h n d
reads_offset ks names host_indices text_offsets table_len i h n x d none same apart are low is some h_is n_is =
    let p = has_offset ks host_indices text_offsets table_len apart are x i low is some in
    let host : h ≡ get_or host_indices i 0 = get_or_read host_indices i h (omega (arith, low, are.have_hosts.whole)) h_is 0 in
    let inside : h < length ks = omega (arith, host, p.inside) in
    let text_offset : n ≡ get_or text_offsets (get_or host_indices i 0) 0 = get_or_read text_offsets h n (omega (arith, inside, are.are_placed.whole)) n_is 0 ∙ ap (λ (m : ℕ). get_or text_offsets m 0) host in
    let text : (get_or names h d).now ≡ name_at ks (get_or host_indices i 0) = grind (arith, text_at, texts_length) in
    let long = ap (λ (t : List ℕ). length t) text in
    omega arith
