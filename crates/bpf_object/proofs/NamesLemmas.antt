-- The steps of a string table while it is written.
use Rattle.std.proofs.Common.{Bool, true, false, ◌≡◌, ◌≢◌, ℕ, ◌+◌, ◌-◌, ◌<◌, ◌≤◌, ◌⊎◌, inl, inr, cond, Option, Some, None, List, [], ◌∷◌, ◌++◌, length, take, get_or, refl, sym, ap, ◌∙◌, subst, arith, rules, append-nil, append_assoc}
use Rattle.std.specs.{Borrow.Bor, BTreeMap.BTreeMap, BTreeMap.get_by, Cmp.nat_cmp_is, Cmp.Lexicographic.slice_cmp, List.Contains, List.flat_map, Map.update, Option.unwrap_or, Ordering.nat_cmp, Ordering.is_eq, Ordering.ordering_then, Str.bytes_eq}
use Rattle.std.specs.declared.cmp.Ordering.{Ordering, TheVariants.Less, TheVariants.Equal, TheVariants.Greater}
use Rattle.std.proofs.lemmas.Bool.{cases_Bool, cond-true, cond-false}
use Rattle.std.proofs.lemmas.Bool.Decides.{nat_tests}
use Rattle.std.proofs.lemmas.List.{nil_from_length, length-append, map_more, Concat.flat_map-append}
use Rattle.std.proofs.lemmas.Map.Text.{is_eq-slice_cmp}
use Rattle.bpf_elf.specs.Names.{string_at}
use Rattle.btf_types.specs.Names.{kept, with_nul, table_of, offset_within}
use Rattle.btf_types.proofs.Members.{Has, Has-from_Contains, Contains-from_Has}
use Rattle.btf_types.proofs.StringLemmas.Texts.{Has-kept, same_text}
use Rattle.bpf_canon.specs.btf.names.Interned.{IsInTable, borrowed_texts}
use Rattle.bpf_canon.specs.btf.strings.{DistinctNames.distinct_offset, DistinctOffsets.OffsetsByText, DistinctOffsets.offset_for, DistinctOffsets.IsTableOf, DistinctOffsets.HasOffset}
use Rattle.bpf_canon.proofs.BtfLemmas.Names.KeptSteps.{Has_cases, kept_empty, kept_known, kept_new, offset_stays, offset_room}
use Rattle.bpf_canon.proofs.BtfLemmas.Names.{Gathering.Has-front, Gathering.Has-back, HostSteps.kept_again, HostTable.offset_stays_all}
use Rattle.bpf_canon.proofs.BtfLemmas.Strings.{DistinctSteps.adds_empty, DistinctSteps.adds_known, DistinctSteps.adds_none, DistinctSteps.adds_new}
use Rattle.bpf_object.specs.declared.fault.ObjectError.{ObjectError}
use Rattle.bpf_object.specs.declared.fault.ObjectError.TheVariants as errors
use Rattle.bpf_object.specs.private.Names.{Strings, KnowsOffsets, IsStringTable, FindsOrStores, Forgets, FailsToPush, Adds, FailsToAdd, Extends}

-- ---- the offsets that a map has

-- two strings have the same key if and only if they are equal
same_then : (a b : Ordering) → is_eq b ≡ false → is_eq (ordering_then a b) ≡ false
same_then Less b e = refl
same_then Equal b e = e
same_then Greater b e = refl

same_key : (x y : List ℕ) → is_eq (ordering_then (nat_cmp (length x) (length y)) (slice_cmp nat_cmp x y)) ≡ bytes_eq x y
same_key x y = elim (cases_Bool (bytes_eq x y)) [
  | inl same ↦
      let long : length x ≡ length y = ap (λ (t : List ℕ). length t) (same_text x y same) in
      ap (λ (o : Ordering). is_eq (ordering_then o (slice_cmp nat_cmp x y))) (sym (nat_cmp_is (length x) (length y) Equal long)) ∙ is_eq-slice_cmp x y
  | inr other ↦ same_then (nat_cmp (length x) (length y)) (slice_cmp nat_cmp x y) (is_eq-slice_cmp x y ∙ other) ∙ sym other
]

-- what a map has for each string after an update at the key of one
pub updated_at : (x y : List ℕ) (old new : OffsetsByText) (w : Option ℕ) → offset_for new y ≡ cond (is_eq (ordering_then (nat_cmp (length x) (length y)) (slice_cmp nat_cmp x y))) w (offset_for old y)
    → offset_for new y ≡ update bytes_eq (offset_for old) x w y
updated_at x y old new w e = e ∙ ap (λ (b : Bool). cond b w (offset_for old y)) (same_key x y)

entries_same : (map by_text : OffsetsByText) → map.entries ≡ by_text.entries → (y : List ℕ) → offset_for map y ≡ offset_for by_text y
entries_same map by_text entries y = rw entries refl

-- writing what was there changes nothing
updated_same : (old : List ℕ → Option ℕ) (x y : List ℕ) (w : Option ℕ) → old x ≡ w → update bytes_eq old x w y ≡ old y
updated_same old x y w was = elim (cases_Bool (bytes_eq x y)) [
  | inl e ↦ cond-true (bytes_eq x y) w (old y) e ∙ sym was ∙ ap old (same_text x y e)
  | inr n ↦ cond-false (bytes_eq x y) w (old y) n
]

-- what was written is taken out again
updated_twice : (old more : List ℕ → Option ℕ) (x y : List ℕ) (w : Option ℕ) → ((z : List ℕ) → more z ≡ update bytes_eq old x w z) → old x ≡ None → update bytes_eq more x None y ≡ old y
updated_twice old more x y w put absent = elim (cases_Bool (bytes_eq x y)) [
  | inl e ↦ cond-true (bytes_eq x y) None (more y) e ∙ sym absent ∙ ap old (same_text x y e)
  | inr n ↦ cond-false (bytes_eq x y) None (more y) n ∙ put y ∙ cond-false (bytes_eq x y) w (old y) n
]

not_nil : (x : List ℕ) → 0 < length x → x ≢ []
not_nil x some e = omega (arith, some, ap (λ (t : List ℕ). length t) e)

same_number : (a b : ℕ) → is_eq (nat_cmp a b) ≡ true → a ≡ b
same_number a b e = grind (arith, rules, nat_tests)

-- ---- the bytes of the table

pub bytes_next : (xs : List (Bor (List ℕ))) (k : ℕ) (d : Bor (List ℕ)) (start out new : List ℕ) → k < length xs → out ≡ start ++ flat_map with_nul (borrowed_texts (take k xs)) → new ≡ out ++ with_nul (get_or xs k d).now
    → new ≡ start ++ flat_map with_nul (borrowed_texts (take (k + 1) xs))
bytes_next xs k d start out new lt before pushed =
    let w = (get_or xs k d).now in
    let ks = borrowed_texts (take k xs) in
    let more : flat_map with_nul (borrowed_texts (take (k + 1) xs)) ≡ flat_map with_nul ks ++ with_nul w =
    ap (flat_map with_nul) (map_more (λ (x : Bor (List ℕ)). x.now) xs k d lt) ∙ flat_map-append with_nul ks (w ∷ []) ∙ ap (λ (t : List ℕ). flat_map with_nul ks ++ t) (append-nil (with_nul w)) in
    pushed ∙ ap (λ (t : List ℕ). t ++ with_nul w) before ∙ append_assoc start (flat_map with_nul ks) (with_nul w) ∙ ap (λ (t : List ℕ). start ++ t) (sym more)

-- ---- one string more

module _ (ks : List (List ℕ)) (own : kept ks ≡ ks) (x : List ℕ) where
  kept_cases : (kept (ks ++ x ∷ []) ≡ ks) ⊎ (kept (ks ++ x ∷ []) ≡ ks ++ x ∷ [])
  kept_cases = cases x (Has_cases (kept ks) x)
    where
      cases : (y : List ℕ) → Has (kept ks) y ⊎ (¬ Has (kept ks) y) → (kept (ks ++ y ∷ []) ≡ ks) ⊎ (kept (ks ++ y ∷ []) ≡ ks ++ y ∷ [])
      cases [] h = inl (kept_empty ks ∙ own)
      cases (b ∷ y) (inl h) = inl (kept_known ks (b ∷ y) h ∙ own)
      cases (b ∷ y) (inr n) = inr (kept_new ks (b ∷ y) (λ e. absurd cc) n ∙ ap (λ (l : List (List ℕ)). l ++ (b ∷ y) ∷ []) own)

  -- earlier strings stay where they are
  pub stays : (z : List ℕ) → IsInTable ks z → IsInTable (kept (ks ++ x ∷ [])) z × (distinct_offset (kept (ks ++ x ∷ [])) z ≡ distinct_offset ks z)
  stays [] is = (inl refl, refl)
  stays (b ∷ z) is =
      let has : Has ks (b ∷ z) = elim is [ inl e ↦ absurd cc | inr c ↦ Has-from_Contains ks (b ∷ z) c ] in
      elim kept_cases [
        | inl same ↦ (inr (subst (λ (l : List (List ℕ)). Contains l (b ∷ z)) (sym same) (Contains-from_Has ks (b ∷ z) has)), ap (λ l. distinct_offset l (b ∷ z)) same)
        | inr new ↦ (
          inr (Contains-from_Has (kept (ks ++ x ∷ [])) (b ∷ z) (subst (λ (l : List (List ℕ)). Has l (b ∷ z)) (sym new) (Has-front ks (x ∷ []) (b ∷ z) has))),
          ap (λ l. offset_within l (b ∷ z)) (kept_again (ks ++ x ∷ []) ∙ new) ∙ offset_stays ks x (b ∷ z) has ∙ ap (λ l. offset_within l (b ∷ z)) (sym own),
        )
      ]

  -- a string of the table leaves it as it is
  pub known_again : IsInTable ks x → kept (ks ++ x ∷ []) ≡ ks
  known_again (inl e) = ap (λ (y : List ℕ). kept (ks ++ y ∷ [])) e ∙ kept_empty ks ∙ own
  known_again (inr c) = kept_known ks x (subst (λ (l : List (List ℕ)). Has l x) (sym own) (Has-from_Contains ks x c)) ∙ own

-- what is added is in the table
added_in : (ks : List (List ℕ)) (x : List ℕ) → IsInTable (kept (ks ++ x ∷ [])) x
added_in ks x = elim (Has_cases (kept (ks ++ x ∷ [])) x) [
  | inl h ↦ inr (Contains-from_Has (kept (ks ++ x ∷ [])) x h)
  | inr n ↦ inl (only_empty x n)
]
  where
    only_empty : (y : List ℕ) → ¬ Has (kept (ks ++ y ∷ [])) y → y ≡ []
    only_empty [] n = refl
    only_empty (b ∷ y) n = absurd (n (Has-kept (ks ++ (b ∷ y) ∷ []) b y (Has-back ks ((b ∷ y) ∷ []) (b ∷ y) (inl refl))))

-- offsets of a longer table, whose last string may be new
offsets_again : (xs : List (List ℕ)) (x : List ℕ) → distinct_offset xs x ≡ distinct_offset (kept xs) x
offsets_again xs [] = refl
offsets_again xs (b ∷ x) = ap (λ l. offset_within l (b ∷ x)) (sym (kept_again xs))

-- a map that has the same offsets is as good
same_offsets : (ks : List (List ℕ)) (bytes : List ℕ) (by_text more : OffsetsByText) → ((y : List ℕ) → offset_for more y ≡ offset_for by_text y) → IsTableOf ks bytes by_text → IsTableOf ks bytes more
same_offsets ks bytes by_text more same t = record {
  bytes_are = t.bytes_are;
  there = λ y c. same y ∙ t.there y c;
  absent = λ y n. same y ∙ t.absent y n;
}

-- the table with one more string
pub record Stored (ks new : List (List ℕ)) (len : ℕ) (more : OffsetsByText) (source : List ℕ) (by_offset : BTreeMap ℕ ℕ) (x : List ℕ) (limit offset : ℕ) : Type 0 where
  pub table : IsStringTable new len more source by_offset limit
  pub texts : new ≡ kept (ks ++ x ∷ [])
  pub offset_is : offset ≡ distinct_offset new x

module _ (ks : List (List ℕ)) (len : ℕ) (by_text : OffsetsByText) (source : List ℕ) (by_offset : BTreeMap ℕ ℕ) (limit : ℕ) (is : IsStringTable ks len by_text source by_offset limit) where
  table_kept : IsTableOf (kept ks) (table_of ks) by_text
  table_kept = subst (λ (l : List (List ℕ)). IsTableOf l (table_of ks) by_text) (sym is.own) is.table

  bytes_within : length (table_of ks) ≤ limit
  bytes_within = omega (arith, is.len_is, is.within)

  stored : (bytes : List ℕ) (new : List (List ℕ)) (new_len : ℕ) (more : OffsetsByText) (x : List ℕ) (offset : ℕ) → new ≡ kept (ks ++ x ∷ []) → new_len ≡ length bytes → HasOffset (ks ++ x ∷ []) bytes more x limit offset
      → Stored ks new new_len more source by_offset x limit offset
  stored bytes new new_len more x offset same long has = record {
    table = record {
      table = subst (λ (l : List (List ℕ)). IsTableOf l (table_of l) more) (sym same) (subst (λ (b : List ℕ). IsTableOf (kept (ks ++ x ∷ [])) b more) has.table.bytes_are has.table);
      own = ap kept same ∙ kept_again (ks ++ x ∷ []) ∙ sym same;
      offsets = subst (λ (l : List (List ℕ)). KnowsOffsets l source by_offset) (sym same) (λ off known e.
          let k = is.offsets off known e in
          let s = stays ks is.own x (string_at source off) k.0 in
          (s.0, k.1 ∙ sym s.1));
      len_is = long ∙ ap (λ (b : List ℕ). length b) has.table.bytes_are ∙ ap (λ (l : List (List ℕ)). length (table_of l)) (sym same);
      within = omega (arith, long, has.within);
      limited = is.limited;
    };
    texts = same;
    offset_is = has.text_offset_is ∙ offsets_again (ks ++ x ∷ []) x ∙ ap (λ (l : List (List ℕ)). distinct_offset l x) (sym same);
  }

  with_map : (map : OffsetsByText) → ((y : List ℕ) → offset_for map y ≡ offset_for by_text y) → IsStringTable ks len map source by_offset limit
  with_map map same = record {
    table = same_offsets ks (table_of ks) by_text map same is.table;
    own = is.own;
    offsets = is.offsets;
    len_is = is.len_is;
    within = is.within;
    limited = is.limited;
  }

  pub stored_empty : (x : List ℕ) → length x ≡ 0 → Stored ks ks len by_text source by_offset x limit 0
  stored_empty x z = stored (table_of ks) ks len by_text x 0 (sym (known_again ks is.own x (inl (nil_from_length x z)))) is.len_is (adds_empty ks (table_of ks) by_text x limit table_kept bytes_within z)

  -- what is found for a string is less than the length of the table, or the string is new
  module _ (x : List ℕ) (more : OffsetsByText) (found : ℕ) (some : 0 < length x) (finds : FindsOrStores by_text more x len found) where
    has_not : ¬ Has ks x → offset_for by_text x ≡ None
    has_not n = is.table.absent x (λ c. n (Has-from_Contains ks x c))

    is_new : len ≤ found → ¬ Has ks x
    is_new high h =
        let there = is.table.there x (Contains-from_Has ks x h) in
        let found_is : found ≡ offset_within ks x = finds.found_is ∙ ap (λ (o : Option ℕ). unwrap_or o len) there in
        omega (arith, high, found_is, is.len_is, offset_room ks x h)

    found_end : ¬ Has ks x → found ≡ len
    found_end n = finds.found_is ∙ ap (λ (o : Option ℕ). unwrap_or o len) (has_not n)

    is_old : found < len → Has ks x
    is_old low = elim (Has_cases ks x) [ inl h ↦ h | inr n ↦ absurd (omega (arith, low, found_end n)) ]

    pub stored_known : found < len → Stored ks ks len more source by_offset x limit found
    stored_known low =
        let h = is_old low in
        let there : offset_for by_text x ≡ Some (offset_within ks x) = is.table.there x (Contains-from_Has ks x h) in
        let found_is : found ≡ offset_within ks x = finds.found_is ∙ ap (λ (o : Option ℕ). unwrap_or o len) there in
        let was : offset_for by_text x ≡ Some found = there ∙ ap Some (sym found_is) in
        let same : (y : List ℕ) → offset_for more y ≡ offset_for by_text y = λ y. finds.offsets y ∙ updated_same (offset_for by_text) x y (Some found) was in
        let here : offset_for more x ≡ Some found = same x ∙ was in
        stored (table_of ks) ks len more x found (sym (known_again ks is.own x (inr (Contains-from_Has ks x h)))) is.len_is
        (adds_known ks (table_of ks) more x limit (same_offsets (kept ks) (table_of ks) by_text more same table_kept) bytes_within found some here)

    pub stored_new : (new : List (List ℕ)) (map : OffsetsByText) (new_len : ℕ) → len ≤ found → map.entries ≡ more.entries → length x < limit - len → new ≡ ks ++ x ∷ [] → new_len ≡ len + length x + 1
        → Stored ks new new_len map source by_offset x limit found
    stored_new new map new_len high entries room texts long =
        let none = is_new high in
        let absent = has_not none in
        let put : (y : List ℕ) → offset_for map y ≡ update bytes_eq (offset_for by_text) x (Some found) y = λ y. entries_same map more entries y ∙ finds.offsets y in
        let bytes = (table_of ks ++ x) ++ 0 ∷ [] in
        let same : new ≡ kept (ks ++ x ∷ []) = texts ∙ ap (λ (l : List (List ℕ)). l ++ x ∷ []) (sym is.own) ∙ sym (kept_new ks x (not_nil x some) (λ h. none (subst (λ (l : List (List ℕ)). Has l x) is.own h))) in
        stored bytes new new_len map x found same (long ∙ bytes_long x)
        (adds_new ks (table_of ks) by_text x limit table_kept bytes_within bytes map found some absent (omega (arith, room, is.len_is)) (found_end none ∙ is.len_is) refl put)
      where
        bytes_long : (x : List ℕ) → len + length x + 1 ≡ length ((table_of ks ++ x) ++ 0 ∷ [])
        bytes_long x = omega (arith, is.len_is, length-append (table_of ks ++ x) (0 ∷ []), length-append (table_of ks) x)

    pub past_limit : len ≤ found → limit - len ≤ length x → limit < length (table_of (kept (ks ++ x ∷ [])))
    past_limit high full = adds_none ks (table_of ks) by_text x limit table_kept bytes_within some (has_not (is_new high)) (omega (arith, full, is.len_is))

    -- if it wasn't appended, it has no offset, as before
    pub forgotten : (new : List (List ℕ)) (map : OffsetsByText) → len ≤ found → new ≡ ks → Forgets more map x → IsStringTable new len map source by_offset limit
    forgotten new map high texts forgets =
        let absent = has_not (is_new high) in
        subst (λ (l : List (List ℕ)). IsStringTable l len map source by_offset limit) (sym texts)
        (with_map map (λ y. forgets y ∙ updated_twice (offset_for by_text) (offset_for more) x y (Some found) finds.offsets absent))

  -- if memory runs out, nothing has changed
  pub unchanged : (map : OffsetsByText) → map.entries ≡ by_text.entries → IsStringTable ks len map source by_offset limit
  unchanged map entries = with_map map (entries_same map by_text entries)

  -- the offset of a string is stored by its offset in the table that is read
  pub known_stored : (more : BTreeMap ℕ ℕ) (off offset : ℕ) → IsInTable ks (string_at source off) → offset ≡ distinct_offset ks (string_at source off)
      → ((q : ℕ) → get_by (nat_cmp q) more ≡ cond (is_eq (nat_cmp off q)) (Some offset) (get_by (nat_cmp q) by_offset)) → IsStringTable ks len by_text source more limit
  known_stored more off offset has offset_is put = record {
    table = is.table;
    own = is.own;
    offsets = λ q known e. elim (cases_Bool (is_eq (nat_cmp off q))) [
      | inl same ↦
          let here : get_by (nat_cmp q) more ≡ Some offset = put q ∙ cond-true (is_eq (nat_cmp off q)) (Some offset) (get_by (nat_cmp q) by_offset) same in
          let is_q : off ≡ q = same_number off q same in
          let is_known : offset ≡ known = cc in
          (subst (λ (o : ℕ). IsInTable ks (string_at source o)) is_q has, sym is_known ∙ offset_is ∙ ap (λ (o : ℕ). distinct_offset ks (string_at source o)) is_q)
      | inr other ↦ is.offsets q known (sym (put q ∙ cond-false (is_eq (nat_cmp off q)) (Some offset) (get_by (nat_cmp q) by_offset) other) ∙ e)
    ];
    len_is = is.len_is;
    within = is.within;
    limited = is.limited;
  }

  pub known_same : (more : BTreeMap ℕ ℕ) → more.entries ≡ by_offset.entries → IsStringTable ks len by_text source more limit
  known_same more entries = record {
    table = is.table;
    own = is.own;
    offsets = λ q known e. is.offsets q known (sym (got_same q) ∙ e);
    len_is = is.len_is;
    within = is.within;
    limited = is.limited;
  }
    where
      got_same : (q : ℕ) → get_by (nat_cmp q) more ≡ get_by (nat_cmp q) by_offset
      got_same q = rw entries refl

-- a new string can't be added
pub fails_new : (old : Strings) (x : List ℕ) (room : ℕ) (e : ObjectError) → (room ≤ length x → old.limit < length (table_of (kept (old.texts ++ x ∷ [])))) → FailsToPush x room e → FailsToAdd old x e
fails_new old x room (errors.Fault fault) past f = (past f.0, f.1)
fails_new old x room errors.Memory past f = f

-- the offset of a string that was read and added
abbrev pub IsKnown : Strings → ℕ → ℕ → Type 0
IsKnown new off offset = IsInTable new.texts (string_at new.source off) × (offset ≡ distinct_offset new.texts (string_at new.source off))

pub known_now : (old new : Strings) (x : List ℕ) (off offset : ℕ) → Adds old new x offset → x ≡ string_at old.source off → IsKnown new off offset
known_now old new x off offset adds read =
    let same : x ≡ string_at new.source off = read ∙ ap (λ (s : List ℕ). string_at s off) (sym adds.source) in
    (subst (IsInTable new.texts) same (subst (λ (l : List (List ℕ)). IsInTable l x) (sym adds.texts) (added_in old.texts x)), adds.offset_is ∙ ap (distinct_offset new.texts) same)

-- ---- what is written with the offsets of a table is written with those of each longer one

pub extends_less : (all ks : List (List ℕ)) (x : List ℕ) → kept ks ≡ ks → Extends all (kept (ks ++ x ∷ [])) → Extends all ks
extends_less all ks x own (rest, e) = elim (kept_cases ks own x) [
  | inl same ↦ (rest, e ∙ ap (λ (l : List (List ℕ)). l ++ rest) same)
  | inr new ↦ (x ∷ rest, e ∙ ap (λ (l : List (List ℕ)). l ++ rest) new ∙ append_assoc ks (x ∷ []) rest)
]

pub offset_later : (all ks : List (List ℕ)) (x : List ℕ) → kept ks ≡ ks → IsInTable ks x → Extends all ks → distinct_offset all x ≡ distinct_offset ks x
offset_later all ks [] own is more = refl
offset_later all ks (b ∷ x) own is (rest, e) =
    let has : Has ks (b ∷ x) = elim is [ inl n ↦ absurd cc | inr c ↦ Has-from_Contains ks (b ∷ x) c ] in
    ap (λ (l : List (List ℕ)). offset_within l (b ∷ x)) e ∙ offset_stays_all rest ks (b ∷ x) has ∙ ap (λ (l : List (List ℕ)). offset_within l (b ∷ x)) (sym own)

-- a string that was added is at its offset in each longer table
pub added_later : (old new : Strings) (x : List ℕ) (offset : ℕ) (all : List (List ℕ)) → Adds old new x offset → Extends all new.texts → offset ≡ distinct_offset all x
added_later old new x offset all adds more =
    let own : kept new.texts ≡ new.texts = ap kept adds.texts ∙ kept_again (old.texts ++ x ∷ []) ∙ sym adds.texts in
    adds.offset_is ∙ sym (offset_later all new.texts x own (subst (λ (l : List (List ℕ)). IsInTable l x) (sym adds.texts) (added_in old.texts x)) more)
