-- Steps of the loop that appends distinct names to a table.
use Rattle.std.proofs.Common.{Bool, cond, ◌≡◌, ◌≢◌, ℕ, ◌+◌, ◌-◌, ◌<◌, ◌≤◌, ◌^◌, ◌⊎◌, true, false, inl, inr, Some, None, Option, MatchOption, List, [], ◌∷◌, ◌++◌, length, map, take, drop, get_or, set, refl, sym, ap, ◌∙◌, subst, arith, append-nil, append_assoc}
use Rattle.std.specs.{List.flat_map, Map.update, Str.bytes_eq}
use Rattle.std.proofs.lemmas.Map.Text.{is_eq-slice_cmp}
use Rattle.std.specs.{Cmp.nat_cmp_is, Cmp.Lexicographic.slice_cmp, declared.cmp.Ordering.Ordering, Ordering.is_eq, Ordering.nat_cmp, Ordering.ordering_then}
use Rattle.std.specs.declared.cmp.Ordering.TheVariants.{Less, Equal, Greater}
use Rattle.std.proofs.lemmas.Bool.{cases_Bool, cases_eq, cond-true, cond-false, false_from_ne_true}
use Rattle.std.proofs.lemmas.List.{nil_from_length, length-append, length-set, get_or_default, get_or-set_same, get_or-set_other, map_more, map-append, take_all, take-append-drop, Concat.flat_map-append}
use Rattle.btf_raw.specs.{Header.HasNulEnds, Names.TextAt}
use Rattle.btf_raw.proofs.Texts.{TextAt-unique}
use Rattle.btf_types.specs.{Names.kept, Names.with_nul, Names.table_of, Names.offset_within, Reading.text_from}
use Rattle.btf_types.proofs.Members.{Has, Has-from_Contains, Contains-from_Has}
use Rattle.btf_types.proofs.TableLemmas.TextSteps.{text_there}
use Rattle.btf_types.proofs.StringLemmas.Texts.{bytes_eq-same, same_text, Has-kept}
use Rattle.bpf_canon.specs.btf.strings.DistinctNames.{distinct_table, distinct_offset}
use Rattle.bpf_canon.specs.btf.strings.DistinctOffsets.{OffsetsByText, offset_for, IsTableOf, HasOffset, AddsName, AreDistinct}
use Rattle.bpf_canon.specs.btf.strings.{FirstUses.AreMarked, UsedOffsets.Used, UsedOffsets.number_of, UsedOffsets.used_count}
use Rattle.bpf_canon.proofs.BtfLemmas.Names.KeptSteps.{Has_cases, kept_empty, kept_known, kept_new, offset_stays, offset_last, length-table_push}
use Rattle.bpf_canon.proofs.BtfLemmas.Names.{Gathering.Has-front, Gathering.Has-back, HostTable.offset_stays_all, HostTable.table_more}
use Rattle.bpf_canon.proofs.BtfLemmas.Strings.{PlacedHosts.has_push, UsedSteps.used_inside, UsedSteps.number_inside, UsedSteps.number_injective}

offset_some : (xs : List (List ℕ)) (x : List ℕ) → 0 < length x → distinct_offset xs x ≡ offset_within (kept xs) x
offset_some xs [] some = absurd (omega (arith, some))
offset_some xs (b ∷ x) some = refl

not_empty : (x : List ℕ) → 0 < length x → x ≢ []
not_empty x some e = omega (arith, some, ap (λ (t : List ℕ). length t) e)

kept_cases : (xs : List (List ℕ)) (y : List ℕ) → (kept (xs ++ y ∷ []) ≡ kept xs) ⊎ (kept (xs ++ y ∷ []) ≡ kept xs ++ y ∷ [])
kept_cases xs [] = inl (kept_empty xs)
kept_cases xs (b ∷ y) = elim (Has_cases (kept xs) (b ∷ y)) [
  | inl h ↦ inl (kept_known xs (b ∷ y) h)
  | inr n ↦ inr (kept_new xs (b ∷ y) (not_empty (b ∷ y) (omega arith)) n)
]

-- two strings have the same key if and only if they are equal
same_then : (a b : Ordering) → is_eq b ≡ false → is_eq (ordering_then a b) ≡ false
same_then Less b e = refl
same_then Equal b e = e
same_then Greater b e = refl

same_key : (x y : List ℕ) → is_eq (ordering_then (nat_cmp (length x) (length y)) (slice_cmp nat_cmp x y)) ≡ bytes_eq x y
same_key x y = elim (cases_Bool (bytes_eq x y)) [
  | inl same ↦
      let long : length x ≡ length y = ap (λ (t : List ℕ). length t) (same_text x y same) in
      ap (λ (o : Ordering). is_eq (ordering_then o (slice_cmp nat_cmp x y))) (sym (nat_cmp_is (length x) (length y) Equal long)) ∙ is_eq-slice_cmp x y
  | inr other ↦ same_then (nat_cmp (length x) (length y)) (slice_cmp nat_cmp x y) (is_eq-slice_cmp x y ∙ other) ∙ sym other
]

-- what a map has for each string after it was updated at one
pub offset_updated : (x y : List ℕ) (by_text more : OffsetsByText) (text_offset : ℕ)
    → offset_for more y ≡ cond (is_eq (ordering_then (nat_cmp (length x) (length y)) (slice_cmp nat_cmp x y))) (Some text_offset) (offset_for by_text y)
    → offset_for more y ≡ update bytes_eq (offset_for by_text) x (Some text_offset) y
offset_updated x y by_text more text_offset e = e ∙ ap (λ (b : Bool). cond b (Some text_offset) (offset_for by_text y)) (same_key x y)

-- what is known of a string that isn't among the strings of a table, or is
module _ (ks : List (List ℕ)) (bytes : List ℕ) (by_text : OffsetsByText) (t : IsTableOf ks bytes by_text) (x : List ℕ) where
  there : (text_offset : ℕ) → offset_for by_text x ≡ Some text_offset → Has ks x × (text_offset ≡ offset_within ks x)
  there text_offset e = elim (Has_cases ks x) [
    | inl h ↦ let is = t.there x (Contains-from_Has ks x h) in (h, cc)
    | inr n ↦ let is = t.absent x (λ c. n (Has-from_Contains ks x c)) in absurd cc
  ]

  gone : offset_for by_text x ≡ None → ¬ Has ks x
  gone e h = let is = t.there x (Contains-from_Has ks x h) in cc

-- one string more
module _ (ks : List (List ℕ)) (bytes new : List ℕ) (by_text more : OffsetsByText) (x : List ℕ) (text_offset : ℕ) (t : IsTableOf ks bytes by_text) (none : ¬ Has ks x) (text_offset_is : text_offset ≡ length bytes) (new_is : new ≡ (bytes ++ x) ++ 0 ∷ [])
    (put : (y : List ℕ) → offset_for more y ≡ update bytes_eq (offset_for by_text) x (Some text_offset) y) where
  last_offset : text_offset ≡ offset_within (ks ++ x ∷ []) x
  last_offset = text_offset_is ∙ ap (λ (b : List ℕ). length b) t.bytes_are ∙ sym (offset_last ks x none)

  put_here : (y : List ℕ) → x ≡ y → offset_for more y ≡ Some text_offset
  put_here y e = put y ∙ cond-true (bytes_eq x y) (Some text_offset) (offset_for by_text y) (subst (λ (z : List ℕ). bytes_eq x z ≡ true) e (bytes_eq-same x))

  put_there : (y : List ℕ) → x ≢ y → offset_for more y ≡ offset_for by_text y
  put_there y n = put y ∙ cond-false (bytes_eq x y) (Some text_offset) (offset_for by_text y) (false_from_ne_true (bytes_eq x y) (λ s. n (same_text x y s)))

  table_pushed : IsTableOf (ks ++ x ∷ []) new more
  table_pushed = record {
    bytes_are = new_is ∙ table_more bytes [] ks x t.bytes_are;
    there = λ y c. elim (has_push ks x y (Has-from_Contains (ks ++ x ∷ []) y c)) [
      | inl h ↦ put_there y (λ e. none (subst (Has ks) (sym e) h)) ∙ t.there y (Contains-from_Has ks y h) ∙ ap Some (sym (offset_stays ks x y h))
      | inr e ↦ put_here y e ∙ ap Some (last_offset ∙ ap (offset_within (ks ++ x ∷ [])) e)
    ];
    absent = λ y n.
        put_there y (λ e. n (Contains-from_Has (ks ++ x ∷ []) y (Has-back ks (x ∷ []) y (inl e))))
        ∙ t.absent y (λ c. n (Contains-from_Has (ks ++ x ∷ []) y (Has-front ks (x ∷ []) y (Has-from_Contains ks y c))));
  }

-- the table of the names so far, and of one more: it is empty, or there already, or new
module _ (xs : List (List ℕ)) (bytes : List ℕ) (by_text : OffsetsByText) (x : List ℕ) (limit : ℕ) (t : IsTableOf (kept xs) bytes by_text) (within : length bytes ≤ limit) where
  new_kept : 0 < length x → offset_for by_text x ≡ None → kept (xs ++ x ∷ []) ≡ kept xs ++ x ∷ []
  new_kept some absent = kept_new xs x (not_empty x some) (gone (kept xs) bytes by_text t x absent)

  pub adds_empty : length x ≡ 0 → HasOffset (xs ++ x ∷ []) bytes by_text x limit 0
  adds_empty z =
      let e : x ≡ [] = nil_from_length x z in
      record {
        table = subst (λ (y : List ℕ). IsTableOf (kept (xs ++ y ∷ [])) bytes by_text) (sym e) (subst (λ ks. IsTableOf ks bytes by_text) (sym (kept_empty xs)) t);
        within = within;
        text_offset_is = ap (distinct_offset (xs ++ x ∷ [])) (sym e);
      }

  pub adds_known : (text_offset : ℕ) → 0 < length x → offset_for by_text x ≡ Some text_offset → HasOffset (xs ++ x ∷ []) bytes by_text x limit text_offset
  adds_known text_offset some found =
      let has = there (kept xs) bytes by_text t x text_offset found in
      let same = kept_known xs x has.0 in
      record {
        table = subst (λ ks. IsTableOf ks bytes by_text) (sym same) t;
        within = within;
        text_offset_is = has.1 ∙ ap (λ ks. offset_within ks x) (sym same) ∙ sym (offset_some (xs ++ x ∷ []) x some);
      }

  pub adds_none : 0 < length x → offset_for by_text x ≡ None → limit - length bytes ≤ length x → limit < length (distinct_table (xs ++ x ∷ []))
  adds_none some absent full =
      omega (arith, full, within, ap (λ (b : List ℕ). length b) t.bytes_are, length-table_push (kept xs) x, ap (λ ks. length (table_of ks)) (new_kept some absent))

  pub adds_new : (new : List ℕ) (more : OffsetsByText) (text_offset : ℕ) → 0 < length x → offset_for by_text x ≡ None → length x < limit - length bytes → text_offset ≡ length bytes → new ≡ (bytes ++ x) ++ 0 ∷ []
      → ((y : List ℕ) → offset_for more y ≡ update bytes_eq (offset_for by_text) x (Some text_offset) y) → HasOffset (xs ++ x ∷ []) new more x limit text_offset
  adds_new new more text_offset some absent room text_offset_is new_is put =
      let none = gone (kept xs) bytes by_text t x absent in
      let same = new_kept some absent in
      let pushed = table_pushed (kept xs) bytes new by_text more x text_offset t none text_offset_is new_is put in
      record {
        table = subst (λ ks. IsTableOf ks new more) (sym same) pushed;
        within = omega (arith, room, within, ap (λ (b : List ℕ). length b) pushed.bytes_are, ap (λ (b : List ℕ). length b) t.bytes_are, length-table_push (kept xs) x);
        text_offset_is = last_offset (kept xs) bytes new by_text more x text_offset t none text_offset_is new_is put ∙ ap (λ ks. offset_within ks x) (sym same) ∙ sym (offset_some (xs ++ x ∷ []) x some);
      }

-- the names of a list stay in longer lists
kept_grows : (xs ys : List (List ℕ)) → (rest : List (List ℕ)) × (kept (xs ++ ys) ≡ kept xs ++ rest)
kept_grows xs [] = ([], ap kept (append-nil xs) ∙ sym (append-nil (kept xs)))
kept_grows xs (y ∷ ys) =
    let more = kept_grows (xs ++ y ∷ []) ys in
    let all : kept (xs ++ y ∷ ys) ≡ kept (xs ++ y ∷ []) ++ more.0 = ap kept (sym (append_assoc xs (y ∷ []) ys)) ∙ more.1 in
    elim (kept_cases xs y) [
      | inl same ↦ (more.0, all ∙ ap (λ ks. ks ++ more.0) same)
      | inr new ↦ (y ∷ more.0, all ∙ ap (λ ks. ks ++ more.0) new ∙ append_assoc (kept xs) (y ∷ []) more.0)
    ]

table_grows : (xs ys : List (List ℕ)) → length (distinct_table xs) ≤ length (distinct_table (xs ++ ys))
table_grows xs ys =
    let more = kept_grows xs ys in
    omega (arith, ap (λ ks. length (table_of ks)) more.1, ap (λ (t : List ℕ). length t) (flat_map-append with_nul (kept xs) more.0), length-append (flat_map with_nul (kept xs)) (flat_map with_nul more.0))

offset_stays_in : (xs ys : List (List ℕ)) (x : List ℕ) → Has xs x → distinct_offset (xs ++ ys) x ≡ distinct_offset xs x
offset_stays_in xs ys [] h = refl
offset_stays_in xs ys (b ∷ x) h =
    let more = kept_grows xs ys in
    ap (λ ks. offset_within ks (b ∷ x)) more.1 ∙ offset_stays_all more.0 (kept xs) (b ∷ x) (Has-kept xs b x h)

-- the offsets of the first k names are stored, and the table is that of these names
pub record PlacedTo (section : List ℕ) (used : Used) (bytes text_offsets : List ℕ) (by_text : OffsetsByText) (limit k : ℕ) : Type 0 where
  pub table : IsTableOf (kept (map (text_from section) (take k used.offsets))) bytes by_text
  pub within : length bytes ≤ limit
  pub whole : length text_offsets ≡ used_count used
  pub each : (j : ℕ) → j < k → get_or text_offsets (number_of used (get_or used.offsets j 0)) 0 ≡ distinct_offset (map (text_from section) used.offsets) (text_from section (get_or used.offsets j 0))

module _ (section : List ℕ) (used : Used) (marked : AreMarked used.offsets used.slots) (limit : ℕ) where
  abbrev names : List (List ℕ)
  names = map (text_from section) used.offsets

  abbrev taken : ℕ → List (List ℕ)
  taken k = map (text_from section) (take k used.offsets)

  abbrev own : ℕ → List ℕ
  own k = text_from section (get_or used.offsets k 0)

  is_used : (k : ℕ) → k < length used.offsets → get_or used.slots (get_or used.offsets k 0) 0 ≢ 0
  is_used k inside = marked.marked (get_or used.offsets k 0) (k, inside, get_or_default used.offsets k (get_or used.offsets k 0) 0 inside)

  split : (k : ℕ) → k < length used.offsets → names ≡ (taken k ++ own k ∷ []) ++ map (text_from section) (drop (k + 1) used.offsets)
  split k inside =
      ap (map (text_from section)) (sym (take-append-drop (k + 1) used.offsets))
      ∙ map-append (text_from section) (take (k + 1) used.offsets) (drop (k + 1) used.offsets)
      ∙ ap (λ xs. xs ++ map (text_from section) (drop (k + 1) used.offsets)) (map_more (text_from section) used.offsets k 0 inside)

  -- the offset of a name that was added last is its offset in the table of all names
  place_here : (k text_offset : ℕ) → k < length used.offsets → text_offset ≡ distinct_offset (taken k ++ own k ∷ []) (own k) → text_offset ≡ distinct_offset names (own k)
  place_here k text_offset inside is =
      is ∙ sym (offset_stays_in (taken k ++ own k ∷ []) (map (text_from section) (drop (k + 1) used.offsets)) (own k) (Has-back (taken k) (own k ∷ []) (own k) (inl refl)))
      ∙ ap (λ xs. distinct_offset xs (own k)) (sym (split k inside))

  offsets_one : (bytes text_offsets new : List ℕ) (by_text more : OffsetsByText) (k text_offset : ℕ) → PlacedTo section used bytes text_offsets by_text limit k → k < length used.offsets
      → HasOffset (taken k ++ own k ∷ []) new more (own k) limit text_offset → PlacedTo section used new (set text_offsets (number_of used (get_or used.offsets k 0)) text_offset) more limit (k + 1)
  offsets_one bytes text_offsets new by_text more k text_offset to inside has =
      let n = number_of used (get_or used.offsets k 0) in
      record {
        table = subst (λ xs. IsTableOf (kept xs) new more) (sym (map_more (text_from section) used.offsets k 0 inside)) has.table;
        within = has.within;
        whole = length-set text_offsets n text_offset ∙ to.whole;
        each = λ j low. elim (cases_eq (number_of used (get_or used.offsets j 0)) n) [
          | inl same ↦
              let off : get_or used.offsets j 0 ≡ get_or used.offsets k 0 = number_injective used.slots (get_or used.offsets j 0) (get_or used.offsets k 0) (is_used j (omega (arith, low, inside))) (is_used k inside) same in
              ap (λ (m : ℕ). get_or (set text_offsets n text_offset) m 0) same
              ∙ get_or-set_same text_offsets n text_offset 0 (omega (arith, to.whole, number_inside used.slots (get_or used.offsets k 0) (is_used k inside)))
              ∙ place_here k text_offset inside has.text_offset_is ∙ ap (λ (o : ℕ). distinct_offset names (text_from section o)) (sym off)
          | inr other ↦
              let before : j ≢ k = λ e. other (ap (λ (m : ℕ). number_of used (get_or used.offsets m 0)) e) in
              get_or-set_other text_offsets n (number_of used (get_or used.offsets j 0)) text_offset 0 other ∙ to.each j (omega (arith, low, before))
        ];
      }

  offsets_past : (k : ℕ) → k < length used.offsets → limit < length (distinct_table (taken k ++ own k ∷ [])) → limit < length (distinct_table names)
  offsets_past k inside past = omega (arith, past, table_grows (taken k ++ own k ∷ []) (map (text_from section) (drop (k + 1) used.offsets)), ap (λ xs. length (distinct_table xs)) (split k inside))

  -- one name more, by what was found of it
  pub name_step : (bytes text_offsets new : List ℕ) (by_text more : OffsetsByText) (k n : ℕ) (x : List ℕ) (found : Option ℕ) → PlacedTo section used bytes text_offsets by_text limit k → k < length used.offsets → x ≡ own k → n ≡ number_of used (get_or used.offsets k 0)
      → AddsName bytes by_text new more x limit found
      → MatchOption found (limit < length (distinct_table names)) (λ text_offset. PlacedTo section used new (set text_offsets n text_offset) more limit (k + 1))
  name_step bytes text_offsets new by_text more k n x None to inside x_is n_is adds =
      offsets_past k inside (subst (λ (y : List ℕ). limit < length (distinct_table (taken k ++ y ∷ []))) x_is (adds (taken k) to.table))
  name_step bytes text_offsets new by_text more k n x (Some text_offset) to inside x_is n_is adds =
      subst (λ (m : ℕ). PlacedTo section used new (set text_offsets m text_offset) more limit (k + 1)) (sym n_is)
      (offsets_one bytes text_offsets new by_text more k text_offset to inside (subst (λ (y : List ℕ). HasOffset (taken k ++ y ∷ []) new more y limit text_offset) x_is (adds (taken k) to.table)))

  pub placed_all : (bytes text_offsets : List ℕ) (by_text : OffsetsByText) (k : ℕ) → limit < 2 ^ 32 → PlacedTo section used bytes text_offsets by_text limit k → length used.offsets ≤ k → AreDistinct section used text_offsets bytes
  placed_all bytes text_offsets by_text k low to past = record {
    marked = marked.marked;
    numbers = to.whole;
    text_offset = λ off c.
        let is : get_or used.offsets c.0 0 ≡ off = get_or_default used.offsets c.0 0 off c.1 ∙ c.2 in
        subst (λ (o : ℕ). get_or text_offsets (number_of used o) 0 ≡ distinct_offset names (text_from section o)) is (to.each c.0 (omega (arith, past, c.1)));
    bytes_are = to.table.bytes_are ∙ ap (λ (offs : List ℕ). distinct_table (map (text_from section) offs)) (take_all k used.offsets past);
    fits = omega (arith, low, to.within);
  }

-- what is read of the offset at an index, and of its string
module _ (section : List ℕ) (used : Used) (marked : AreMarked used.offsets used.slots) (whole : length used.slots ≡ length section) (offsets : List ℕ) (same : offsets ≡ used.offsets) (k : ℕ) (inside : k < length offsets) where
  off_same : get_or offsets k 0 ≡ get_or used.offsets k 0
  off_same = ap (λ (l : List ℕ). get_or l k 0) same

  pub index_inside : k < length used.offsets
  index_inside = omega (arith, inside, ap (λ (l : List ℕ). length l) same)

  pub off_inside : get_or offsets k 0 < length section
  off_inside = omega (arith, off_same, whole, used_inside used.slots (get_or used.offsets k 0) (is_used section used marked 0 k index_inside))

  pub text_is : (x : List ℕ) → HasNulEnds section → TextAt section (get_or offsets k 0) x → x ≡ text_from section (get_or used.offsets k 0)
  text_is x ends at =
      TextAt-unique section (get_or offsets k 0) x (text_from section (get_or offsets k 0)) at (text_there section (get_or offsets k 0) ends off_inside)
      ∙ ap (text_from section) off_same
