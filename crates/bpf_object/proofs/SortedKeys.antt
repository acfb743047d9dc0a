-- Keys that were sorted: they are in the order of their groups, and records whose keys have all their parts are in order.
use Rattle.std.proofs.Common.{◌≡◌, ◌≢◌, ℕ, ◌+◌, ◌<◌, ◌≤◌, true, false, List, [], ◌∷◌, ◌++◌, length, get_or, map, take, inl, inr, refl, sym, ap, subst, ◌∙◌, arith}
use Rattle.std.proofs.Math.ListN.{set}
use Rattle.std.specs.Prelude.{nat_eq, slice_index}
use Rattle.std.specs.{List.All, List.IsDistinct, List.range_with_len}
use Rattle.std.specs.List.Sorted.{IsPermutation, IsNonDecreasingBy, IsSorted}
use Rattle.std.specs.Ordering.{nat_cmp, ordering_then, ordering_reverse, is_lt}
use Rattle.std.specs.declared.cmp.Ordering.{Ordering, TheVariants.Less, TheVariants.Equal, TheVariants.Greater}
use Rattle.std.proofs.lemmas.Bool.{cases_lt, ne_eqb, false≢true}
use Rattle.std.proofs.lemmas.Cmp.{ranked, nat_eq_equiv}
use Rattle.std.proofs.lemmas.List.{get_or-map, get_or_default, length-map, map-append, map-set, set-get_or, take_all, take_more_set}
use Rattle.std.proofs.lemmas.List.Elements.{All-push, All-weaker}
use Rattle.std.proofs.lemmas.List.FromFn.{length-range_with_len, get_or-range_with_len}
use Rattle.std.proofs.lemmas.List.Sorted.{IsPermutation-map, All-permutation, IsNonDecreasingBy-from_all_adjacent}
use Rattle.std.proofs.lemmas.Map.Keys.{IsDistinct-IsPermutation, IsDistinct-from_apart, apart_from_distinct}
use Rattle.bpf_elf.specs.Names.{is_closed}
use Rattle.btf_types.specs.Sections.{SectionWords}
use Rattle.bpf_object.specs.declared.type_keys.RecordKey.{RecordKey}
use Rattle.bpf_object.specs.TypeOrder.{group, compare_types}
use Rattle.bpf_object.specs.private.NameRanks.{RankedNames}
use Rattle.bpf_object.specs.private.TypeSteps.{ids_in, AreInRange, HaveGroups, AreApart, AreInOrder, AreGrouped, IsKey}
use Rattle.bpf_object.proofs.KeyLemmas.{key_cmp, keys_compare}
use Rattle.bpf_object.proofs.OrderLayers.{compare_total, less}
use Rattle.bpf_object.proofs.Places.{all_more}

-- ---- numbers that are there once

apart_eqb : (xs : List ℕ) → IsDistinct nat_eq xs → AreApart xs
apart_eqb xs are i j lt there e = absurd (false≢true (sym (apart_from_distinct nat_eq xs i j 0 are lt there) ∙ same))
  where
    same : nat_eq (get_or xs i 0) (get_or xs j 0) ≡ true
    same = ap (nat_eq (get_or xs i 0)) (sym e) ∙ nat_eq_equiv.refl (get_or xs i 0)

distinct_eqb : (xs : List ℕ) → AreApart xs → IsDistinct nat_eq xs
distinct_eqb xs are = IsDistinct-from_apart nat_eq xs (λ i j d lt there. ne_eqb (get_or xs i d) (get_or xs j d) (λ e.
    are i j lt there (get_or_default xs i 0 d (omega (arith, lt, there)) ∙ e ∙ get_or_default xs j d 0 there)))

-- when they have changed places
pub apart_moved : (xs ys : List ℕ) → IsPermutation xs ys → AreApart xs → AreApart ys
apart_moved xs ys moved are = apart_eqb ys (IsDistinct-IsPermutation nat_eq nat_eq_equiv.symm xs ys moved (distinct_eqb xs are))

pub range_apart : (n : ℕ) → AreApart (range_with_len 1 n)
range_apart n i j lt there e =
    let size = length-range_with_len 1 n in
    omega (arith, e, lt, get_or-range_with_len 1 n i 0 (omega (arith, lt, there, size)), get_or-range_with_len 1 n j 0 (omega (arith, there, size)))

-- ---- keys that were sorted

abbrev pub none : RecordKey
none = record { group = 0; name = 0; flag = 0; target = 0; id = 0 }

pub id_at : (keys : List RecordKey) (k : ℕ) (d : RecordKey) → k < length keys → slice_index (ids_in keys) k ≡ (get_or keys k d).id
id_at keys k d lt = get_or-map (λ (key : RecordKey). key.id) keys k d 0 lt

not_less : (a b : RecordKey) → is_lt (key_cmp b a) ≡ false → a.group ≤ b.group
not_less a b above = elim (cases_lt b.group a.group) [
  | inr le ↦ le
  | inl lt ↦
      let first = less b.group a.group lt in
      let is : key_cmp b a ≡ Less = rw first refl in
      absurd (false≢true (sym above ∙ ap is_lt is))
]

pub rise_sorted : (s : SectionWords) (keys : List RecordKey) → HaveGroups s keys → IsSorted key_cmp keys → IsNonDecreasingBy (group s) (ids_in keys)
rise_sorted s keys groups sorted =
    IsNonDecreasingBy-from_all_adjacent (group s) (ids_in keys) (λ k d lt.
    let size = length-map keys (λ (key : RecordKey). key.id) in
    let here : k < length keys = omega (arith, lt, size) in
    let there : k + 1 < length keys = omega (arith, lt, size) in
    let first = get_or-map (λ (key : RecordKey). key.id) keys k none d here in
    let second = get_or-map (λ (key : RecordKey). key.id) keys (k + 1) none d there in
    let le = not_less (get_or keys k none) (get_or keys (k + 1) none) (sorted k none (omega arith) there) in
    omega (arith, le, ap (group s) first, ap (group s) second, groups k none here, groups (k + 1) none there))

then_last : (o p : Ordering) → ordering_then o p ≡ Equal → p ≡ Equal
then_last Less p e = absurd cc
then_last Equal p e = e
then_last Greater p e = absurd cc

tied_ids : (s : SectionWords) (new : ℕ → ℕ) (a b : ℕ) → compare_types s new b a ≡ Equal → b ≡ a
tied_ids s new a b e = ranked b a Equal (sym (then_last _ (nat_cmp b a) e))

precede : (s : SectionWords) (new : ℕ → ℕ) (a b : ℕ) → a ≢ b → is_lt (compare_types s new b a) ≡ false → compare_types s new a b ≡ Less
precede s new a b apart above = by (compare_types s new b a) refl
  where
    by : (o : Ordering) → o ≡ compare_types s new b a → compare_types s new a b ≡ Less
    by Less e = absurd (false≢true (sym above ∙ ap is_lt (sym e)))
    by Equal e = absurd (apart (sym (tied_ids s new a b (sym e))))
    by Greater e = (compare_total s new).antisymm a b ∙ ap ordering_reverse (sym e)

pub order_sorted : (s : SectionWords) (names : RankedNames) (new : ℕ → ℕ) (keys : List RecordKey) → is_closed s.strings ≡ true → names.strings ≡ s.strings
    → All (IsKey s names new) keys → IsSorted key_cmp keys → AreApart (ids_in keys) → AreInOrder s new (ids_in keys)
order_sorted s names new keys closed strings are sorted apart k lt =
    let size = length-map keys (λ (key : RecordKey). key.id) in
    let here : k < length keys = omega (arith, lt, size) in
    let there : k + 1 < length keys = omega (arith, lt, size) in
    let a = get_or keys k none in
    let b = get_or keys (k + 1) none in
    let first = id_at keys k none here in
    let second = id_at keys (k + 1) none there in
    let other : a.id ≢ b.id = λ e. apart k (k + 1) (omega arith) lt (first ∙ e ∙ sym second) in
    let above : is_lt (compare_types s new b.id a.id) ≡ false =
    ap is_lt (keys_compare s names new closed strings b a (are (k + 1) none there) (are k none here)) ∙ sorted k none (omega arith) there in
    ap (λ (i : ℕ). compare_types s new i (slice_index (ids_in keys) (k + 1))) first ∙ ap (compare_types s new a.id) second ∙ precede s new a.id b.id other above

-- ---- the keys of a group

pub key_range : (n : ℕ) (old keys : List RecordKey) (k : ℕ) (d : RecordKey) → AreInRange n (ids_in old) → ids_in keys ≡ ids_in old → k < length keys
    → (0 < (get_or keys k d).id) × ((get_or keys k d).id ≤ n)
key_range n old keys k d range ids lt =
    let at = sym (ap (λ (l : List ℕ). slice_index l k) ids) ∙ id_at keys k d lt in
    let size : length (ids_in old) ≡ length keys = sym (ap length ids) ∙ length-map keys (λ (key : RecordKey). key.id) in
    let is = range k 0 (omega (arith, lt, size)) in
    (omega (arith, at, is.0), omega (arith, at, is.1))

-- one more key is made
pub ids_stay : (keys : List RecordKey) (i : ℕ) (made d : RecordKey) → i < length keys → made.id ≡ (get_or keys i d).id → ids_in (set keys i made) ≡ ids_in keys
ids_stay keys i made d lt same =
    map-set (λ (key : RecordKey). key.id) keys i made ∙ ap (set (ids_in keys) i) (same ∙ sym (id_at keys i d lt)) ∙ set-get_or (ids_in keys) i 0

pub keys_more : (P : RecordKey → Type 0) (keys : List RecordKey) (i : ℕ) (made : RecordKey) → i < length keys → All P (take i keys) → P made → All P (take (i + 1) (set keys i made))
keys_more P keys i made lt before one = let at = take_more_set keys i made lt in rw at (All-push P (take i keys) made before one)

pub group_sorted : (s : SectionWords) (names : RankedNames) (new : ℕ → ℕ) (old made keys : List RecordKey) → is_closed s.strings ≡ true → names.strings ≡ s.strings
    → ids_in made ≡ ids_in old → All (IsKey s names new) (take (length made) made) → IsPermutation made keys → IsSorted key_cmp keys → AreApart (ids_in old)
    → IsPermutation (ids_in old) (ids_in keys) × HaveGroups s keys × AreInOrder s new (ids_in keys)
group_sorted s names new old made keys closed strings ids are moved sorted apart =
    let whole = take_all (length made) made (omega arith) in
    let all : All (IsKey s names new) made = subst (All (IsKey s names new)) whole are in
    let after = All-permutation (IsKey s names new) made keys moved all in
    let ids_moved = subst (λ (l : List ℕ). IsPermutation l (ids_in keys)) ids (IsPermutation-map (λ (key : RecordKey). key.id) made keys moved) in
    let groups = All-weaker (IsKey s names new) (λ (key : RecordKey). key.group ≡ group s key.id) (λ key is. is.group) keys after in
    (ids_moved, groups, order_sorted s names new keys closed strings after sorted (apart_moved (ids_in old) (ids_in keys) ids_moved apart))

-- ---- all keys

-- one more key
pub key_pushed : (s : SectionWords) (k : ℕ) (keys more : List RecordKey) (key : RecordKey) → more ≡ keys ++ key ∷ [] → ids_in keys ≡ range_with_len 1 k → HaveGroups s keys → key.id ≡ k + 1
    → key.group ≡ group s key.id → (ids_in more ≡ range_with_len 1 (k + 1)) × HaveGroups s more
key_pushed s k keys more key is ids groups last groups_last =
    let id : RecordKey → ℕ = λ key. key.id in (
      ap ids_in is ∙ map-append id keys (key ∷ []) ∙ ap (λ (l : List ℕ). l ++ key.id ∷ []) ids ∙ ap (λ (i : ℕ). range_with_len 1 k ++ i ∷ []) last ∙ sym (all_more k),
      subst (HaveGroups s) (sym is) (All-push (λ (key : RecordKey). key.group ≡ group s key.id) keys key groups groups_last),
    )

pub grouped_sorted : (s : SectionWords) (made keys : List RecordKey) → ids_in made ≡ range_with_len 1 (length s.frames) → HaveGroups s made → IsPermutation made keys
    → IsSorted key_cmp keys → HaveGroups s keys × AreGrouped s (ids_in keys)
grouped_sorted s made keys ids groups moved sorted =
    let after = All-permutation (λ (key : RecordKey). key.group ≡ group s key.id) made keys moved groups in
    let all : IsPermutation (range_with_len 1 (length s.frames)) (ids_in keys) = rw (← ids) (IsPermutation-map (λ (key : RecordKey). key.id) made keys moved) in
    (after, record { all = all; rise = rise_sorted s keys after sorted })
