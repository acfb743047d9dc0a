-- One more group is sorted and numbered: the groups up to its end are in their order.
use Rattle.std.proofs.Common.{◌≡◌, ◌≢◌, ◌⊎◌, ℕ, ◌+◌, ◌-◌, ◌<◌, ◌≤◌, suc, List, ◌∷◌, ◌++◌, length, get_or, map, take, drop, inl, inr, refl, sym, ap, subst, ◌∙◌, arith, length-append}
use Rattle.std.specs.Prelude.{replicate, slice_index, slice_index_or}
use Rattle.std.specs.{List.All, List.range_with_len}
use Rattle.std.specs.List.Sorted.{IsPermutation, IsNonDecreasingBy}
use Rattle.std.specs.declared.cmp.Ordering.{TheVariants.Less}
use Rattle.std.proofs.lemmas.Bool.{cases_eq, cases_lt}
use Rattle.std.proofs.lemmas.List.{length-take, length-drop, get_or-take, get_or-drop, get_or_append_left, get_or-append_right, get_or_default, get_or_past, map-append, take-map, drop-map, length-map, length-replicate, get_or-replicate}
use Rattle.std.proofs.lemmas.List.Elements.{All-append, All-take, All-drop}
use Rattle.std.proofs.lemmas.List.Sorted.{length_permutation, All-permutation, IsPermutation-put_mid, IsPermutation-trans, IsNonDecreasingBy-from_default}
use borrow.Rule.Slice.PartMut.{mid_of, put_mid}
use Rattle.btf_types.specs.Sections.{SectionWords}
use Rattle.bpf_object.specs.declared.type_keys.RecordKey.{RecordKey}
use Rattle.bpf_object.specs.TypeOrder.{group, compare_types}
use Rattle.bpf_object.specs.private.TypeSteps.{ids_in, numbered, AreInRange, HaveGroups, AreApart, AreInOrder, AreGrouped, AreSortedTo, AreNumbered, IsPlaced}
use Rattle.bpf_object.proofs.Places.{ids_length, ids_in_range}
use Rattle.bpf_object.proofs.OrderLayers.{Earlier, depends, lower_first}
use Rattle.bpf_object.proofs.OrderFound.{order_found}
use Rattle.bpf_object.proofs.SortedKeys.{none, id_at, range_apart, apart_moved}

-- ---- a part that is written

module _ {X : Type 0} (a w : ℕ) (xs ys : List X) (le : a + w ≤ length xs) (size : length ys ≡ w) where
  front : length (take a xs) ≡ a
  front = omega (arith, le, length-take a xs)

  pub below : (j : ℕ) (d : X) → j < a → get_or (put_mid a w xs ys) j d ≡ get_or xs j d
  below j d lt = get_or_append_left (take a xs) (ys ++ drop w (drop a xs)) d j (omega (arith, lt, front)) ∙ get_or-take a xs j d lt

  pub inside : (j : ℕ) (d : X) → a ≤ j → j < a + w → get_or (put_mid a w xs ys) j d ≡ get_or ys (j - a) d
  inside j d from lt =
      get_or-append_right (take a xs) (ys ++ drop w (drop a xs)) a j d front from
      ∙ get_or_append_left ys (drop w (drop a xs)) d (j - a) (omega (arith, from, lt, size))

  pub beyond : (j : ℕ) (d : X) → a + w ≤ j → get_or (put_mid a w xs ys) j d ≡ get_or xs j d
  beyond j d from =
      let at : a + (w + (j - a - w)) ≡ j = omega (arith, from) in
      get_or-append_right (take a xs) (ys ++ drop w (drop a xs)) a j d front (omega (arith, from))
      ∙ get_or-append_right ys (drop w (drop a xs)) w (j - a) d size (omega (arith, from))
      ∙ get_or-drop w (drop a xs) (j - a - w) d ∙ get_or-drop a xs (w + (j - a - w)) d ∙ ap (λ (i : ℕ). get_or xs i d) at

pub mid_length : {X : Type 0} (a w : ℕ) (xs : List X) → a + w ≤ length xs → length (mid_of a w xs) ≡ w
mid_length a w xs le = omega (arith, le, length-take w (drop a xs), length-drop a xs)

pub mid_at : {X : Type 0} (a w : ℕ) (xs : List X) (k : ℕ) (d : X) → k < w → get_or (mid_of a w xs) k d ≡ get_or xs (a + k) d
mid_at a w xs k d lt = get_or-take w (drop a xs) k d lt ∙ get_or-drop a xs k d

pub map_mid : {X Y : Type 0} (f : X → Y) (a w : ℕ) (xs : List X) → map f (mid_of a w xs) ≡ mid_of a w (map f xs)
map_mid f a w xs = sym (take-map f w (drop a xs)) ∙ ap (take w) (sym (drop-map f a xs))

pub map_put_mid : {X Y : Type 0} (f : X → Y) (a w : ℕ) (xs ys : List X) → map f (put_mid a w xs ys) ≡ put_mid a w (map f xs) (map f ys)
map_put_mid {Y = Y} f a w xs ys =
    let past : map f (drop w (drop a xs)) ≡ drop w (drop a (map f xs)) = sym (drop-map f w (drop a xs)) ∙ ap (drop w) (sym (drop-map f a xs)) in
    map-append f (take a xs) (ys ++ drop w (drop a xs)) ∙ ap (λ (l : List Y). l ++ map f (ys ++ drop w (drop a xs))) (sym (take-map f a xs))
    ∙ ap (λ (l : List Y). take a (map f xs) ++ l) (map-append f ys (drop w (drop a xs)) ∙ ap (λ (l : List Y). map f ys ++ l) past)

-- ---- one more group

module _ (s : SectionWords) (ids part numbers next : List ℕ) (start w : ℕ) (was : AreSortedTo s ids numbers start) (some : 0 < w) (le : start + w ≤ length ids)
    (same : (k : ℕ) → start ≤ k → k < start + w → group s (slice_index ids k) ≡ group s (slice_index ids start))
    (ends : start + w < length ids → group s (slice_index ids (start + w)) ≢ group s (slice_index ids start)) (moved : IsPermutation (mid_of start w ids) part)
    (order : AreInOrder s (numbered numbers) part) (whole : length next ≡ length numbers)
    (placed : (k : ℕ) → k < length part → slice_index next (slice_index part k) ≡ start + k + 1)
    (kept : (id d : ℕ) → ((k : ℕ) → k < length part → slice_index part k ≢ id) → slice_index_or next id d ≡ slice_index_or numbers id d) where
  abbrev n : ℕ
  n = length s.frames

  abbrev g : ℕ
  g = group s (slice_index ids start)

  abbrev after : List ℕ
  after = put_mid start w ids part

  part_size : length part ≡ w
  part_size = length_permutation (mid_of start w ids) part moved ∙ mid_length start w ids le

  all_after : IsPermutation (range_with_len 1 n) after
  all_after = IsPermutation-trans (range_with_len 1 n) ids after was.grouped.all (IsPermutation-put_mid start w ids part moved)

  after_size : length after ≡ length ids
  after_size = ids_length n after all_after ∙ sym (ids_length n ids was.grouped.all)

  -- the records of the group
  abbrev IsOfGroup : ℕ → Type 0
  IsOfGroup id = (group s id ≡ g) × (0 < id) × (id ≤ n)

  mid_group : All IsOfGroup (mid_of start w ids)
  mid_group k d lt =
      let inner : k < w = omega (arith, lt, mid_length start w ids le) in
      let at : get_or (mid_of start w ids) k d ≡ slice_index ids (start + k) = mid_at start w ids k d inner ∙ get_or_default ids (start + k) d 0 (omega (arith, inner, le)) in
      let range = ids_in_range n ids was.grouped.all (start + k) 0 (omega (arith, inner, le)) in
      rw at (same (start + k) (omega arith) (omega (arith, inner)), range.0, range.1)

  part_group : All IsOfGroup part
  part_group = All-permutation IsOfGroup (mid_of start w ids) part moved mid_group

  -- the groups at all places stay
  group_stays : (j : ℕ) → group s (slice_index after j) ≡ group s (slice_index ids j)
  group_stays j = elim (cases_lt j start) [
    | inl lt ↦ ap (group s) (below start w ids part le part_size j 0 lt)
    | inr from ↦ elim (cases_lt j (start + w)) [
      | inl lt ↦
          ap (group s) (inside start w ids part le part_size j 0 from lt) ∙ (part_group (j - start) 0 (omega (arith, from, lt, part_size))).0 ∙ sym (same j from lt)
      | inr past ↦ ap (group s) (beyond start w ids part le part_size j 0 past)
    ]
  ]

  rise_after : IsNonDecreasingBy (group s) after
  rise_after = IsNonDecreasingBy-from_default (group s) after 0 (λ i j up lt.
      omega (arith, group_stays i, group_stays j, was.grouped.rise i j 0 up (omega (arith, lt, after_size))))

  -- the group is lower than what follows it, and greater than what is before it
  below_next : (k : ℕ) → start + w ≤ k → k < length ids → g < group s (slice_index ids k)
  below_next k from lt =
      let other = ends (omega (arith, from, lt)) in
      let first = was.grouped.rise start (start + w) 0 (omega arith) (omega (arith, from, lt)) in
      let up = was.grouped.rise (start + w) k 0 from lt in
      omega (arith, other, first, up)

  above_last : (j : ℕ) → j < start → group s (slice_index ids j) < g
  above_last j lt = was.apart j start lt (omega arith) (omega (arith, some, le))

  at_most : (j : ℕ) → j < start + w → group s (slice_index after j) ≤ g
  at_most j lt = elim (cases_lt j start) [
    | inl before ↦ omega (arith, group_stays j, above_last j before)
    | inr from ↦ omega (arith, group_stays j, same j from lt)
  ]

  apart_after : (j k : ℕ) → j < start + w → start + w ≤ k → k < length after → group s (slice_index after j) < group s (slice_index after k)
  apart_after j k lt from there = omega (arith, at_most j lt, group_stays k, below_next k from (omega (arith, there, after_size)))

  -- types of other groups keep their numbers
  stays : (t d : ℕ) → ((t ≡ 0) ⊎ (n < t)) ⊎ (group s t < g) → slice_index_or next t d ≡ slice_index_or numbers t d
  stays t d (inl (inl none)) = kept t d (λ k lt e. let of = part_group k 0 lt in omega (arith, of.1, e, none))
  stays t d (inl (inr over)) = kept t d (λ k lt e. let of = part_group k 0 lt in omega (arith, of.2, e, over))
  stays t d (inr lower) = kept t d (λ k lt e. let of = part_group k 0 lt in let is : group s t ≡ g = ap (group s) (sym e) ∙ of.0 in omega (arith, is, lower))

  earlier_stays : (a t : ℕ) → group s a ≤ g → Earlier s t a → numbered next t ≡ numbered numbers t
  earlier_stays a t low (inl out) = stays t t (inl out)
  earlier_stays a t low (inr early) = let lower = early.2 in stays t t (inr (omega (arith, low, lower)))

  compare_stays : (a b : ℕ) → group s a ≤ g → group s b ≤ g → compare_types s (numbered next) a b ≡ compare_types s (numbered numbers) a b
  compare_stays a b first second =
      depends s (numbered next) (numbered numbers) a b (λ t e. earlier_stays a t first e) (λ t e. earlier_stays b t second e)

  -- one that is placed before
  placed_before : (k : ℕ) → k < start → IsPlaced s after next k
  placed_before k lt =
      let here = below start w ids part le part_size k 0 lt in
      let old = was.each k lt in
      record {
        place = ap (slice_index next) here ∙ stays (slice_index ids k) 0 (inr (above_last k lt)) ∙ old.place;
        follows = λ up.
            let prior = below start w ids part le part_size (k - 1) 0 (omega (arith, lt)) in
            compare_stays (slice_index after (k - 1)) (slice_index after k) (at_most (k - 1) (omega (arith, lt))) (at_most k (omega (arith, lt)))
            ∙ ap (λ (i : ℕ). compare_types s (numbered numbers) i (slice_index after k)) prior
            ∙ ap (compare_types s (numbered numbers) (slice_index ids (k - 1))) here ∙ old.follows up;
      }

  -- the first of the group follows those before, and each other the one before it
  follows_after : (k : ℕ) → start ≤ k → k < start + w → 0 < k → compare_types s (numbered next) (slice_index after (k - 1)) (slice_index after k) ≡ Less
  follows_after k from lt up = elim (cases_eq k start) [
    | inl first ↦
        lower_first s (numbered next) (slice_index after (k - 1)) (slice_index after k)
        (omega (arith, group_stays (k - 1), group_stays k, above_last (k - 1) (omega (arith, first, up)), same k from lt))
    | inr other ↦
        let here = inside start w ids part le part_size k 0 from lt in
        let prior = inside start w ids part le part_size (k - 1) 0 (omega (arith, from, other)) (omega (arith, lt)) in
        let at : k - 1 - start + 1 ≡ k - start = omega (arith, from, other) in
        compare_stays (slice_index after (k - 1)) (slice_index after k) (at_most (k - 1) (omega (arith, lt))) (at_most k lt)
        ∙ ap (λ (i : ℕ). compare_types s (numbered numbers) i (slice_index after k)) prior
        ∙ ap (compare_types s (numbered numbers) (slice_index part (k - 1 - start))) (here ∙ ap (slice_index part) (sym at))
        ∙ order (k - 1 - start) (omega (arith, at, lt, from, part_size))
  ]

  placed_after : (k : ℕ) → start ≤ k → k < start + w → IsPlaced s after next k
  placed_after k from lt = record {
    place =
        ap (slice_index next) (inside start w ids part le part_size k 0 from lt) ∙ placed (k - start) (omega (arith, from, lt, part_size)) ∙ omega (arith, from);
    follows = follows_after k from lt;
  }

  pub sorted_on : AreSortedTo s after next (start + w)
  sorted_on = record {
    grouped = record { all = all_after; rise = rise_after };
    apart = apart_after;
    whole = omega (arith, whole, was.whole, after_size);
    void = stays 0 0 (inl (inl refl)) ∙ was.void;
    each = λ k lt. elim (cases_lt k start) [ inl before ↦ placed_before k before | inr from ↦ placed_after k from lt ];
  }

-- ---- by keys

module _ (s : SectionWords) (keys part : List RecordKey) (start end : ℕ) (lt : start < end) (le : end ≤ length keys) where
  abbrev width : ℕ
  width = end - start

  size_of_ids : length (ids_in keys) ≡ length keys
  size_of_ids = length-map keys (λ (key : RecordKey). key.id)

  -- the records of a part
  pub part_ids : ids_in (mid_of start width keys) ≡ mid_of start width (ids_in keys)
  part_ids = map_mid (λ (key : RecordKey). key.id) start width keys

  pub part_range : AreGrouped s (ids_in keys) → AreInRange (length s.frames) (ids_in (mid_of start width keys))
  part_range grouped =
      rw part_ids (All-take (λ id. (0 < id) × (id ≤ length s.frames)) width (drop start (ids_in keys))
      (All-drop (λ id. (0 < id) × (id ≤ length s.frames)) start (ids_in keys) (ids_in_range (length s.frames) (ids_in keys) grouped.all)))

  pub part_apart : AreGrouped s (ids_in keys) → AreApart (ids_in (mid_of start width keys))
  part_apart grouped =
      let whole = apart_moved (range_with_len 1 (length s.frames)) (ids_in keys) grouped.all (range_apart (length s.frames)) in
      rw part_ids (λ i j up there.
      let fits : start + width ≤ length (ids_in keys) = omega (arith, lt, le, size_of_ids) in
      let inner : j < width = omega (arith, there, mid_length start width (ids_in keys) fits) in
      λ e. whole (start + i) (start + j) (omega (arith, up)) (omega (arith, inner, fits))
      (sym (mid_at start width (ids_in keys) i 0 (omega (arith, up, inner))) ∙ e ∙ mid_at start width (ids_in keys) j 0 inner))

  pub groups_after : HaveGroups s keys → HaveGroups s part → HaveGroups s (put_mid start width keys part)
  groups_after old new =
      let P : RecordKey → Type 0 = λ key. key.group ≡ group s key.id in
      All-append P (take start keys) (part ++ drop width (drop start keys)) (All-take P start keys old)
      (All-append P part (drop width (drop start keys)) new (All-drop P width (drop start keys) (All-drop P start keys old)))

  -- a part whose records have changed places
  module _ (grouped : AreGrouped s (ids_in keys)) (moved : IsPermutation (ids_in (mid_of start width keys)) (ids_in part)) where
    part_length : length part ≡ width
    part_length =
        let id : RecordKey → ℕ = λ key. key.id in
        sym (length-map part id) ∙ length_permutation (ids_in (mid_of start width keys)) (ids_in part) moved ∙ length-map (mid_of start width keys) id
        ∙ mid_length start width keys (omega (arith, lt, le))

    pub part_fits : (length part ≡ width) × All (λ id. id ≤ length s.frames) (ids_in part) × (length keys ≡ length s.frames) × (length (ids_in keys) ≡ length s.frames)
    part_fits =
        let P : ℕ → Type 0 = λ id. (0 < id) × (id ≤ length s.frames) in
        let range = All-permutation P (ids_in (mid_of start width keys)) (ids_in part) moved (part_range grouped) in
        let size = ids_length (length s.frames) (ids_in keys) grouped.all in
        (part_length, λ k d there. (range k d there).1, sym size_of_ids ∙ size, size)

    pub after_length : length (put_mid start width keys part) ≡ length keys
    after_length =
        let first = length-append (take start keys) (part ++ drop width (drop start keys)) in
        let second = length-append part (drop width (drop start keys)) in
        omega (arith, lt, le, part_length, first, second, length-take start keys, length-drop width (drop start keys), length-drop start keys)

  -- the group of a record at a place
  group_of_id : (k : ℕ) (d : RecordKey) → HaveGroups s keys → k < length keys → group s (slice_index (ids_in keys) k) ≡ (get_or keys k d).group
  group_of_id k d groups there = ap (group s) (id_at keys k d there) ∙ sym (groups k d there)

  pub group_placed : (numbers next : List ℕ) → HaveGroups s keys → AreSortedTo s (ids_in keys) numbers start
      → ((k : ℕ) (d : RecordKey) → start ≤ k → k < end → (get_or keys k d).group ≡ (get_or keys start d).group)
      → ((d : RecordKey) → end < length keys → (get_or keys end d).group ≢ (get_or keys start d).group) → IsPermutation (ids_in (mid_of start width keys)) (ids_in part)
      → AreInOrder s (numbered numbers) (ids_in part) → length next ≡ length numbers
      → ((k : ℕ) → k < length part → slice_index next (slice_index (ids_in part) k) ≡ start + k + 1)
      → ((id d : ℕ) → ((k : ℕ) → k < length part → slice_index (ids_in part) k ≢ id) → slice_index_or next id d ≡ slice_index_or numbers id d)
      → AreSortedTo s (ids_in (put_mid start width keys part)) next end
  group_placed numbers next groups was same ends moved order whole placed kept =
      let to : start + width ≡ end = omega (arith, lt) in
      let part_size = length-map part (λ (key : RecordKey). key.id) in
      let first : start < length keys = omega (arith, lt, le) in
      let result : AreSortedTo s (put_mid start width (ids_in keys) (ids_in part)) next (start + width) =
      sorted_on s (ids_in keys) (ids_in part) numbers next start width was (omega (arith, lt)) (omega (arith, lt, le, size_of_ids))
      (λ k from up. group_of_id k none groups (omega (arith, up, to, le)) ∙ same k none from (omega (arith, up, to)) ∙ sym (group_of_id start none groups first))
      (λ more e.
      let there : end < length keys = omega (arith, more, to, size_of_ids) in
      ends none there (sym (group_of_id end none groups there) ∙ ap (λ (k : ℕ). group s (slice_index (ids_in keys) k)) (sym to) ∙ e ∙ group_of_id start none groups first))
      (subst (λ (xs : List ℕ). IsPermutation xs (ids_in part)) part_ids moved) order whole (λ k up. placed k (omega (arith, up, part_size)))
      (λ id d out. kept id d (λ k up. out k (omega (arith, up, part_size)))) in
      subst (λ (ids : List ℕ). AreSortedTo s ids next end) (sym (map_put_mid (λ (key : RecordKey). key.id) start width keys part))
      (subst (λ (k : ℕ). AreSortedTo s (put_mid start width (ids_in keys) (ids_in part)) next k) to result)

-- all groups are sorted
pub sorted_all : (s : SectionWords) (keys : List RecordKey) (numbers : List ℕ) (end : ℕ) → end ≡ length keys → AreSortedTo s (ids_in keys) numbers end → AreNumbered s (ids_in keys) numbers
sorted_all s keys numbers end all sorted =
    let is : end ≡ length (ids_in keys) = all ∙ sym (length-map keys (λ (key : RecordKey). key.id)) in
    order_found s (ids_in keys) numbers (subst (AreSortedTo s (ids_in keys) numbers) is sorted)

-- nothing is sorted yet
pub none_sorted : (s : SectionWords) (ids numbers : List ℕ) → AreGrouped s ids → numbers ≡ replicate (length s.frames + 1) 0 → AreSortedTo s ids numbers 0
none_sorted s ids numbers grouped is =
    let size = ids_length (length s.frames) ids grouped.all in
    record {
      grouped = grouped;
      apart = λ j k lt. absurd (omega (arith, lt));
      whole = ap length is ∙ length-replicate {A = ℕ} (length s.frames + 1) 0 ∙ omega (arith, size);
      void = ap (λ (l : List ℕ). slice_index l 0) is ∙ get_or-replicate (length s.frames + 1) 0 0 0 (omega arith);
      each = λ k lt. absurd (omega (arith, lt));
    }
