-- Elements that are removed from both ends of a part of a list.
use Rattle.std.proofs.Common.{◌≡◌, ℕ, zero, suc, ◌+◌, ◌-◌, ◌<◌, ◌≤◌, List, [], ◌∷◌, ◌++◌, length, take, drop, refl, ap, ◌∙◌, arith, Some}
use Rattle.std.specs.Prelude.{slice_get, unwrap_or}
use Rattle.std.proofs.lemmas.List.{length-drop, length-take-le, get_or-take, take_all, drop-append-le, drop_more, drop_all, take_more}
use Rattle.btf_types.specs.Values.{TypeRecord}
use Rattle.btf_types.specs.tables.{TableWords.no_record, TableWords.numbered, TableWords.record_at, Windows.items_of, Windows.window}
use Rattle.btf_types.proofs.TableLemmas.TableWalk.{get_or_is}

-- one element from the start
pub window_first : {X : Type 0} (from to : ℕ) (xs : List X) (x : X) → from < to → to ≤ length xs → slice_get xs from ≡ Some x → window from to xs ≡ x ∷ window (from + 1) to xs
window_first from to xs x low high is =
    let len = length-take-le to xs high in
    let there = get_or_is xs from x x is in
    drop_more (take to xs) from x (omega (arith, len))
    ∙ ap (λ y. y ∷ window (from + 1) to xs) (get_or-take to xs from x low ∙ there.1)

pub window_length : {X : Type 0} (from to : ℕ) (xs : List X) → to ≤ length xs → length (window from to xs) ≡ to - from
window_length from to xs high = length-drop from (take to xs) ∙ ap (λ n. n - from) (length-take-le to xs high)

pub window_empty : {X : Type 0} (from to : ℕ) (xs : List X) → to ≤ length xs → to ≤ from → window from to xs ≡ []
window_empty from to xs high low = let len = length-take-le to xs high in drop_all from (take to xs) (omega (arith, len))

pub window_whole : {X : Type 0} (to : ℕ) (xs : List X) → length xs ≤ to → window 0 to xs ≡ xs
window_whole to xs high = take_all to xs high

pub length-numbered : (id : ℕ) (v : List TypeRecord) → length (numbered id v) ≡ length v
length-numbered id [] = refl
length-numbered id (r ∷ v) = ap (λ n. suc n) (length-numbered (id + 1) v)

-- one element from the back
pub window_back : {X : Type 0} (from to end : ℕ) (xs : List X) (x : X) → from < end → end ≤ length xs → end ≡ to + 1 → slice_get xs to ≡ Some x → window from end xs ≡ window from to xs ++ x ∷ []
window_back from to end xs x low high last is =
    let len = length-take-le to xs (omega arith) in
    let there = get_or_is xs to x x is in
    ap (λ n. drop from (take n xs)) last
    ∙ ap (λ ys. drop from ys) (take_more xs to x (omega arith) ∙ ap (λ y. take to xs ++ y ∷ []) there.1)
    ∙ drop-append-le from (take to xs) (x ∷ []) (omega arith)

numbered_get : (id : ℕ) (v : List TypeRecord) (i : ℕ) → i < length v → slice_get (numbered id v) i ≡ Some (id + i, (unwrap_or (slice_get v i) no_record).head)
numbered_get id [] i h = absurd (omega (arith, h))
numbered_get id (r ∷ v) zero h = let same : id ≡ id + zero = omega arith in ap (λ (n : ℕ). Some (n, r.head)) same
numbered_get id (r ∷ v) (suc i) h =
    let same : id + 1 + i ≡ id + suc i = omega arith in
    numbered_get (id + 1) v i (omega (arith, h)) ∙ ap (λ (n : ℕ). Some (n, (unwrap_or (slice_get v i) no_record).head)) same

-- the record of a number, with its number
pub numbered_at : (v : List TypeRecord) (i : ℕ) → i < length v → slice_get (numbered 1 v) i ≡ Some (i + 1, (record_at v (i + 1)).head)
numbered_at v i h =
    let at : i + 1 - 1 ≡ i = omega arith in
    let same : 1 + i ≡ i + 1 = omega arith in
    rw (at, ← same) (numbered_get 1 v i h)

-- one record of a table from the start
pub first_numbered : (v : List TypeRecord) (from to : ℕ) → from < to → to ≤ length v
    → window from to (numbered 1 v) ≡ (from + 1, (record_at v (from + 1)).head) ∷ window (from + 1) to (numbered 1 v)
first_numbered v from to low high =
    let len = length-numbered 1 v in
    window_first from to (numbered 1 v) _ low (omega (arith, high, len)) (numbered_at v from (omega (arith, low, high)))

in_table : (v : List TypeRecord) (i k : ℕ) → k < length (unwrap_or (slice_get v i) no_record).items → i < length v
in_table [] i k h = absurd (omega (arith, h))
in_table (r ∷ v) zero k h = omega arith
in_table (r ∷ v) (suc i) k h = let below = in_table v i k h in omega (arith, below)

-- an ID that has an item is that of a record of the table
pub items_there : (v : List TypeRecord) (id k : ℕ) → k < length (items_of v id) → (0 < id) × (id ≤ length v)
items_there v zero k h = absurd (omega (arith, h))
items_there v (suc i) k h = let below = in_table v i k h in (omega arith, omega (arith, below))

pub items_of_record : (v : List TypeRecord) (id : ℕ) → 0 < id → items_of v id ≡ (record_at v id).items
items_of_record v zero h = absurd (omega (arith, h))
items_of_record v (suc i) h = let at : suc i - 1 ≡ i = omega arith in rw at refl

-- what the search cites of the items that are left
pub ruleset item_windows = (window_first, window_back, window_length, window_empty, items_there, items_of_record)

-- what the search cites of the records that are left
pub ruleset record_windows = (first_numbered, window_back, window_length, window_empty, length-numbered, numbered_at)

-- and of all records
pub ruleset all_records = (window_whole, length-numbered)
