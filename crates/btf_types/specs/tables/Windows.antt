-- What the iterators of a table return.
use Rattle.std.specs.Prelude.{ℕ, zero, suc, List, [], take, drop, slice_get, unwrap_or}
use Rattle.btf_types.specs.{Values.TypeItem, Values.TypeRecord, tables.TableWords.no_record}

-- the elements from one index up to, but not including, another
abbrev pub window : {X : Type 0} → ℕ → ℕ → List X → List X
window from to xs = drop from (take to xs)

-- the items of the record with this ID; void, and an ID above the last record, have none
abbrev pub items_of : List TypeRecord → ℕ → List TypeItem
items_of v zero = []
items_of v (suc i) = (unwrap_or (slice_get v i) no_record).items
