-- The types of BTF that records say.
use Rattle.std.specs.Prelude.{◌≡◌, ◌==◌, ◌<◌, ◌≤◌, ◌+◌, ◌++◌, ◌⊎◌, ℕ, List, [], ◌∷◌, if◌then◌else◌, length, take, drop}
use Rattle.std.specs.List.{All, AllZip}
use Rattle.btf_raw.specs.{Header.STRINGS_LIMIT, Kinds.item_words}
use Rattle.btf_types.specs.Values.{TypeItem, TypeRecord}
use Rattle.btf_types.specs.{Names.head_name, Names.item_name, Valid.IsValid}
use Rattle.bpfcanon_c.specs.declared.btf_rows.{TypeRow.TypeRow, ItemRow.ItemRow}
use Rattle.bpfcanon_c.specs.BtfRows.{item_row, type_row}

-- the name is at this offset with a NUL after it; the empty name is at any offset
abbrev pub IsNamed : List ℕ → ℕ → List ℕ → Type 0
IsNamed strings at name = (name ≡ []) ⊎ (take (length name + 1) (drop at strings) ≡ name ++ 0 ∷ [])

-- a name that isn't empty is, with its NUL, in the bytes from `start` on that a string section may have after its first NUL
pub record IsNear (start at len : ℕ) : Type 0 where
  pub after : 0 < len → start ≤ at
  pub before : 0 < len → at + len + 1 < start + STRINGS_LIMIT

-- the record says the item: each field is that of the item, or 0 if its kind has none
pub record TellsItem (strings : List ℕ) (row : ItemRow) (i : TypeItem) : Type 0 where
  pub form : row ≡ item_row row.name i
  pub named : IsNamed strings row.name (item_name i)

-- the records of the items of a type: those from `first` on, or none if its kind has no items
abbrev pub own_rows : List ItemRow → TypeRow → List ItemRow
own_rows items row = if item_words row.kind == 0 then [] else take row.items (drop row.first items)

-- the record says the type, whose items are said by these records
pub record TellsType (strings : List ℕ) (items : List ItemRow) (row : TypeRow) (r : TypeRecord) : Type 0 where
  pub form : row ≡ type_row row.name row.first (length r.items) r.head
  pub named : IsNamed strings row.name (head_name r.head)
  pub each : AllZip (TellsItem strings) (own_rows items row) r.items

-- the names of a type and of its items are so
pub record AreNear (items : List ItemRow) (start : ℕ) (row : TypeRow) : Type 0 where
  pub own : IsNear start row.name row.name_len
  pub each : All (λ (i : ItemRow). IsNear start i.name i.name_len) (own_rows items row)

-- the records say these types, which are valid, with names that one string section can have at their distances
pub record TellTypes (types : List TypeRow) (items : List ItemRow) (strings : List ℕ) (v : List TypeRecord) : Type 0 where
  pub valid : IsValid v
  pub each : AllZip (TellsType strings items) types v
  pub start : ℕ
  pub near : All (AreNear items start) types
