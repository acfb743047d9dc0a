-- Why records say no valid types: the first fault in the order of this file, with the index of its type. It says its cause.
use Rattle.std.specs.Prelude.{◌≡◌, ◌≢◌, ◌⊎◌, ◌<◌, ◌≤◌, ◌+◌, ◌-◌, ℕ, IsTrue, IsFalse, Some, List, length, take, slice_get}
use Rattle.std.specs.List.{All, AllZip, sum_by}
use Rattle.btf_raw.specs.declared.cause.{BtfCause.BtfCause}
use Rattle.btf_raw.specs.declared.cause.BtfCause.TheVariants.{TypeLength, StringLength, KindNumber, TailCut, NameRange}
use Rattle.btf_raw.specs.{Cause.number_of, Header.TYPES_LIMIT, Kinds.is_kind, Kinds.item_words}
use Rattle.btf_types.specs.{Values.TypeRecord, Denotes.Denotes, Faults.IsFirst}
use Rattle.bpfcanon_c.specs.declared.btf_rows.{TypeRow.TypeRow, ItemRow.ItemRow}
use Rattle.bpfcanon_c.specs.declared.btf_plain.Plan.{Plan}
use Rattle.bpfcanon_c.specs.BtfSaying.{AreNear, IsNear, TellsType, own_rows}
use Rattle.bpfcanon_c.specs.BtfPlain.{HasName, IsWhole, IsPlan, plain, row_size}

-- ---- first, what the records lack to be BTF

-- types that are whole, short enough and near enough to one another
pub record CanBeWritten (strings : List ℕ) (types : List TypeRow) (items : List ItemRow) : Type 0 where
  pub whole : All (IsWhole strings items) types
  pub short : sum_by row_size types ≤ TYPES_LIMIT
  pub start : ℕ
  pub near : All (AreNear items start) types

-- the type has a kind, and all of its items
abbrev pub HasItems : List ItemRow → TypeRow → Type 0
HasItems items row = IsTrue (is_kind row.kind) × (0 < item_words row.kind → length (own_rows items row) ≡ row.items)

-- What a cause says of a name: it isn't in the strings, or it is and isn't near to those before it. These are near from each `start` for which
-- `Before start` holds.
abbrev pub NameFault : List ℕ → (ℕ → Type 0) → ℕ → ℕ → BtfCause → Type 0
NameFault strings Before at len NameRange = ¬ HasName strings at len
NameFault strings Before at len StringLength = HasName strings at len × ((start : ℕ) → Before start → ¬ IsNear start at len)
NameFault strings Before at len _ = ⊥

-- the names of some types, that of the next one and those of some of its items are near from `start` on
pub record AreNearWith (items : List ItemRow) (types : List TypeRow) (row : TypeRow) (own : List ItemRow) (start : ℕ) : Type 0 where
  pub types-near : All (AreNear items start) types
  pub name-near : IsNear start row.name row.name_len
  pub names-near : All (λ i. IsNear start i.name i.name_len) own

-- of the names of a type after others, that of its item k is the first with a fault
pub record IsItemFault (strings : List ℕ) (items : List ItemRow) (types : List TypeRow) (row : TypeRow) (k : ℕ) (cause : BtfCause) : Type 0 where
  pub item : ItemRow
  pub item_is : slice_get (own_rows items row) k ≡ Some item
  pub has_name : HasName strings row.name row.name_len
  pub has_names : All (λ i. HasName strings i.name i.name_len) (take k (own_rows items row))
  pub start : ℕ
  pub near : AreNearWith items types row (take k (own_rows items row)) start
  pub fault : NameFault strings (AreNearWith items types row (take k (own_rows items row))) item.name item.name_len cause

-- What each cause says of a type after others that can be written. Its kind is looked at first, then its items, its name and those of its items, one
-- after the other, and the length of the records.
abbrev pub LastFault : List ℕ → List ItemRow → List TypeRow → TypeRow → BtfCause → Type 0
LastFault strings items types row KindNumber = IsFalse (is_kind row.kind)
LastFault strings items types row TailCut = IsTrue (is_kind row.kind) × (0 < item_words row.kind) × (length (own_rows items row) ≢ row.items)
LastFault strings items types row TypeLength =
    IsWhole strings items row × ((start : ℕ) × All (AreNear items start) types × AreNear items start row) × (TYPES_LIMIT < sum_by row_size types + row_size row)
LastFault strings items types row cause =
    HasItems items row × (NameFault strings (λ start. All (AreNear items start) types) row.name row.name_len cause ⊎ ((k : ℕ) × IsItemFault strings items types row k cause))

-- the types before this index can be written, and with the next one they can't, for this cause
pub record IsUnwritten (strings : List ℕ) (types : List TypeRow) (items : List ItemRow) (cause : BtfCause) (index : ℕ) : Type 0 where
  pub row : TypeRow
  pub row_is : slice_get types index ≡ Some row
  pub before : CanBeWritten strings (take index types) items
  pub fault : LastFault strings items (take index types) row cause

-- ---- then, if all types can be written, the first fault of their BTF

-- the record of this type is the last that begins at or before an offset of their BTF, which has a header of 24 bytes
pub record IsIndexAt (types : List TypeRow) (at_offset index : ℕ) : Type 0 where
  pub inside : (index < length types) ⊎ ((length types ≡ 0) × (index ≡ 0))
  pub begins : sum_by row_size (take index types) ≤ at_offset - 24
  pub next : (at_offset - 24 < sum_by row_size (take (index + 1) types)) ⊎ (length types ≤ index + 1)

pub record IsFaulty (strings : List ℕ) (types : List TypeRow) (items : List ItemRow) (cause : BtfCause) (index : ℕ) : Type 0 where
  pub plan : Plan
  pub planned : IsPlan strings types items plan
  pub at_offset : ℕ
  pub first : IsFirst (plain plan types items strings) (record { pos = at_offset; cause = cause })
  pub at : IsIndexAt types at_offset index

-- ---- then, if the BTF has no fault, the first record that isn't that of its type

-- the types before this index are said, and this one isn't; or there are more or fewer types than records
pub record IsOtherAt (strings : List ℕ) (types : List TypeRow) (items : List ItemRow) (v : List TypeRecord) (index : ℕ) : Type 0 where
  pub before : AllZip (TellsType strings items) (take index types) (take index v)
  pub here : (row : TypeRow) (r : TypeRecord) → length types ≡ length v → slice_get types index ≡ Some row → slice_get v index ≡ Some r → ¬ TellsType strings items row r
  pub inside : (index < length types) ⊎ (index ≡ 0)

pub record IsOther (strings : List ℕ) (types : List TypeRow) (items : List ItemRow) (index : ℕ) : Type 0 where
  pub plan : Plan
  pub planned : IsPlan strings types items plan
  pub v : List TypeRecord
  pub denotes : Denotes (plain plan types items strings) v
  pub fault : IsOtherAt strings types items v index

-- these are the faults, in the order in which they are looked for; a record that isn't that of its type has the cause 0
abbrev pub IsRefused : List ℕ → List TypeRow → List ItemRow → ℕ → ℕ → Type 0
IsRefused strings types items cause index =
    ((c : BtfCause) × ((cause ≡ number_of c) × (IsUnwritten strings types items c index ⊎ IsFaulty strings types items c index)))
    ⊎ ((cause ≡ 0) × IsOther strings types items index)
