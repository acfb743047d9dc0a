-- The plan of the BTF of records, made name by name and type by type.
use Rattle.std.specs.Prelude.{◌≡◌, ◌≢◌, ◌⊎◌, ◌<◌, ◌≤◌, ◌+◌, ℕ, Some, List, IsTrue, IsFalse, length, take, slice_get}
use Rattle.std.specs.List.{All, AllZip, sum_by}
use Rattle.btf_raw.specs.declared.cause.BtfCause.{BtfCause}
use Rattle.btf_raw.specs.declared.cause.BtfCause.TheVariants.{KindNumber, TailCut}
use Rattle.btf_raw.specs.{Header.STRINGS_LIMIT, Header.TYPES_LIMIT, Kinds.is_kind, Kinds.item_words}
use Rattle.btf_types.specs.Values.{TypeHead, TypeItem, TypeRecord}
use Rattle.bpfcanon_c.specs.declared.btf_rows.{TypeRow.TypeRow, ItemRow.ItemRow}
use Rattle.bpfcanon_c.specs.declared.btf_plain.NamesPart.{NamesPart}
use Rattle.bpfcanon_c.specs.BtfRows.{item_row, type_row}
use Rattle.bpfcanon_c.specs.BtfSaying.{IsNear, AreNear, own_rows}
use Rattle.bpfcanon_c.specs.BtfPlain.{HasName, IsWhole, IsNamesPart, HoldsName, HoldsNames, row_size}
use Rattle.bpfcanon_c.specs.BtfRefusal.{HasItems, NameFault}

-- the part is within 16 MiB from `start` on
pub record IsPartIn (start : ℕ) (p : NamesPart) : Type 0 where
  pub after : 0 < p.end → start ≤ p.start
  pub before : 0 < p.end → p.end < start + STRINGS_LIMIT

-- a part has the names of another
abbrev pub IsLarger : NamesPart → NamesPart → Type 0
IsLarger p q = (at len : ℕ) → HoldsName p at len → HoldsName q at len

-- the part p with one name more
pub record AddsName (strings : List ℕ) (p q : NamesPart) (at len : ℕ) : Type 0 where
  pub part : IsNamesPart strings q
  pub larger : IsLarger p q
  pub holds : HoldsName q at len
  pub has : HasName strings at len
  pub within : (start : ℕ) → IsPartIn start p → IsNear start at len → IsPartIn start q

-- likewise with the name of a type and those of some of its items
pub record AddsNames (strings : List ℕ) (p q : NamesPart) (r : TypeRow) (own : List ItemRow) : Type 0 where
  pub part : IsNamesPart strings q
  pub larger : IsLarger p q
  pub name : HoldsName q r.name r.name_len
  pub names : All (λ i. HoldsName q i.name i.name_len) own
  pub has_name : HasName strings r.name r.name_len
  pub has_names : All (λ i. HasName strings i.name i.name_len) own
  pub within : (start : ℕ) → IsPartIn start p → IsNear start r.name r.name_len → All (λ i. IsNear start i.name i.name_len) own → IsPartIn start q

-- likewise with the names of one type more
pub record AddsType (strings : List ℕ) (items : List ItemRow) (p q : NamesPart) (r : TypeRow) : Type 0 where
  pub part : IsNamesPart strings q
  pub larger : IsLarger p q
  pub holds : HoldsNames q items r
  pub whole : IsWhole strings items r
  pub within : (start : ℕ) → IsPartIn start p → AreNear items start r → IsPartIn start q

-- the part has the names of some types, whose records have this length
pub record AddsTypes (strings : List ℕ) (items : List ItemRow) (p : NamesPart) (len : ℕ) (types : List TypeRow) : Type 0 where
  pub part : IsNamesPart strings p
  pub holds : All (HoldsNames p items) types
  pub whole : All (IsWhole strings items) types
  pub within : (start : ℕ) → All (AreNear items start) types → IsPartIn start p
  pub size : len ≡ sum_by row_size types
  pub fits : len ≤ TYPES_LIMIT

-- what each cause says of a name that isn't added to a part
abbrev pub NameRefusal : List ℕ → NamesPart → ℕ → ℕ → BtfCause → Type 0
NameRefusal strings p at len cause = NameFault strings (λ start. IsPartIn start p) at len cause

-- the name of item k of a type is the first that isn't added
pub record IsItemRefused (strings : List ℕ) (items : List ItemRow) (p : NamesPart) (r : TypeRow) (k : ℕ) (cause : BtfCause) : Type 0 where
  pub item : ItemRow
  pub item_is : slice_get (own_rows items r) k ≡ Some item
  pub q : NamesPart
  pub before : AddsNames strings p q r (take k (own_rows items r))
  pub none : NameRefusal strings q item.name item.name_len cause

-- what each cause says of a type that isn't added
abbrev pub TypeRefusal : List ℕ → List ItemRow → NamesPart → TypeRow → BtfCause → Type 0
TypeRefusal strings items p r KindNumber = IsFalse (is_kind r.kind)
TypeRefusal strings items p r TailCut = IsTrue (is_kind r.kind) × (0 < item_words r.kind) × (length (own_rows items r) ≢ r.items)
TypeRefusal strings items p r cause = HasItems items r × (NameRefusal strings p r.name r.name_len cause ⊎ ((k : ℕ) × IsItemRefused strings items p r k cause))

-- ---- comparison

-- the record has the fields of the item, and a name of its length
abbrev pub HasItemFields : ItemRow → TypeItem → Type 0
HasItemFields row i = row ≡ item_row row.name i

-- likewise a record and the head of a type with so many items
abbrev pub HasHeadFields : TypeRow → ℕ → TypeHead → Type 0
HasHeadFields row count head = row ≡ type_row row.name row.first count head

-- likewise a record with those of its items and a type
pub record HasFields (items : List ItemRow) (row : TypeRow) (r : TypeRecord) : Type 0 where
  pub form : HasHeadFields row (length r.items) r.head
  pub each : AllZip HasItemFields (own_rows items row) r.items

-- the records before this index have the fields of their types, and this one hasn't; or there are more or fewer types than records
pub record IsUnlike (types : List TypeRow) (items : List ItemRow) (v : List TypeRecord) (index : ℕ) : Type 0 where
  pub before : AllZip (HasFields items) (take index types) (take index v)
  pub here : (row : TypeRow) (r : TypeRecord) → length types ≡ length v → slice_get types index ≡ Some row → slice_get v index ≡ Some r → ¬ HasFields items row r
  pub inside : (index < length types) ⊎ (index ≡ 0)
  pub none : ¬ AllZip (HasFields items) types v
