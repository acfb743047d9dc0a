-- What is left of a type section while its records are decoded.
use Rattle.std.specs.Prelude.{◌≡◌, ◌==◌, ◌<◌, ◌+◌, ◌*◌, ◌/◌, ◌%◌, ◌^◌, ◌++◌, ℕ, List, if◌then◌else◌, Some, length, take, drop, slice_index, slice_get}
use Rattle.std.specs.List.{AllZip, concat}
use Rattle.bpf_words.specs.{declared.Order.Order}
use Rattle.btf_raw.specs.{Frames.bytes_of, Header.HasNulEnds, Names.NameAt}
use Rattle.btf_raw.specs.Header as header
use Rattle.btf_types.specs.Values.{TypeHead, KStruct, KUnion, KEnum, KFuncProto, KDatasec, KEnum64, TypeItem, TypeRecord}
use Rattle.btf_types.specs.{Names.item_name, Encoding.IsRecord, Encoding.ItemEncodes, Encoding.head_tail}
use Rattle.bpfcanon_c.specs.declared.btf_rows.ItemRow.{ItemRow}
use Rattle.bpfcanon_c.specs.BtfRows.{bare_item}

-- from an offset of the file on there are these items, of a type with this kind_flag, then these records; the string section is at another offset
pub record Rest (o : Order) (bytes : List ℕ) (at strings_at flag : ℕ) (is : List TypeItem) (v : List TypeRecord) : Type 0 where
  pub strings : List ℕ
  pub words : List (List ℕ)
  pub encodings : List (List ℕ)
  pub tail : List ℕ
  pub items : AllZip (ItemEncodes strings flag) is words
  pub fit : (i : ℕ) → slice_index (concat words) i < 2 ^ 32
  pub types : AllZip (IsRecord o strings) v encodings
  pub here : drop at bytes ≡ bytes_of o (concat words) ++ (concat encodings ++ tail)
  pub strings_are : strings_at ≡ header.strings_at o bytes
  pub named : (offset : ℕ) (name : List ℕ) → NameAt strings offset name → NameAt bytes (strings_at + offset) name
  pub short : strings_at + length strings < 2 ^ 32
  pub ends : HasNulEnds strings

-- the length in bytes of the fields before the items
abbrev pub head_bytes : TypeHead → ℕ
head_bytes head = 12 + 4 * length (head_tail head)

-- what the items of a type are, by the number in their records; 0 if it has none
abbrev pub item_kind : TypeHead → ℕ
item_kind (KStruct name size) = 1
item_kind (KUnion name size) = 1
item_kind (KEnum name signed size) = 2
item_kind (KEnum64 name signed size) = 3
item_kind (KFuncProto target) = 4
item_kind (KDatasec name size) = 5
item_kind _ = 0

-- the length in bytes of an item
abbrev pub item_bytes : ℕ → ℕ
item_bytes kind = if kind == 2 then 8 else if kind == 4 then 8 else 12

-- the offset of a member in bits, and the width of a bit-field, in the offset field of a member (btf.rst section 2.2.4)
abbrev pub low_part : ℕ → ℕ → ℕ
low_part flag word = if flag == 0 then word else word % 2 ^ 24

abbrev pub high_part : ℕ → ℕ → ℕ
high_part flag word = if flag == 0 then 0 else word / 2 ^ 24

-- the record of an item with these 32-bit fields, without its name
abbrev pub words_row : ℕ → ℕ → ℕ → ℕ → ℕ → ItemRow
words_row kind flag first second third =
    if kind == 1 then record (bare_item 1) { target = second; bit_offset = low_part flag third; width = high_part flag third }
    else if kind == 2 then record (bare_item 2) { value = second }
    else if kind == 3 then record (bare_item 3) { value = second + 2 ^ 32 * third }
    else if kind == 4 then record (bare_item 4) { target = second }
    else record (bare_item 5) { target = first; offset = second; size = third }

-- where the name of an item is in the file, if its first field is this word; an entry has no name, and gets the empty string at the start of the section
abbrev pub item_name_at : ℕ → ℕ → ℕ → ℕ
item_name_at kind strings_at word = if kind == 5 then strings_at else strings_at + word

-- item k has its name, which is short enough for a record, at this offset of the file
pub record IsNamedAt (bytes : List ℕ) (at : ℕ) (is : List TypeItem) (k : ℕ) : Type 0 where
  pub item : TypeItem
  pub is_there : slice_get is k ≡ Some item
  pub named : NameAt bytes at (item_name item)
  pub short : length (item_name item) < 2 ^ 32

-- the name of item k has this length
abbrev pub IsNameLen : List TypeItem → ℕ → ℕ → Type 0
IsNameLen is k len = (i : TypeItem) → slice_get is k ≡ Some i → len ≡ length (item_name i)

-- the buffer begins with records of which R says that they are of these values, and the rest of it is unchanged
pub record Writes {Row Value : Type 0} (R : Row → Value → Type 0) (values : List Value) (old new : List Row) : Type 0 where
  pub said : AllZip R (take (length values) new) values
  pub kept : drop (length values) new ≡ drop (length values) old
