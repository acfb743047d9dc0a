-- The types of BTF and their items as records of a fixed size: docs/FORMATS.md lists the kinds and their fields.
use Rattle.std.specs.Prelude.{◌≡◌, ◌+◌, ◌*◌, ℕ, ℤ, pos, negsuc, List, [], ◌∷◌, Bool, true, false, Option, Some, None, length}
use Rattle.std.specs.List.{flat_map}
use Rattle.bpf_words.specs.{declared.Order.Order, Words.word32_at}
use Rattle.btf_raw.specs.{Header.types_at, Header.strings_at, Kinds.fixed_words, Kinds.item_words, Names.NameAt}
use Rattle.btf_types.specs.Values.{TypeHead, KInt, KPtr, KArray, KStruct, KUnion, KEnum, KFwd, KTypedef, KVolatile, KConst, KRestrict, KFunc, KFuncProto, KVar, KDatasec, KFloat, KDeclTag, KTypeTag, KEnum64, TypeItem, Member, EnumValue, Value64, Param, Entry, TypeRecord}
use Rattle.btf_types.specs.{Names.head_name, Names.item_name, Encoding.kind_number, Encoding.encoding_number, Encoding.linkage_number, Valid.record_size}
use Rattle.bpfcanon_c.specs.declared.btf_rows.{TypeRow.TypeRow, ItemRow.ItemRow}

-- ---- the record of a type

abbrev pub bit : Bool → ℕ
bit false = 0
bit true = 1

-- no component is -1
abbrev pub component_number : Option ℕ → ℤ
component_number None = negsuc 0
component_number (Some index) = pos index

-- a kind, and 0 in each other field
abbrev pub bare_type : ℕ → TypeRow
bare_type kind = record { kind = kind; flag = 0; encoding = 0; linkage = 0; bit_offset = 0; bits = 0; items = 0; name = 0; name_len = 0; size = 0; target = 0; index = 0; count = 0; component = pos 0; first = 0 }

-- the record of a type, without its name and its items: what is not listed is 0
abbrev pub head_row : TypeHead → TypeRow
head_row (KInt name size encoding offset bits) = record (bare_type 1) { encoding = encoding_number encoding; bit_offset = offset; bits = bits; size = size }
head_row (KPtr target) = record (bare_type 2) { target = target }
head_row (KArray target index count) = record (bare_type 3) { target = target; index = index; count = count }
head_row (KStruct name size) = record (bare_type 4) { size = size }
head_row (KUnion name size) = record (bare_type 5) { size = size }
head_row (KEnum name signed size) = record (bare_type 6) { flag = bit signed; size = size }
head_row (KFwd name is_union) = record (bare_type 7) { flag = bit is_union }
head_row (KTypedef name target) = record (bare_type 8) { target = target }
head_row (KVolatile target) = record (bare_type 9) { target = target }
head_row (KConst target) = record (bare_type 10) { target = target }
head_row (KRestrict target) = record (bare_type 11) { target = target }
head_row (KFunc name linkage target) = record (bare_type 12) { linkage = linkage_number linkage; target = target }
head_row (KFuncProto target) = record (bare_type 13) { target = target }
head_row (KVar name target linkage) = record (bare_type 14) { linkage = linkage_number linkage; target = target }
head_row (KDatasec name size) = record (bare_type 15) { size = size }
head_row (KFloat name size) = record (bare_type 16) { size = size }
head_row (KDeclTag name flag target component) = record (bare_type 17) { flag = bit flag; target = target; component = component_number component }
head_row (KTypeTag name flag target) = record (bare_type 18) { flag = bit flag; target = target }
head_row (KEnum64 name signed size) = record (bare_type 19) { flag = bit signed; size = size }

-- the complete record, from the offset of its name in the file, the number of items of the types before it, and that of its own
abbrev pub type_row : ℕ → ℕ → ℕ → TypeHead → TypeRow
type_row name first count head = record (head_row head) { name = name; name_len = length (head_name head); first = first; items = count }

-- ---- the record of an item

-- a kind of item, and 0 in each other field
abbrev pub bare_item : ℕ → ItemRow
bare_item kind = record { name = 0; name_len = 0; target = 0; bit_offset = 0; width = 0; offset = 0; size = 0; kind = kind; value = 0 }

-- the record of an item, without its name: what is not listed is 0
abbrev pub item_parts : TypeItem → ItemRow
item_parts (Member name target bit_offset width) = record (bare_item 1) { target = target; bit_offset = bit_offset; width = width }
item_parts (EnumValue name value) = record (bare_item 2) { value = value }
item_parts (Value64 name value) = record (bare_item 3) { value = value }
item_parts (Param name target) = record (bare_item 4) { target = target }
item_parts (Entry target offset size) = record (bare_item 5) { target = target; offset = offset; size = size }

-- the complete record, from the offset of its name in the file
abbrev pub item_row : ℕ → TypeItem → ItemRow
item_row name i = record (item_parts i) { name = name; name_len = length (item_name i) }

-- the items of all types, in order
abbrev pub items_of : List TypeRecord → List TypeItem
items_of v = flat_map (λ r. r.items) v

-- ---- where the file has them

-- a type with the offset of its record in the file, and the number of the items of the types before it
pub record PlacedType : Type 0 where
  pub at : ℕ
  pub first : ℕ
  pub type : TypeRecord

-- types whose records follow one another from an offset of the file on
abbrev pub placed : ℕ → ℕ → List TypeRecord → List PlacedType
placed at first [] = []
placed at first (r ∷ v) = record { at = at; first = first; type = r } ∷ placed (at + record_size r) (first + length r.items) v

-- items of this length in bytes, each with its offset in the file
abbrev pub items_from : ℕ → ℕ → List TypeItem → List (ℕ × TypeItem)
items_from at len [] = []
items_from at len (i ∷ is) = (at, i) ∷ items_from (at + len) len is

-- the items of a type: three 32-bit fields, and those that only its kind has, are before them (btf.rst section 2.2)
abbrev pub placed_items : PlacedType → List (ℕ × TypeItem)
placed_items t =
    let kind = kind_number t.type.head in
    items_from (t.at + 4 * (3 + fixed_words kind)) (4 * item_words kind) t.type.items

-- the types that a file has in this byte order
abbrev pub types_in : Order → List ℕ → List TypeRecord → List PlacedType
types_in o bytes v = placed (types_at o bytes) 0 v

-- and the items of all of them, in order
abbrev pub items_in : Order → List ℕ → List TypeRecord → List (ℕ × TypeItem)
items_in o bytes v = flat_map placed_items (types_in o bytes v)

-- ---- what the records say

-- name_off of an item at an offset of the file: its first field, or 0 for an entry, which has none
abbrev pub item_name_off : Order → List ℕ → ℕ × TypeItem → ℕ
item_name_off o bytes (at, Entry target offset size) = 0
item_name_off o bytes (at, i) = word32_at o bytes at

-- the record says this type: its name is where name_off, the first field of the type, points in the string section, and is UTF-8 with a NUL after it
pub record SaysType (o : Order) (bytes : List ℕ) (row : TypeRow) (t : PlacedType) : Type 0 where
  pub form : row ≡ type_row (strings_at o bytes + word32_at o bytes t.at) t.first (length t.type.items) t.type.head
  pub named : NameAt bytes row.name (head_name t.type.head)

-- likewise for an item
pub record SaysItem (o : Order) (bytes : List ℕ) (row : ItemRow) (i : ℕ × TypeItem) : Type 0 where
  pub form : row ≡ item_row (strings_at o bytes + item_name_off o bytes i) i.1
  pub named : NameAt bytes row.name (item_name i.1)
