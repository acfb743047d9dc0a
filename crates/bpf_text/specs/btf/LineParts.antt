-- The line of a type or an item in three parts: the bytes before its name, the name, and the bytes after it. A line
-- without a name is split after its kind.
use Rattle.std.specs.Prelude.{ℕ, Bool, List, [], ◌++◌, codes, decimal, if◌then◌else◌}
use Rattle.std.specs.Int.{w32, w64}
use Rattle.btf_raw.specs.Kinds.{has_no_name}
use Rattle.btf_types.specs.Values.{TypeHead, TypeItem, Member, EnumValue, Value64, Param, Entry}
use Rattle.btf_types.specs.Encoding.{kind_number}
use Rattle.bpf_text.specs.btf.BtfText.{fields_text, kind_word, value_text}

-- ---- types

-- the line of the type with this ID, up to its name
abbrev pub head_start : ℕ → TypeHead → List ℕ
head_start id head = codes "[" ++ decimal id ++ codes "] " ++ kind_word head ++ (if has_no_name (kind_number head) then [] else codes " \"")

-- what follows the name of a type with this number of items
abbrev pub head_fields : TypeHead → ℕ → List ℕ
head_fields head items = (if has_no_name (kind_number head) then [] else codes "\"") ++ fields_text head items

-- the line of a type with this number of items, from the end of its name
abbrev pub head_end : TypeHead → ℕ → List ℕ
head_end head items = head_fields head items ++ codes "\n"

-- ---- items

-- the line of an item, up to its name
abbrev pub item_start : TypeItem → List ℕ
item_start (Member name target bit_offset width) = codes "  member \""
item_start (EnumValue name value) = codes "  value \""
item_start (Value64 name value) = codes "  value \""
item_start (Param name target) = codes "  param \""
item_start (Entry target offset size) = codes "  entry"

-- what follows the name of an item; enum values are written as signed or unsigned
abbrev pub item_fields : Bool → TypeItem → List ℕ
item_fields signed (Member name target bit_offset width) =
    codes "\" type=" ++ decimal target ++ codes " offset=" ++ decimal bit_offset
    ++ codes " width=" ++ decimal width
item_fields signed (EnumValue name value) = codes "\" " ++ value_text w32 signed value
item_fields signed (Value64 name value) = codes "\" " ++ value_text w64 signed value
item_fields signed (Param name target) = codes "\" type=" ++ decimal target
item_fields signed (Entry target offset size) =
    codes " type=" ++ decimal target ++ codes " offset=" ++ decimal offset ++ codes " size=" ++ decimal size

-- the line of an item, from the end of its name
abbrev pub item_end : Bool → TypeItem → List ℕ
item_end signed item = item_fields signed item ++ codes "\n"
