-- Listings of BTF types: a line for each type, followed by a line for each of its items. They are meant for values in the
-- ranges of their types: std writes numbers of up to 64 digits.
use Rattle.std.specs.Prelude.{ℕ, ◌/◌, ◌%◌, Bool, false, List, [], ◌∷◌, ◌++◌, Option, Some, None, codes, decimal, length, nat_lt, if◌then◌else◌, ◌==◌, ◌||◌}
use Rattle.std.specs.{Char.digit_char, Fmt.signed_decimal, List.flat_map, List.enumerate_from, Int.Width, Int.w32, Int.w64, Int.cast_signed}
use Rattle.btf_types.specs.declared.values.Encoding.{Encoding}
use Rattle.btf_types.specs.declared.values.Encoding.TheVariants as encoding
use Rattle.btf_types.specs.declared.values.Linkage.{Linkage}
use Rattle.btf_types.specs.declared.values.Linkage.TheVariants as linkage
use Rattle.btf_raw.specs.Kinds.{has_no_name}
use Rattle.btf_types.specs.{Names.head_name, Encoding.kind_number}
use Rattle.btf_types.specs.Values.{TypeHead, KInt, KPtr, KArray, KStruct, KUnion, KEnum, KFwd, KTypedef, KVolatile, KConst, KRestrict, KFunc, KFuncProto, KVar, KDatasec, KFloat, KDeclTag, KTypeTag, KEnum64, TypeItem, Member, EnumValue, Value64, Param, Entry, TypeRecord}

-- ---- names

-- a quote or a backslash
abbrev pub needs_backslash : ℕ → Bool
needs_backslash b = b == 0x22 || b == 0x5c

-- the ASCII control characters
abbrev pub is_control : ℕ → Bool
is_control b = nat_lt b 0x20 || b == 0x7f

-- a byte of a name as it is written between the quotes
abbrev pub quoted_byte : ℕ → List ℕ
quoted_byte b =
    if needs_backslash b then codes "\\" ++ b ∷ [] else
    if is_control b then codes "\\x" ++ digit_char (b / 16) ∷ digit_char (b % 16) ∷ [] else
    b ∷ []

abbrev pub quoted : List ℕ → List ℕ
quoted name = codes "\"" ++ flat_map quoted_byte name ++ codes "\""

-- ---- single values

abbrev pub encoding_name : Encoding → List ℕ
encoding_name encoding.Plain = codes "plain"
encoding_name encoding.Signed = codes "signed"
encoding_name encoding.Char = codes "char"
encoding_name encoding.Bool = codes "bool"

abbrev pub linkage_name : Linkage → List ℕ
linkage_name linkage.LStatic = codes "static"
linkage_name linkage.LGlobal = codes "global"
linkage_name linkage.LExtern = codes "extern"

-- whether the values of an enum are signed
abbrev pub sign_name : Bool → List ℕ
sign_name signed = if signed then codes "signed" else codes "unsigned"

abbrev pub flag_text : Bool → List ℕ
flag_text flag = if flag then codes "1" else codes "0"

-- -1 if the tag is on the target itself
abbrev pub component_text : Option ℕ → List ℕ
component_text None = codes "-1"
component_text (Some component) = decimal component

-- ---- types

-- the name of a type's kind
abbrev pub kind_word : TypeHead → List ℕ
kind_word (KInt name size encoding offset bits) = codes "int"
kind_word (KPtr target) = codes "ptr"
kind_word (KArray target index count) = codes "array"
kind_word (KStruct name size) = codes "struct"
kind_word (KUnion name size) = codes "union"
kind_word (KEnum name signed size) = codes "enum"
kind_word (KFwd name is_union) = codes "fwd"
kind_word (KTypedef name target) = codes "typedef"
kind_word (KVolatile target) = codes "volatile"
kind_word (KConst target) = codes "const"
kind_word (KRestrict target) = codes "restrict"
kind_word (KFunc name linkage target) = codes "func"
kind_word (KFuncProto target) = codes "func_proto"
kind_word (KVar name target linkage) = codes "var"
kind_word (KDatasec name size) = codes "datasec"
kind_word (KFloat name size) = codes "float"
kind_word (KDeclTag name flag target component) = codes "decl_tag"
kind_word (KTypeTag name flag target) = codes "type_tag"
kind_word (KEnum64 name signed size) = codes "enum64"

-- what is between the kind and the fields: a space and the name, which may be empty, unless the kind has none
abbrev pub name_text : TypeHead → List ℕ
name_text head = if has_no_name (kind_number head) then [] else codes " " ++ quoted (head_name head)

-- the fields of a type with this number of items
abbrev pub fields_text : TypeHead → ℕ → List ℕ
fields_text (KInt name size encoding offset bits) items =
    codes " size=" ++ decimal size ++ codes " encoding=" ++ encoding_name encoding
    ++ codes " offset=" ++ decimal offset ++ codes " bits=" ++ decimal bits
fields_text (KPtr target) items = codes " type=" ++ decimal target
fields_text (KArray target index count) items =
    codes " type=" ++ decimal target ++ codes " index=" ++ decimal index ++ codes " count=" ++ decimal count
fields_text (KStruct name size) items = codes " size=" ++ decimal size ++ codes " items=" ++ decimal items
fields_text (KUnion name size) items = codes " size=" ++ decimal size ++ codes " items=" ++ decimal items
fields_text (KEnum name signed size) items =
    codes " " ++ sign_name signed ++ codes " size=" ++ decimal size ++ codes " items=" ++ decimal items
fields_text (KFwd name is_union) items = if is_union then codes " union" else codes " struct"
fields_text (KTypedef name target) items = codes " type=" ++ decimal target
fields_text (KVolatile target) items = codes " type=" ++ decimal target
fields_text (KConst target) items = codes " type=" ++ decimal target
fields_text (KRestrict target) items = codes " type=" ++ decimal target
fields_text (KFunc name linkage target) items = codes " " ++ linkage_name linkage ++ codes " type=" ++ decimal target
fields_text (KFuncProto target) items = codes " type=" ++ decimal target ++ codes " items=" ++ decimal items
fields_text (KVar name target linkage) items = codes " " ++ linkage_name linkage ++ codes " type=" ++ decimal target
fields_text (KDatasec name size) items = codes " size=" ++ decimal size ++ codes " items=" ++ decimal items
fields_text (KFloat name size) items = codes " size=" ++ decimal size
fields_text (KDeclTag name flag target component) items =
    codes " flag=" ++ flag_text flag ++ codes " type=" ++ decimal target ++ codes " component=" ++ component_text component
fields_text (KTypeTag name flag target) items = codes " flag=" ++ flag_text flag ++ codes " type=" ++ decimal target
fields_text (KEnum64 name signed size) items =
    codes " " ++ sign_name signed ++ codes " size=" ++ decimal size ++ codes " items=" ++ decimal items

-- the line of a type, with its ID and number of items
abbrev pub head_line : ℕ → TypeHead → ℕ → List ℕ
head_line id head items =
    codes "[" ++ decimal id ++ codes "] " ++ kind_word head ++ name_text head ++ fields_text head items ++ codes "\n"

-- ---- items

-- whether the values of a type are signed
abbrev pub is_signed : TypeHead → Bool
is_signed (KEnum name signed size) = signed
is_signed (KEnum64 name signed size) = signed
is_signed head = false

-- a number of this width, written as signed or unsigned
abbrev pub value_text : Width → Bool → ℕ → List ℕ
value_text w signed value = if signed then signed_decimal (cast_signed w value) else decimal value

-- the line of an item without its newline; enum values are written as signed or unsigned
abbrev pub item_text : Bool → TypeItem → List ℕ
item_text signed (Member name target bit_offset width) =
    codes "  member " ++ quoted name ++ codes " type=" ++ decimal target ++ codes " offset=" ++ decimal bit_offset
    ++ codes " width=" ++ decimal width
item_text signed (EnumValue name value) = codes "  value " ++ quoted name ++ codes " " ++ value_text w32 signed value
item_text signed (Value64 name value) = codes "  value " ++ quoted name ++ codes " " ++ value_text w64 signed value
item_text signed (Param name target) = codes "  param " ++ quoted name ++ codes " type=" ++ decimal target
item_text signed (Entry target offset size) =
    codes "  entry type=" ++ decimal target ++ codes " offset=" ++ decimal offset ++ codes " size=" ++ decimal size

-- the line of an item
abbrev pub item_line : Bool → TypeItem → List ℕ
item_line signed item = item_text signed item ++ codes "\n"

-- ---- types with their items

-- the line of the type with this ID, and those of its items
abbrev pub record_text : ℕ → TypeRecord → List ℕ
record_text id r = head_line id r.head (length r.items) ++ flat_map (item_line (is_signed r.head)) r.items

-- the lines of all types, numbered from 1
abbrev pub text_of : List TypeRecord → List ℕ
text_of v = flat_map (λ p. record_text p.0 p.1) (enumerate_from 1 v)
