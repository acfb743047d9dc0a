-- The record that a frame decodes to, whatever its words are. This is what the fields of a table mean.
use Rattle.std.specs.Prelude.{ℕ, zero, suc, ◌+◌, ◌*◌, ◌^◌, Bool, not, ◌==◌, Option, Some, None, List, [], ◌∷◌, ◌++◌, map, drop, slice_index, if◌then◌else◌}
use Rattle.bpf_words.specs.{declared.Order.Order, Words.word32_at}
use Rattle.btf_raw.specs.KindNumbers.{INT, PTR, ARRAY, STRUCT, UNION, ENUM, FWD, TYPEDEF, VOLATILE, CONST, RESTRICT, FUNC, FUNC_PROTO, VAR, DATASEC, FLOAT, DECL_TAG, TYPE_TAG, ENUM64}
use Rattle.btf_raw.specs.Kinds.{one_of, kind_of, vlen_of, tail_words, item_words}
use Rattle.btf_raw.specs.Frames.{name_word, third_word, kind, vlen, flag}
use Rattle.btf_types.specs.declared.values.Encoding.{Encoding, TheVariants.Plain, TheVariants.Signed, TheVariants.Char, TheVariants.Bool as Boolean}
use Rattle.btf_types.specs.declared.values.Linkage.{Linkage, TheVariants.LStatic, TheVariants.LGlobal, TheVariants.LExtern}
use Rattle.btf_types.specs.Values.{TypeHead, KInt, KPtr, KArray, KStruct, KUnion, KEnum, KFwd, KTypedef, KVolatile, KConst, KRestrict, KFunc, KFuncProto, KVar, KDatasec, KFloat, KDeclTag, KTypeTag, KEnum64, TypeItem, Member, EnumValue, Value64, Param, Entry, TypeRecord}
use Rattle.btf_types.specs.checks.FieldFaults.{int_encoding, int_offset, int_bits, offset_in, width_in}

-- the bytes before the first NUL
abbrev pub before_nul : List ℕ → List ℕ
before_nul [] = []
before_nul (zero ∷ bytes) = []
before_nul (suc c ∷ bytes) = suc c ∷ before_nul bytes

-- the string from an offset to the next NUL
abbrev pub text_from : List ℕ → ℕ → List ℕ
text_from strings offset = before_nul (drop offset strings)

abbrev pub is_set : ℕ → Bool
is_set n = not (n == 0)

abbrev pub linkage_of : ℕ → Linkage
linkage_of n = if n == 0 then LStatic else if n == 1 then LGlobal else LExtern

abbrev pub encoding_of : ℕ → Encoding
encoding_of n = if n == 0 then Plain else if n == 1 then Signed else if n == 2 then Char else Boolean

abbrev pub component_of : ℕ → Option ℕ
component_of n = if n == 0xffffffff then None else Some n

-- the head with these fields: the kind, size or type, kind_flag, vlen, and the three fields after them
unfoldable pub head_from : List ℕ → ℕ → ℕ → ℕ → ℕ → ℕ → ℕ → ℕ → TypeHead
head_from name k third flag vlen next fourth fifth =
    if k == INT then KInt name third (encoding_of (int_encoding next)) (int_offset next) (int_bits next)
    else if k == PTR then KPtr third
    else if k == ARRAY then KArray next fourth fifth
    else if k == STRUCT then KStruct name third
    else if k == UNION then KUnion name third
    else if k == ENUM then KEnum name (is_set flag) third
    else if k == FWD then KFwd name (is_set flag)
    else if k == TYPEDEF then KTypedef name third
    else if k == VOLATILE then KVolatile third
    else if k == CONST then KConst third
    else if k == RESTRICT then KRestrict third
    else if k == FUNC then KFunc name (linkage_of vlen) third
    else if k == FUNC_PROTO then KFuncProto third
    else if k == VAR then KVar name third (linkage_of next)
    else if k == DATASEC then KDatasec name third
    else if k == FLOAT then KFloat name third
    else if k == DECL_TAG then KDeclTag name (is_set flag) third (component_of next)
    else if k == TYPE_TAG then KTypeTag name (is_set flag) third
    else KEnum64 name (is_set flag) third

-- the head that a frame decodes to, with this name
abbrev pub head_of : List ℕ → List ℕ → TypeHead
head_of frame name =
    head_from name (kind frame) (third_word frame) (flag frame) (vlen frame) (slice_index frame 3) (slice_index frame 4) (slice_index frame 5)

-- the item with these fields: its name, the kind and kind_flag of its record, and its fields; the third isn't used if the item has only two
unfoldable pub item_from : List ℕ → ℕ → ℕ → ℕ → ℕ → ℕ → TypeItem
item_from name k flag first second third =
    if one_of (STRUCT ∷ UNION ∷ []) k then Member name second (offset_in flag third) (width_in flag third)
    else if k == ENUM then EnumValue name second
    else if k == ENUM64 then Value64 name (second + 2 ^ 32 * third)
    else if k == FUNC_PROTO then Param name second
    else Entry first second third

-- the item whose first field is field j of the frame
abbrev pub item_of : List ℕ → List ℕ → ℕ → TypeItem
item_of strings frame j =
    item_from (text_from strings (slice_index frame j)) (kind frame) (flag frame) (slice_index frame j) (slice_index frame (j + 1)) (slice_index frame (j + 2))

-- the list f 0, f 1, .. of n elements
abbrev pub tabulate : {X : Type 0} → (ℕ → X) → ℕ → List X
tabulate f zero = []
tabulate f (suc n) = tabulate f n ++ f n ∷ []

abbrev pub item_total : List ℕ → ℕ
item_total frame = if item_words (kind frame) == 0 then 0 else vlen frame

-- the record that a frame decodes to, with its names in these strings
abbrev pub record_of : List ℕ → List ℕ → TypeRecord
record_of strings frame = record {
  head = head_of frame (text_from strings (name_word frame));
  items = tabulate (λ k. item_of strings frame (3 + item_words (kind frame) * k)) (item_total frame);
}

-- the info of the frame at an offset of the type section
abbrev pub info_at : Order → List ℕ → ℕ → ℕ
info_at o types pos = word32_at o types (pos + 4)

-- the fields of the record at an offset of the type section
abbrev pub frame_at : Order → List ℕ → ℕ → List ℕ
frame_at o types pos = tabulate (λ j. word32_at o types (pos + 4 * j)) (3 + tail_words (kind_of (info_at o types pos)) (vlen_of (info_at o types pos)))

abbrev pub frames_at : Order → List ℕ → List ℕ → List (List ℕ)
frames_at o types offsets = map (frame_at o types) offsets

-- the records at these offsets of a type section
abbrev pub records_at : Order → List ℕ → List ℕ → List ℕ → List TypeRecord
records_at o types strings offsets = map (record_of strings) (frames_at o types offsets)
