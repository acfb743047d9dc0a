-- The canonical bytes of a list of BTF records: a header, the records, and the string table in which names share suffixes
-- (btf.rst section 2).
use Rattle.std.specs.Prelude.{ℕ, ◌+◌, ◌*◌, ◌/◌, ◌%◌, ◌^◌, Bool, List, [], ◌∷◌, ◌++◌, length, map}
use Rattle.std.specs.List.{flat_map}
use Rattle.bpf_words.specs.declared.Order.{Order}
use Rattle.btf_raw.specs.{Header.header, Heads.bit, Frames.section_of}
use Rattle.btf_types.specs.Values.{TypeHead, KStruct, KUnion, KEnum, KFwd, KDeclTag, KTypeTag, KEnum64, TypeItem, Member, EnumValue, Value64, Param, Entry, TypeRecord}
use Rattle.btf_types.specs.{Names.head_name, Valid.has_bit_fields, strings.StringTable.string_table, strings.StringTable.offset_of}
use Rattle.btf_types.specs.Encoding.{kind_number, head_third, record_vlen, head_tail, info}

-- kind_flag: for a STRUCT or UNION, 0 if and only if all widths are 0; for a kind whose value includes it, that bit; 0 otherwise
abbrev pub canonical_flag : TypeHead → Bool → ℕ
canonical_flag (KStruct name size) bit_fields = bit bit_fields
canonical_flag (KUnion name size) bit_fields = bit bit_fields
canonical_flag (KEnum name signed size) bit_fields = bit signed
canonical_flag (KFwd name is_union) bit_fields = bit is_union
canonical_flag (KDeclTag name flag target component) bit_fields = bit flag
canonical_flag (KTypeTag name flag target) bit_fields = bit flag
canonical_flag (KEnum64 name signed size) bit_fields = bit signed
canonical_flag _ bit_fields = 0

-- the 32-bit words of an item, first the offset of its name; a width is in the high 8 bits, and a 64-bit value is split low half first
abbrev pub words_of_item : (List ℕ → ℕ) → TypeItem → List ℕ
words_of_item new_offset (Member name target bit_offset width) = new_offset name ∷ target ∷ (bit_offset + 2 ^ 24 * width) ∷ []
words_of_item new_offset (EnumValue name value) = new_offset name ∷ value ∷ []
words_of_item new_offset (Value64 name value) = new_offset name ∷ value % 2 ^ 32 ∷ value / 2 ^ 32 ∷ []
words_of_item new_offset (Param name target) = new_offset name ∷ target ∷ []
words_of_item new_offset (Entry target offset size) = target ∷ offset ∷ size ∷ []

-- the 32-bit words of a record: the offset of its name, info, size or type, and the rest
abbrev pub record_words : (List ℕ → ℕ) → TypeRecord → List ℕ
record_words new_offset r =
    new_offset (head_name r.head) ∷ info (kind_number r.head) (record_vlen r) (canonical_flag r.head (has_bit_fields r)) ∷ head_third r.head
    ∷ (head_tail r.head ++ flat_map (words_of_item new_offset) r.items)

-- the 32-bit words of all records, with the offsets of names in the string table
abbrev pub canonical_frames : List TypeRecord → List (List ℕ)
canonical_frames v = map (record_words (offset_of v)) v

abbrev pub canonical_types : Order → List TypeRecord → List ℕ
canonical_types o v = section_of o (canonical_frames v)

-- a 24-byte header with type_off 0 and str_off = type_len, the records, and the string table (btf.rst section 2)
abbrev pub canonical : Order → List TypeRecord → List ℕ
canonical o v =
    header o 24 0 (length (canonical_types o v)) (length (canonical_types o v)) (length (string_table v)) ++ canonical_types o v ++ string_table v
