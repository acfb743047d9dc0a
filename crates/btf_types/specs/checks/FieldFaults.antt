-- The faults of fields: what a cause says of a field of a record, given the frames of a section.
use Rattle.std.specs.Prelude.{◌≡◌, ◌≢◌, ◌⊎◌, ℕ, zero, suc, ◌+◌, ◌*◌, ◌/◌, ◌%◌, ◌^◌, ◌<◌, ◌≤◌, ◌==◌, IsTrue, IsFalse, IsUtf8, Some, List, [], ◌∷◌, length, take, map, slice_index, slice_get, if◌then◌else◌}
use Rattle.std.specs.List.{concat}
use Rattle.btf_raw.specs.{declared.cause.BtfCause.BtfCause, Names.TextAt, Frames.name_word, Frames.third_word, Frames.kind, Frames.vlen, Frames.flag}
use Rattle.btf_raw.specs.declared.cause.BtfCause.TheVariants.{NameRange, NameUtf8, NameMissing, NameUnwanted, NotZero, Size, Reference, TargetKind, IntWord, MemberInt, MemberPlace, Linkage, Component}
use Rattle.btf_raw.specs.KindNumbers.{INT, ARRAY, STRUCT, UNION, FWD, FUNC, FUNC_PROTO, VAR, DATASEC, DECL_TAG}
use Rattle.btf_raw.specs.Kinds.{one_of, item_words, needs_name, has_no_name, has_target, has_item_names, is_struct}
use Rattle.btf_types.specs.checks.Numbers.{size_fits, bits_fit, member_fits, TypeFacts, type_at, target_fits, component_fits, member_int_fits}

-- field j of the frame is field m of its item k
abbrev pub IsItemWord : List ℕ → ℕ → ℕ → ℕ → Type 0
IsItemWord frame k m j = (k < vlen frame) × (j ≡ 3 + item_words (kind frame) * k + m)

-- field j is the n-th name: the record's own, then those of its items
abbrev pub IsNameField : List ℕ → ℕ → ℕ → Type 0
IsNameField frame zero j = j ≡ 0
IsNameField frame (suc k) j = IsTrue (has_item_names (kind frame)) × IsItemWord frame k 0 j

-- field j is a type ID
abbrev pub IsTypeField : List ℕ → ℕ → Type 0
IsTypeField frame j =
    (IsTrue (has_target (kind frame)) × (j ≡ 2))
    ⊎ ((kind frame ≡ ARRAY) × ((j ≡ 3) ⊎ (j ≡ 4)))
    ⊎ (IsTrue (one_of (STRUCT ∷ UNION ∷ FUNC_PROTO ∷ []) (kind frame)) × (k : ℕ) × IsItemWord frame k 1 j)
    ⊎ ((kind frame ≡ DATASEC) × (k : ℕ) × IsItemWord frame k 0 j)

-- field j is the type ID of a member, or its offset
abbrev pub IsMemberWord : List ℕ → ℕ → ℕ → Type 0
IsMemberWord frame m j = IsTrue (is_struct (kind frame)) × (k : ℕ) × IsItemWord frame k m j

-- the bit offset and the width in the offset field of a member, given the kind_flag of its record
abbrev pub offset_in : ℕ → ℕ → ℕ
offset_in flag word = if flag == 0 then word else word % 2 ^ 24

abbrev pub width_in : ℕ → ℕ → ℕ
width_in flag word = if flag == 0 then 0 else word / 2 ^ 24

abbrev pub bit_offset : List ℕ → ℕ → ℕ
bit_offset frame j = offset_in (flag frame) (slice_index frame j)

abbrev pub width : List ℕ → ℕ → ℕ
width frame j = width_in (flag frame) (slice_index frame j)

-- the width of some member of this record isn't 0
abbrev pub HasBitFields : List ℕ → Type 0
HasBitFields frame = (j : ℕ) × IsMemberWord frame 2 j × (width frame j ≢ 0)

-- the parts of the data that follows an INT
abbrev pub int_word : List ℕ → ℕ
int_word frame = slice_index frame 3

abbrev pub int_unused : ℕ → ℕ
int_unused w = w / 2 ^ 28 + w / 2 ^ 8 % 2 ^ 8

abbrev pub int_encoding : ℕ → ℕ
int_encoding w = w / 2 ^ 24 % 2 ^ 4

abbrev pub int_offset : ℕ → ℕ
int_offset w = w / 2 ^ 16 % 2 ^ 8

abbrev pub int_bits : ℕ → ℕ
int_bits w = w % 2 ^ 8

-- what the checks of other records need of this one
abbrev pub frame_facts : List ℕ → TypeFacts
frame_facts frame = record {
  kind = kind frame;
  count = if kind frame == FUNC then 0 else vlen frame;
  target = third_word frame;
  offset = if kind frame == INT then int_offset (int_word frame) else 0;
  bits = if kind frame == INT then int_bits (int_word frame) else 0;
}

-- What a cause says of field j of this frame, given these strings and types. (TextsTooLong never applies.)
abbrev pub WordFault : List ℕ → List TypeFacts → List ℕ → ℕ → BtfCause → Type 0
WordFault strings types frame j NameRange = (n : ℕ) × IsNameField frame n j × (length strings ≤ slice_index frame j)
WordFault strings types frame j NameUtf8 =
    (n : ℕ) × IsNameField frame n j × (text : List ℕ) × TextAt strings (slice_index frame j) text × ¬ IsUtf8 text
WordFault strings types frame j NameMissing = (j ≡ 0) × IsTrue (needs_name (kind frame)) × TextAt strings (name_word frame) []
WordFault strings types frame j NameUnwanted =
    (j ≡ 0) × IsTrue (has_no_name (kind frame)) × (text : List ℕ) × TextAt strings (name_word frame) text × (text ≢ [])
WordFault strings types frame j NotZero = (j ≡ 2) × IsTrue (one_of (ARRAY ∷ FWD ∷ []) (kind frame)) × (third_word frame ≢ 0)
WordFault strings types frame j Size = (j ≡ 2) × IsFalse (size_fits (kind frame) (third_word frame) (vlen frame))
WordFault strings types frame j Reference = IsTypeField frame j × (length types < slice_index frame j)
WordFault strings types frame j TargetKind =
    IsTypeField frame j × (slice_index frame j ≤ length types)
    × IsFalse (target_fits (kind frame) ((type_at types (slice_index frame j)).kind))
WordFault strings types frame j IntWord =
    (j ≡ 3) × (kind frame ≡ INT)
    × ((int_unused (int_word frame) ≢ 0) ⊎ IsFalse (one_of (0 ∷ 1 ∷ 2 ∷ 4 ∷ []) (int_encoding (int_word frame)))
    ⊎ IsFalse (bits_fit (third_word frame) (int_bits (int_word frame))))
WordFault strings types frame j MemberInt =
    IsMemberWord frame 1 j × HasBitFields frame × IsFalse (member_int_fits types (slice_index frame j))
WordFault strings types frame j MemberPlace =
    IsMemberWord frame 2 j × IsFalse (member_fits (bit_offset frame j) (width frame j) (third_word frame))
WordFault strings types frame j Linkage =
    ((kind frame ≡ FUNC) × (j ≡ 1) × (2 < vlen frame)) ⊎ ((kind frame ≡ VAR) × (j ≡ 3) × (2 < slice_index frame 3))
WordFault strings types frame j Component =
    (kind frame ≡ DECL_TAG) × (j ≡ 3) × (slice_index frame 3 ≢ 0xffffffff)
    × IsFalse (component_fits types (third_word frame) (slice_index frame 3))
WordFault strings types frame j _ = ⊥

-- A field of the section has the fault. Offsets count bytes from the start of the type section.
pub record FieldFault (strings : List ℕ) (frames : List (List ℕ)) (at_offset : ℕ) (cause : BtfCause) : Type 0 where
  pub index : ℕ
  pub frame : List ℕ
  pub word : ℕ
  pub frame_is : slice_get frames index ≡ Some frame
  pub inside : word < length frame
  pub fault : WordFault strings (map frame_facts frames) frame word cause
  pub at_offset_is : at_offset ≡ 4 * (length (concat (take index frames)) + word)
