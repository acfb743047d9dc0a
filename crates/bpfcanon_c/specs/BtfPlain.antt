-- BTF that isn't canonical, from records. Each record encodes to some bytes: the fields that its kind has are copied, and nothing is checked.
use Rattle.std.specs.Prelude.{◌≡◌, ◌==◌, ◌<◌, ◌≤◌, ◌+◌, ◌-◌, ◌*◌, ◌/◌, ◌%◌, ◌^◌, ◌++◌, ℕ, ℤ, pos, negsuc, Bool, IsTrue, not, List, [], ◌∷◌, if◌then◌else◌, length, take, drop, slice_index, map}
use Rattle.std.specs.List.{All, flat_map, list_any, sum_by}
use Rattle.bpf_words.specs.declared.Order.TheVariants.{Little}
use Rattle.btf_raw.specs.KindNumbers.{INT, ARRAY, STRUCT, UNION, ENUM, FWD, FUNC, FUNC_PROTO, VAR, DATASEC, FLOAT, DECL_TAG, TYPE_TAG, ENUM64}
use Rattle.btf_raw.specs.Kinds.{one_of, is_kind, is_struct, item_words, tail_words}
use Rattle.btf_raw.specs.{Heads.bit, Frames.section_of, Header.header, Header.STRINGS_LIMIT, Header.TYPES_LIMIT}
use Rattle.btf_types.specs.{Encoding.info}
use Rattle.bpfcanon_c.specs.declared.btf_rows.{TypeRow.TypeRow, ItemRow.ItemRow}
use Rattle.bpfcanon_c.specs.declared.btf_plain.{NamesPart.NamesPart, Plan.Plan}
use Rattle.bpfcanon_c.specs.BtfSaying.{own_rows}

-- ---- the words of a record

-- the offset of a name in a string section of a NUL and the bytes from `start` on
abbrev pub name_word : ℕ → ℕ → ℕ → ℕ
name_word start at len = if len == 0 then 0 else (at - start) % 2 ^ 24 + 1

abbrev pub vlen_word : TypeRow → ℕ
vlen_word r = if r.kind == FUNC then r.linkage else r.items

abbrev pub flag_word : TypeRow → Bool → ℕ
flag_word r bit_fields =
    if is_struct r.kind then bit bit_fields
    else if one_of (ENUM ∷ FWD ∷ DECL_TAG ∷ TYPE_TAG ∷ ENUM64 ∷ []) r.kind then r.flag % 2
    else 0

abbrev pub third_word : TypeRow → ℕ
third_word r =
    if one_of (INT ∷ STRUCT ∷ UNION ∷ ENUM ∷ DATASEC ∷ FLOAT ∷ ENUM64 ∷ []) r.kind then r.size
    else if one_of (ARRAY ∷ FWD ∷ []) r.kind then 0
    else r.target

-- any negative number is written as -1
abbrev pub component_word : ℤ → ℕ
component_word (pos index) = index
component_word (negsuc n) = 0xffffffff

abbrev pub tail_of : TypeRow → List ℕ
tail_of r =
    if r.kind == INT then (r.bits + 2 ^ 16 * r.bit_offset + 2 ^ 24 * r.encoding) ∷ []
    else if r.kind == ARRAY then r.target ∷ r.index ∷ r.count ∷ []
    else if r.kind == VAR then r.linkage ∷ []
    else if r.kind == DECL_TAG then component_word r.component ∷ []
    else []

-- the words before the items, with this kind_flag
abbrev pub head_words : ℕ → TypeRow → ℕ → List ℕ
head_words start r flag =
    name_word start r.name r.name_len ∷ info (r.kind % 32) (vlen_word r) flag ∷ third_word r ∷ tail_of r

-- the words of an item of a type of this kind
abbrev pub words_of : ℕ → ℕ → ItemRow → List ℕ
words_of start kind i =
    let name = name_word start i.name i.name_len in
    if is_struct kind then name ∷ i.target ∷ ((i.bit_offset + 2 ^ 24 * (i.width % 2 ^ 8)) % 2 ^ 32) ∷ []
    else if kind == ENUM then name ∷ i.value % 2 ^ 32 ∷ []
    else if kind == ENUM64 then name ∷ i.value % 2 ^ 32 ∷ i.value / 2 ^ 32 ∷ []
    else if kind == FUNC_PROTO then name ∷ i.target ∷ []
    else i.target ∷ i.offset ∷ i.size ∷ []

abbrev pub has_width : ItemRow → Bool
has_width i = not (i.width == 0)

-- the words of a type with these items
abbrev pub row_words : ℕ → TypeRow → List ItemRow → List ℕ
row_words start r own = head_words start r (flag_word r (list_any has_width own)) ++ flat_map (words_of start r.kind) own

-- the words of the types in order
abbrev pub frames : ℕ → List TypeRow → List ItemRow → List (List ℕ)
frames start types items = map (λ r. row_words start r (own_rows items r)) types

-- NUL, and the part of the names
abbrev pub names_section : List ℕ → NamesPart → List ℕ
names_section strings p = 0 ∷ take (p.end - p.start) (drop p.start strings)

-- the length in bytes of the record of a type
abbrev pub row_size : TypeRow → ℕ
row_size r = 4 * (3 + tail_words r.kind r.items)

-- ---- what the record of a type needs

-- a name that isn't empty is in the strings, with a NUL after it
pub record HasName (strings : List ℕ) (at len : ℕ) : Type 0 where
  pub inside : 0 < len → at + len < length strings
  pub nul : 0 < len → slice_index strings (at + len) ≡ 0

pub record HasNames (strings : List ℕ) (items : List ItemRow) (row : TypeRow) : Type 0 where
  pub name : HasName strings row.name row.name_len
  pub names : All (λ i. HasName strings i.name i.name_len) (own_rows items row)

-- the type has a kind, all of its items, and its names
pub record IsWhole (strings : List ℕ) (items : List ItemRow) (row : TypeRow) : Type 0 where
  pub kind : IsTrue (is_kind row.kind)
  pub all : 0 < item_words row.kind → length (own_rows items row) ≡ row.items
  pub has : HasNames strings items row

-- ---- the part of the strings that the names use

-- it begins and ends within the strings, is as long as a string section may be after its first NUL, and ends with NUL if it isn't empty
pub record IsNamesPart (strings : List ℕ) (p : NamesPart) : Type 0 where
  pub order : p.start ≤ p.end
  pub inside : p.end ≤ length strings
  pub short : p.end < p.start + STRINGS_LIMIT
  pub nul : 0 < p.end → slice_index strings (p.end - 1) ≡ 0

-- the part has the name and the NUL after it, if the name isn't empty
pub record HoldsName (p : NamesPart) (at len : ℕ) : Type 0 where
  pub after : 0 < len → p.start ≤ at
  pub before : 0 < len → at + len < p.end

-- likewise the names of a type
pub record HoldsNames (p : NamesPart) (items : List ItemRow) (r : TypeRow) : Type 0 where
  pub name : HoldsName p r.name r.name_len
  pub names : All (λ i. HoldsName p i.name i.name_len) (own_rows items r)

-- ---- the file

-- the types are whole, and the plan has the names of all of them and the length of their records
pub record IsPlan (strings : List ℕ) (types : List TypeRow) (items : List ItemRow) (p : Plan) : Type 0 where
  pub whole : All (IsWhole strings items) types
  pub part : IsNamesPart strings p.names
  pub holds : All (HoldsNames p.names items) types
  pub size : p.types_len ≡ sum_by row_size types
  pub fits : p.types_len ≤ TYPES_LIMIT

-- the BTF of the types by this plan
abbrev pub plain : Plan → List TypeRow → List ItemRow → List ℕ → List ℕ
plain p types items strings =
    let section = names_section strings p.names in
    header Little 24 0 p.types_len p.types_len (length section) ++ section_of Little (frames p.names.start types items) ++ section
