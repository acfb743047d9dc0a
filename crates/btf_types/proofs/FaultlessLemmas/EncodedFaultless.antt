-- A frame that encodes a valid record has no fault.
use Rattle.std.proofs.Common.{◌≡◌, ◌≢◌, ◌⊎◌, ℕ, zero, suc, ◌+◌, ◌*◌, ◌/◌, ◌%◌, ◌^◌, ◌<◌, ◌≤◌, Bool, true, Some, None, List, [], ◌∷◌, length, get_or, refl, sym, ap, subst, ◌∙◌, inl, inr, lit<, lit≤, arith}
use Rattle.std.specs.Prelude.{⊤, IsTrue, IsUtf8, slice_index, ◌==◌, not, if◌then◌else◌}
use Rattle.std.specs.List.{All}
use Rattle.std.proofs.lemmas.List.Elements.{All-head, All-tail}
use Rattle.btf_raw.specs.{declared.cause.BtfCause.BtfCause, Names.TextAt, Names.NameAt}
use Rattle.btf_raw.specs.declared.cause.BtfCause.TheVariants.{NameRange, NameUtf8, NameMissing, NameUnwanted, NotZero, Size, Reference, TargetKind, IntWord, MemberInt, MemberPlace, Linkage, Component}
use Rattle.btf_raw.specs.KindNumbers.{INT, ARRAY, STRUCT, UNION, FWD, FUNC, FUNC_PROTO, VAR, DATASEC, DECL_TAG}
use Rattle.btf_raw.specs.Kinds.{one_of, item_words, needs_name, has_no_name, has_target, has_item_names, is_struct}
use Rattle.btf_raw.specs.Frames.{kind, vlen, flag, name_word, third_word}
use Rattle.btf_raw.proofs.Texts.{TextAt-unique, TextAt-inside}
use Rattle.btf_types.specs.declared.values.Encoding.{Encoding, TheVariants.Plain, TheVariants.Signed, TheVariants.Char, TheVariants.Bool as Boolean}
use Rattle.btf_types.specs.declared.values.Linkage.{Linkage as ItsLinkage, TheVariants.LStatic, TheVariants.LGlobal, TheVariants.LExtern}
use Rattle.btf_types.specs.Values.{TypeHead, KInt, KPtr, KArray, KStruct, KUnion, KEnum, KFwd, KTypedef, KFunc, KFuncProto, KVar, KDatasec, KDeclTag, KTypeTag, KEnum64, TypeItem, Member, EnumValue, Value64, Param, Entry, TypeRecord}
use Rattle.btf_types.specs.Names.{head_name, item_name}
use Rattle.btf_types.specs.Encoding.{kind_number, head_third, head_tail, linkage_number, encoding_number, MemberWord, ItemEncodes, Encodes, HeadInRange}
use Rattle.btf_types.specs.checks.Numbers.{TypeFacts, size_fits, bits_fit, component_fits, member_fits, member_int_fits}
use Rattle.btf_types.specs.Valid as valid
use Rattle.btf_types.specs.Valid.{HasNeededName, HeadIsValid, ItemOf, head_targets, item_targets, has_width, has_bit_fields, TargetIsValid, MemberIsValid, IsValidRecord, facts_of}
use Rattle.btf_types.specs.checks.FieldFaults.{IsNameField, IsTypeField, IsMemberWord, HasBitFields, int_unused, int_encoding, int_offset, int_bits, frame_facts, WordFault}
use Rattle.std.proofs.lemmas.Bool.{ne_eqb}
use Rattle.btf_types.proofs.{KindCases.one_among, Encoded.vlen_from, Encoded.no_items, Members.Has-get_or, Members.any_from_Has}
use Rattle.btf_types.proofs.CheckLemmas.RoleSteps.{named_words, struct_size, datasec_size}
use Rattle.btf_types.proofs.{Encoded.IsNumbers, Encoded.numbers, Denoting.tail_word}
use Rattle.btf_types.proofs.EncodedItems.{nothing, ItemFits, item_fits}

-- ---- what a head says of its numbers

names_are : (h : TypeHead) → head_name h ≡ (if has_no_name (kind_number h) then [] else head_name h)
unfolding has_no_name
names_are (KPtr target) = refl
names_are h = refl

no_name_there : (h : TypeHead) → IsTrue (has_no_name (kind_number h)) → head_name h ≡ []
no_name_there h none = names_are h ∙ rw none refl

name_needed : (h : TypeHead) → IsTrue (needs_name (kind_number h)) → HasNeededName h → head_name h ≢ []
unfolding needs_name
name_needed (KFwd name is_union) needs named = named
name_needed (KTypedef name target) needs named = named
name_needed (KFunc name linkage target) needs named = named
name_needed (KVar name target linkage) needs named = named
name_needed (KDatasec name size) needs named = named
name_needed (KDeclTag name flag target component) needs named = named
name_needed (KTypeTag name flag target) needs named = named
name_needed _ needs named = absurd cc

no_third : (h : TypeHead) → IsTrue (one_of (ARRAY ∷ FWD ∷ []) (kind_number h)) → head_third h ≡ 0
no_third (KArray target index count) none = refl
no_third (KFwd name is_union) none = refl
no_third h none = absurd cc

targets_are : (h : TypeHead) → head_targets h ≡ (if has_target (kind_number h) then head_third h ∷ [] else head_targets h)
unfolding has_target
targets_are (KPtr target) = refl
targets_are h = refl

third_target : (P : ℕ → Type 0) (h : TypeHead) → IsTrue (has_target (kind_number h)) → All P (head_targets h) → P (head_third h)
third_target P h has all = All-head P (head_third h) [] (rw (targets_are h, has) at all)

array_targets : (P : ℕ → Type 0) (h : TypeHead) → kind_number h ≡ ARRAY → All P (head_targets h) → P (get_or (head_tail h) 0 0) × P (get_or (head_tail h) 1 0) × (1 < length (head_tail h))
array_targets P (KArray target index count) is all = (All-head P target (index ∷ []) all, All-head P index [] (All-tail P target (index ∷ []) all), lit< tt)
array_targets P h is all = absurd (omega arith)

-- the size is checked against vlen, which counts the items
size_of_vlen : (h : TypeHead) (xs : List TypeItem) → IsTrue (size_fits (kind_number h) (head_third h) (length xs)) → IsTrue (size_fits (kind_number h) (head_third h) (vlen_from h xs))
unfolding size_fits
size_of_vlen (KFunc name linkage target) xs fits = refl
size_of_vlen h xs fits = fits

encoding_named : (e : Encoding) → (encoding_number e < 16) × IsTrue (one_of (0 ∷ 1 ∷ 2 ∷ 4 ∷ []) (encoding_number e))
encoding_named Plain = (lit< tt, refl)
encoding_named Signed = (lit< tt, refl)
encoding_named Char = (lit< tt, refl)
encoding_named Boolean = (lit< tt, refl)

linkage_named : (l : ItsLinkage) → linkage_number l ≤ 2
linkage_named LStatic = lit≤ tt
linkage_named LGlobal = lit≤ tt
linkage_named LExtern = lit≤ tt

-- the data that follows an INT
pub record IntFits (h : TypeHead) (w : ℕ) : Type 0 where
  pub inside : 0 < length (head_tail h)
  pub unused : int_unused w ≡ 0
  pub encoding : IsTrue (one_of (0 ∷ 1 ∷ 2 ∷ 4 ∷ []) (int_encoding w))
  pub bits : IsTrue (bits_fit (head_third h) (int_bits w))
  pub offset_is : int_offset w ≡ valid.head_int_offset h
  pub bits_is : int_bits w ≡ valid.head_int_bits h

int_fits : (types : List TypeFacts) (h : TypeHead) → kind_number h ≡ INT → HeadInRange h → HeadIsValid types h → IntFits h (get_or (head_tail h) 0 0)
int_fits types (KInt name size encoding offset bits) is range right =
    let e = encoding_named encoding in
    let w = bits + 2 ^ 16 * offset + 2 ^ 24 * encoding_number encoding in
    let enc : int_encoding w ≡ encoding_number encoding = omega (arith, e.0, range.1, range.2) in
    let off : int_offset w ≡ offset = omega (arith, e.0, range.1, range.2) in
    let bit : int_bits w ≡ bits = omega (arith, e.0, range.1, range.2) in
    record {
      inside = lit< tt;
      unused = omega (arith, e.0, range.1, range.2);
      encoding = rw enc e.1;
      bits = rw bit right;
      offset_is = off;
      bits_is = bit;
    }
int_fits types h is range right = absurd (omega arith)

func_vlen : (h : TypeHead) (xs : List TypeItem) → kind_number h ≡ FUNC → vlen_from h xs ≤ 2
func_vlen (KFunc name linkage target) xs is = linkage_named linkage
func_vlen h xs is = absurd (omega arith)

var_word : (h : TypeHead) → kind_number h ≡ VAR → (0 < length (head_tail h)) × (get_or (head_tail h) 0 0 ≤ 2)
var_word (KVar name target linkage) is = (lit< tt, linkage_named linkage)
var_word h is = absurd (omega arith)

tag_word : (types : List TypeFacts) (h : TypeHead) → kind_number h ≡ DECL_TAG → HeadIsValid types h → (0 < length (head_tail h)) × ((get_or (head_tail h) 0 0 ≡ 0xffffffff) ⊎ IsTrue (component_fits types (head_third h) (get_or (head_tail h) 0 0)))
tag_word types (KDeclTag name flag target None) is right = (lit< tt, inl refl)
tag_word types (KDeclTag name flag target (Some c)) is right = (lit< tt, inr right)
tag_word types h is right = absurd (omega arith)

-- what other records ask of it
count_facts : (h : TypeHead) (xs : List TypeItem) → All (ItemOf h) xs → length xs ≡ (if kind_number h == FUNC then 0 else vlen_from h xs)
count_facts (KFunc name linkage target) xs of = no_items (KFunc name linkage target) xs (λ x o. o) of
count_facts h xs of = refl

offset_facts : (h : TypeHead) (offset : ℕ) → (kind_number h ≡ INT → offset ≡ valid.head_int_offset h) → valid.head_int_offset h ≡ (if kind_number h == INT then offset else 0)
offset_facts (KInt name size encoding its_offset bits) offset is = sym (is refl)
offset_facts h offset is = refl

bits_facts : (h : TypeHead) (bits : ℕ) → (kind_number h ≡ INT → bits ≡ valid.head_int_bits h) → valid.head_int_bits h ≡ (if kind_number h == INT then bits else 0)
bits_facts (KInt name size encoding offset its_bits) bits is = sym (is refl)
bits_facts h bits is = refl

-- ---- what an item says of its fields

record ItemSays (P : ℕ → Type 0) (strings : List ℕ) (k : ℕ) (x : TypeItem) (ws : List ℕ) : Type 0 where
  name : IsTrue (has_item_names k) → NameAt strings (get_or ws 0 0) (item_name x)
  target : IsTrue (one_of (STRUCT ∷ UNION ∷ FUNC_PROTO ∷ []) k) → All P (item_targets x) → P (get_or ws 1 0)
  entry : k ≡ DATASEC → All P (item_targets x) → P (get_or ws 0 0)

item_says : (P : ℕ → Type 0) (strings : List ℕ) (flag : ℕ) (h : TypeHead) (x : TypeItem) (ws : List ℕ) → ItemOf h x → ItemEncodes strings flag x ws → ItemSays P strings (kind_number h) x ws
unfolding has_item_names
item_says P strings flag (KStruct name size) (Member n t o w) ws of s =
    record { name = λ has. rw s.4 s.2; target = λ has all. rw s.4 (All-head P t [] all); entry = λ is. absurd (omega arith) }
item_says P strings flag (KUnion name size) (Member n t o w) ws of s =
    record { name = λ has. rw s.4 s.2; target = λ has all. rw s.4 (All-head P t [] all); entry = λ is. absurd (omega arith) }
item_says P strings flag (KEnum name signed size) (EnumValue n v) ws of s =
    record { name = λ has. rw s.2 s.1; target = λ has. absurd cc; entry = λ is. absurd (omega arith) }
item_says P strings flag (KFuncProto target) (Param n t) ws of s =
    record { name = λ has. rw s.2 s.1; target = λ has all. rw s.2 (All-head P t [] all); entry = λ is. absurd (omega arith) }
item_says P strings flag (KDatasec name size) (Entry a b c) ws of s =
    record { name = λ has. absurd cc; target = λ has. absurd cc; entry = λ is all. rw s (All-head P a [] all) }
item_says P strings flag (KEnum64 name signed size) (Value64 n v) ws of s =
    record { name = λ has. rw s.2 s.1; target = λ has. absurd cc; entry = λ is. absurd (omega arith) }
item_says P strings flag h x ws of s = absurd of

-- a member's fields
record MemberSays (types : List TypeFacts) (size : ℕ) (bit_fields : Bool) (its_flag : ℕ) (x : TypeItem) (ws : List ℕ) : Type 0 where
  fits : IsTrue (member_fits (if its_flag == 0 then get_or ws 2 0 else get_or ws 2 0 % 2 ^ 24) (if its_flag == 0 then 0 else get_or ws 2 0 / 2 ^ 24) size)
  int : IsTrue bit_fields → IsTrue (member_int_fits types (get_or ws 1 0))
  wide : ((if its_flag == 0 then 0 else get_or ws 2 0 / 2 ^ 24) ≢ 0) → has_width x ≡ true

-- the offset field of a member, decoded again
record WordReads (its_flag offset its_width word : ℕ) : Type 0 where
  offset_is : (if its_flag == 0 then word else word % 2 ^ 24) ≡ offset
  width_is : (if its_flag == 0 then 0 else word / 2 ^ 24) ≡ its_width

word_reads : (its_flag offset its_width word : ℕ) → MemberWord its_flag offset its_width word → WordReads its_flag offset its_width word
word_reads its_flag offset its_width word (inl p) = record { offset_is = rw p.0 p.2; width_is = rw p.0 (sym p.1) }
word_reads its_flag offset its_width word (inr p) = record { offset_is = rw (p.0, p.2) (omega (arith, p.1)); width_is = rw (p.0, p.2) (omega (arith, p.1)) }

member_words : (types : List TypeFacts) (size : ℕ) (bit_fields : Bool) (strings : List ℕ) (its_flag : ℕ) (n : List ℕ) (t o w : ℕ) (ws : List ℕ)
    → ItemEncodes strings its_flag (Member n t o w) ws → MemberIsValid types size bit_fields (Member n t o w) → MemberSays types size bit_fields its_flag (Member n t o w) ws
member_words types size bit_fields strings its_flag n t o w ws s right =
    let reads = word_reads its_flag o w s.1 s.3 in
    record {
      fits = rw (s.4, reads.offset_is, reads.width_is) right.0;
      int = λ has. rw s.4 (right.1 has).1;
      wide = λ some. ap not (ne_eqb w 0 (λ e. some (rw (s.4, reads.width_is) e)));
    }

member_says : (types : List TypeFacts) (size : ℕ) (bit_fields : Bool) (strings : List ℕ) (its_flag : ℕ) (h : TypeHead) (x : TypeItem) (ws : List ℕ)
    → ItemOf h x → ItemEncodes strings its_flag x ws → IsTrue (is_struct (kind_number h)) → MemberIsValid types size bit_fields x → MemberSays types size bit_fields its_flag x ws
member_says types size bit_fields strings its_flag (KStruct name s) (Member n t o w) ws of encodes has right = member_words types size bit_fields strings its_flag n t o w ws encodes right
member_says types size bit_fields strings its_flag (KUnion name s) (Member n t o w) ws of encodes has right = member_words types size bit_fields strings its_flag n t o w ws encodes right
member_says types size bit_fields strings its_flag (KEnum name signed s) (EnumValue n v) ws of encodes has right = absurd cc
member_says types size bit_fields strings its_flag (KFuncProto target) (Param n t) ws of encodes has right = absurd cc
member_says types size bit_fields strings its_flag (KDatasec name s) (Entry a b c) ws of encodes has right = absurd cc
member_says types size bit_fields strings its_flag (KEnum64 name signed s) (Value64 n v) ws of encodes has right = absurd cc
member_says types size bit_fields strings its_flag h x ws of encodes has right = absurd of

-- kinds whose records have items
words_of_typed : (k : ℕ) → IsTrue (one_of (STRUCT ∷ UNION ∷ FUNC_PROTO ∷ []) k) → 1 < item_words k
unfolding item_words
words_of_typed k has = one_among (λ m. 1 < item_words m) (STRUCT ∷ UNION ∷ FUNC_PROTO ∷ []) k (lit< tt, (lit< tt, (lit< tt, tt))) has

-- a name at an offset has neither NameRange nor NameUtf8
name_inside : (strings : List ℕ) (offset : ℕ) (x : List ℕ) → NameAt strings offset x → ¬ (length strings ≤ offset)
name_inside strings offset x at past = let low = TextAt-inside strings offset x at.text in omega arith

name_utf8 : (strings : List ℕ) (offset : ℕ) (x text : List ℕ) → NameAt strings offset x → TextAt strings offset text → IsUtf8 text
name_utf8 strings offset x text at other = subst (λ (t : List ℕ). IsUtf8 t) (TextAt-unique strings offset x text at.text other) at.utf8

module _ (strings : List ℕ) (types : List TypeFacts) (r : TypeRecord) (f : List ℕ) (right : IsValidRecord types r) (s : Encodes strings r f) where
  n : IsNumbers r f s.flag s.name_offset
  n = numbers strings types r f right s

  own_name : NameAt strings (name_word f) (head_name r.head)
  own_name = rw n.name s.name

  is_there : (i : ℕ) → 0 < item_words (kind f) → i < vlen f → ItemFits strings r f i (get_or s.item_words i [])
  is_there i some low = item_fits strings types r f right s i some low

  -- the name at each name field
  field_name : (m j : ℕ) → IsNameField f m j → (x : List ℕ) × NameAt strings (slice_index f j) x
  field_name zero j at = (head_name r.head, subst (λ (k : ℕ). NameAt strings (slice_index f k) (head_name r.head)) (sym at) own_name)
  field_name (suc i) j at =
      let some = named_words (kind f) at.0 in
      let it = is_there i some at.1.0 in
      let word : slice_index f j ≡ get_or (get_or s.item_words i []) 0 0 = ap (λ (k : ℕ). slice_index f k) at.1.1 ∙ it.words 0 some in
      (item_name (get_or r.items i nothing), rw word ((item_says (λ t. ⊤) strings (flag f) r.head (get_or r.items i nothing) (get_or s.item_words i []) it.of it.encodes).name (rw n.kind at at.0)))

  -- the type at each type field
  abbrev Target : ℕ → Type 0
  Target = TargetIsValid types (kind_number r.head)

  field_type : (j : ℕ) → IsTypeField f j → Target (slice_index f j)
  field_type j (inl third) =
      let word : slice_index f j ≡ head_third r.head = ap (λ (k : ℕ). slice_index f k) third.1 ∙ n.third in
      rw word (third_target Target r.head (rw n.kind at third.0) right.head_targets)
  field_type j (inr (inl array)) =
      let all = array_targets Target r.head (sym n.kind ∙ array.0) right.head_targets in
      let long = all.2 in
      elim array.1 [
        | inl e ↦ rw (ap (λ (k : ℕ). slice_index f k) e ∙ tail_word strings r f s 0 (omega arith)) all.0
        | inr e ↦ rw (ap (λ (k : ℕ). slice_index f k) e ∙ tail_word strings r f s 1 long) all.1
      ]
  field_type j (inr (inr (inl item))) =
      let some = words_of_typed (kind f) item.0 in
      let it = is_there item.1 (omega arith) item.2.0 in
      let word : slice_index f j ≡ get_or (get_or s.item_words item.1 []) 1 0 = ap (λ (k : ℕ). slice_index f k) item.2.1 ∙ it.words 1 some in
      rw word ((item_says Target strings (flag f) r.head (get_or r.items item.1 nothing) (get_or s.item_words item.1 []) it.of it.encodes).target (rw n.kind at item.0) (right.item_targets item.1 nothing it.inside))
  field_type j (inr (inr (inr entry))) =
      let some : 0 < item_words (kind f) = omega (arith, datasec_size (kind f) entry.0) in
      let it = is_there entry.1 some entry.2.0 in
      let word : slice_index f j ≡ get_or (get_or s.item_words entry.1 []) 0 0 = ap (λ (k : ℕ). slice_index f k) entry.2.1 ∙ it.words 0 some in
      rw word ((item_says Target strings (flag f) r.head (get_or r.items entry.1 nothing) (get_or s.item_words entry.1 []) it.of it.encodes).entry (sym n.kind ∙ entry.0) (right.item_targets entry.1 nothing it.inside))

  -- the members
  member_at : (m j : ℕ) (at : IsMemberWord f m j) → MemberSays types (head_third r.head) (has_bit_fields r) (flag f) (get_or r.items at.1 nothing) (get_or s.item_words at.1 [])
  member_at m j at =
      let some = struct_size (kind f) at.0 in
      let it = is_there at.1 (omega arith) at.2.0 in
      member_says types (head_third r.head) (has_bit_fields r) strings (flag f) r.head (get_or r.items at.1 nothing) (get_or s.item_words at.1 []) it.of it.encodes (rw n.kind at at.0) (right.members at.1 nothing it.inside)

  member_word_is : (m j : ℕ) (at : IsMemberWord f m j) → m < 3 → slice_index f j ≡ get_or (get_or s.item_words at.1 []) m 0
  member_word_is m j at low =
      let some = struct_size (kind f) at.0 in
      let it = is_there at.1 (omega arith) at.2.0 in
      ap (λ (k : ℕ). slice_index f k) at.2.1 ∙ it.words m (omega arith)

  bit_fields_are : HasBitFields f → IsTrue (has_bit_fields r)
  bit_fields_are has =
      let says = member_at 2 has.0 has.1 in
      let word = member_word_is 2 has.0 has.1 (lit< tt) in
      let it = is_there has.1.1 (let some = struct_size (kind f) has.1.0 in omega arith) has.1.2.0 in
      any_from_Has has_width r.items (get_or r.items has.1.1 nothing) (Has-get_or r.items has.1.1 nothing it.inside) (says.wide (λ e. has.2 (rw word e)))

  pub encoded_faultless : (j : ℕ) (c : BtfCause) → ¬ WordFault strings types f j c
  encoded_faultless j NameRange fault = let name = field_name fault.0 j fault.1 in name_inside strings (slice_index f j) name.0 name.1 fault.2
  encoded_faultless j NameUtf8 fault = let name = field_name fault.0 j fault.1 in fault.4 (name_utf8 strings (slice_index f j) name.0 fault.2 name.1 fault.3)
  encoded_faultless j NameMissing fault = name_needed r.head (rw n.kind at fault.1) right.named (TextAt-unique strings (name_word f) (head_name r.head) [] own_name.text fault.2)
  encoded_faultless j NameUnwanted fault = fault.4 (TextAt-unique strings (name_word f) fault.2 (head_name r.head) fault.3 own_name.text ∙ no_name_there r.head (rw n.kind at fault.1))
  encoded_faultless j NotZero fault = fault.2 (n.third ∙ no_third r.head (rw n.kind at fault.1))
  encoded_faultless j Size fault =
      let fits = size_of_vlen r.head r.items right.size in
      let fails = rw (n.kind, n.third, n.vlen) at fault.1 in
      absurd cc
  encoded_faultless j Reference fault = let target = field_type j fault.0 in omega (arith, target.known, fault.1)
  encoded_faultless j TargetKind fault =
      let target = field_type j fault.0 in
      let fits = target.fits in
      let fails = rw n.kind at fault.2 in
      absurd cc
  encoded_faultless j IntWord fault =
      let int = int_fits types r.head (sym n.kind ∙ fault.1) right.head_in_range right.head in
      let word : slice_index f 3 ≡ get_or (head_tail r.head) 0 0 = tail_word strings r f s 0 int.inside in
      elim fault.2 [
        | inl some ↦ some (ap (λ (w : ℕ). int_unused w) word ∙ int.unused)
        | inr rest ↦ elim rest [
          | inl code ↦ let fails = rw word at code in let passes = int.encoding in absurd cc
          | inr bits ↦ let fails = rw (word, n.third) at bits in let passes = int.bits in absurd cc
        ]
      ]
  encoded_faultless j MemberInt fault =
      let passes = (member_at 1 j fault.0).int (bit_fields_are fault.1) in
      let fails = rw (member_word_is 1 j fault.0 (lit< tt)) at fault.2 in
      absurd cc
  encoded_faultless j MemberPlace fault =
      let passes = (member_at 2 j fault.0).fits in
      let fails = rw (member_word_is 2 j fault.0 (lit< tt), n.third) at fault.1 in
      absurd cc
  encoded_faultless j Linkage (inl func) = let low = func_vlen r.head r.items (sym n.kind ∙ func.0) in omega (arith, n.vlen, func.2)
  encoded_faultless j Linkage (inr var) =
      let linkage = var_word r.head (sym n.kind ∙ var.0) in
      omega (arith, tail_word strings r f s 0 linkage.0, linkage.1, var.2)
  encoded_faultless j Component fault =
      let tag = tag_word types r.head (sym n.kind ∙ fault.0) right.head in
      let word : slice_index f 3 ≡ get_or (head_tail r.head) 0 0 = tail_word strings r f s 0 tag.0 in
      elim tag.1 [
        | inl none ↦ fault.2 (word ∙ none)
        | inr passes ↦ let fails = rw (word, n.third) at fault.3 in absurd cc
      ]
  encoded_faultless j c fault = absurd fault

  -- the facts that other records need are in its fields
  pub encoded_facts : facts_of r ≡ frame_facts f
  encoded_facts =
      let its_kind : kind_number r.head ≡ kind f = sym n.kind in
      let its_count : length r.items ≡ (if kind f == FUNC then 0 else vlen f) = rw (n.kind, n.vlen) (count_facts r.head r.items right.items_of) in
      let its_third : head_third r.head ≡ third_word f = sym n.third in
      let int : kind_number r.head ≡ INT → IntFits r.head (get_or (head_tail r.head) 0 0) = λ is. int_fits types r.head is right.head_in_range right.head in
      let word : kind_number r.head ≡ INT → slice_index f 3 ≡ get_or (head_tail r.head) 0 0 = λ is. tail_word strings r f s 0 (int is).inside in
      let its_offset : valid.head_int_offset r.head ≡ (if kind f == INT then int_offset (slice_index f 3) else 0) =
      rw n.kind (offset_facts r.head (int_offset (slice_index f 3)) (λ is. ap (λ (w : ℕ). int_offset w) (word is) ∙ (int is).offset_is)) in
      let its_bits : valid.head_int_bits r.head ≡ (if kind f == INT then int_bits (slice_index f 3) else 0) =
      rw n.kind (bits_facts r.head (int_bits (slice_index f 3)) (λ is. ap (λ (w : ℕ). int_bits w) (word is) ∙ (int is).bits_is)) in
      rw (its_kind, its_count, its_third, its_offset, its_bits) refl
