-- What a cause says of a field is what it says of the field's role.
use Rattle.std.proofs.Common.{◌≡◌, ◌⊎◌, ℕ, zero, suc, ◌+◌, ◌-◌, ◌*◌, ◌/◌, ◌%◌, ◌<◌, ◌≤◌, Bool, true, Option, List, [], ◌∷◌, length, refl, ◌∙◌, inl, inr, lit<, arith}
use Rattle.std.specs.Prelude.{IsTrue, slice_index}
use Rattle.std.proofs.lemmas.Bool.{cases_lt}
use Rattle.btf_raw.specs.declared.cause.BtfCause.{BtfCause}
use Rattle.btf_raw.specs.declared.cause.BtfCause.TheVariants.{NameRange, NameUtf8, NameMissing, NameUnwanted, NotZero, Size, Reference, TargetKind, IntWord, MemberInt, MemberPlace, Linkage, Component}
use Rattle.btf_raw.specs.KindNumbers.{INT, ARRAY, STRUCT, UNION, FUNC_PROTO, VAR, DATASEC, DECL_TAG}
use Rattle.btf_raw.specs.Kinds.{one_of, tail_words, fixed_words, item_words, has_target, has_item_names, is_struct}
use Rattle.btf_raw.specs.Frames.{IsFrame, third_word, kind, vlen, flag}
use Rattle.btf_types.specs.checks.Numbers.{target_fits, TypeFacts, type_at, IsLeastOf}
use Rattle.btf_types.specs.checks.FieldFaults.{WordFault, IsTypeField, IsNameField, IsMemberWord, IsItemWord}
use Rattle.btf_types.specs.Sections.{SectionWords, facts_in}
use Rattle.btf_types.specs.checks.{RecordFaults.FaultInWord, RecordFaults.BitFieldsAre, NameFaults.MemberTypeFault}
use Rattle.btf_types.proofs.CheckLemmas.Checking.{checked_same}
use Rattle.btf_types.proofs.KindCases.{one_among, named_kind, KindIs, IsInt, IsArray, IsStruct, IsUnion, IsEnum, IsFuncProto, IsVar, IsDeclTag, IsEnum64}
use Rattle.btf_types.proofs.CheckLemmas.Roles as roles
use Rattle.btf_types.proofs.CheckLemmas.Roles.{Role, word_in_item, PartIs, RoleIs, HasRole, TypeOfMemberFault, RoleFault}

-- ---- the sizes of items

abbrev pub TwoOrThree : ℕ → Type 0
TwoOrThree w = (w ≡ 2) ⊎ (w ≡ 3)

pub struct_size : (κ : ℕ) → IsTrue (is_struct κ) → item_words κ ≡ 3
unfolding item_words
struct_size κ h = one_among (λ k. item_words k ≡ 3) (STRUCT ∷ UNION ∷ []) κ (refl, (refl, tt)) h

size_of_named : {κ : ℕ} → KindIs κ → IsTrue (has_item_names κ) → TwoOrThree (item_words κ)
unfolding has_item_names item_words
size_of_named IsStruct h = inr refl
size_of_named IsUnion h = inr refl
size_of_named IsEnum h = inl refl
size_of_named IsFuncProto h = inl refl
size_of_named IsEnum64 h = inr refl
size_of_named known h = absurd cc

item_size : (κ : ℕ) → IsTrue (has_item_names κ) → TwoOrThree (item_words κ)
item_size κ h = size_of_named (named_kind κ h) h

pub named_words : (κ : ℕ) → IsTrue (has_item_names κ) → 0 < item_words κ
named_words κ h = elim (item_size κ h) [ inl two ↦ omega arith | inr three ↦ omega arith ]

pub struct_fixed : (κ : ℕ) → IsTrue (is_struct κ) → fixed_words κ ≡ 0
unfolding fixed_words
struct_fixed κ h = one_among (λ k. fixed_words k ≡ 0) (STRUCT ∷ UNION ∷ []) κ (refl, (refl, tt)) h

fixed_of_named : {κ : ℕ} → KindIs κ → IsTrue (has_item_names κ) → fixed_words κ ≡ 0
unfolding has_item_names fixed_words
fixed_of_named IsInt h = absurd cc
fixed_of_named IsArray h = absurd cc
fixed_of_named IsVar h = absurd cc
fixed_of_named IsDeclTag h = absurd cc
fixed_of_named known h = refl

named_fixed : (κ : ℕ) → IsTrue (has_item_names κ) → fixed_words κ ≡ 0
named_fixed κ h = fixed_of_named (named_kind κ h) h

-- a member's type may be any
struct_fits_any : (κ target : ℕ) → IsTrue (is_struct κ) → target_fits κ target ≡ true
unfolding target_fits
struct_fits_any κ target h = one_among (λ k. target_fits k target ≡ true) (STRUCT ∷ UNION ∷ []) κ (refl, (refl, tt)) h

struct_is_typed : (κ : ℕ) → IsTrue (is_struct κ) → IsTrue (one_of (STRUCT ∷ UNION ∷ FUNC_PROTO ∷ []) κ)
struct_is_typed κ h = one_among (λ k. IsTrue (one_of (STRUCT ∷ UNION ∷ FUNC_PROTO ∷ []) k)) (STRUCT ∷ UNION ∷ []) κ (refl, (refl, tt)) h

struct_or_proto : (κ : ℕ) → IsTrue (one_of (STRUCT ∷ UNION ∷ FUNC_PROTO ∷ []) κ) → IsTrue (is_struct κ) ⊎ (κ ≡ FUNC_PROTO)
struct_or_proto κ h = one_among (λ k. IsTrue (is_struct k) ⊎ (k ≡ FUNC_PROTO)) (STRUCT ∷ UNION ∷ FUNC_PROTO ∷ []) κ (inl refl, (inl refl, (inr refl, tt))) h

pub proto_size : (κ : ℕ) → κ ≡ FUNC_PROTO → item_words κ ≡ 2
unfolding item_words
proto_size κ e = rw e refl

pub datasec_size : (κ : ℕ) → κ ≡ DATASEC → item_words κ ≡ 3
unfolding item_words
datasec_size κ e = rw e refl

array_size : (κ : ℕ) → κ ≡ ARRAY → item_words κ ≡ 0
unfolding item_words
array_size κ e = rw e refl

pub one_word : (κ v : ℕ) → (κ ≡ INT) ⊎ (κ ≡ VAR) ⊎ (κ ≡ DECL_TAG) → 3 + tail_words κ v ≡ 4
unfolding tail_words fixed_words item_words
one_word κ v (inl e) = rw e (omega arith)
one_word κ v (inr (inl e)) = rw e (omega arith)
one_word κ v (inr (inr e)) = rw e (omega arith)

-- field m of an item, from its index in the record, and back
pub part_is : (κ k m j : ℕ) → TwoOrThree (item_words κ) → m < item_words κ → j ≡ 3 + item_words κ * k + m → word_in_item κ j ≡ m
part_is κ k m j (inl two) low at = rw two (let there : j ≡ 3 + 2 * k + m = rw two at at in let less : m < 2 = rw two at low in omega arith)
part_is κ k m j (inr three) low at = rw three (let there : j ≡ 3 + 3 * k + m = rw three at at in let less : m < 3 = rw three at low in omega arith)

record ItemWord (κ v m j : ℕ) : Type 0 where
  k : ℕ
  low : k < v
  at : j ≡ 3 + item_words κ * k + m

item_word : (κ v m j : ℕ) → TwoOrThree (item_words κ) → 3 ≤ j → j < 3 + item_words κ * v → word_in_item κ j ≡ m → ItemWord κ v m j
item_word κ v m j (inl two) past inside is =
    let there : (j - 3) % 2 ≡ m = rw two at is in
    let room : j < 3 + 2 * v = rw two at inside in
    record { k = (j - 3) / 2; low = omega arith; at = rw two (omega arith) }
item_word κ v m j (inr three) past inside is =
    let there : (j - 3) % 3 ≡ m = rw three at is in
    let room : j < 3 + 3 * v = rw three at inside in
    record { k = (j - 3) / 3; low = omega arith; at = rw three (omega arith) }

-- a role's faults on the numbers of a frame
abbrev WordRoleFault : List ℕ → List TypeFacts → List ℕ → ℕ → Role → BtfCause → Type 0
WordRoleFault strings types frame j role c =
    RoleFault strings types frame (kind frame) (vlen frame) (flag frame) (third_word frame) (slice_index frame j) role c

-- ---- from a cause to the role

module _ (frame : List ℕ) (j : ℕ) (role : Role) (each : HasRole (kind frame) j role) where
  past_head : (w k m : ℕ) → j ≡ 3 + w * k + m → 3 ≤ j
  past_head w k m at = omega arith

  name_role : (n : ℕ) → IsNameField frame n j → (role ≡ roles.OwnName) ⊎ (role ≡ roles.ItemName)
  name_role zero field = inl (each.name field)
  name_role (suc k) field =
      let size = item_size (kind frame) field.0 in
      let first = part_is (kind frame) k 0 j size (elim size [ inl two ↦ rw two (lit< tt) | inr three ↦ rw three (lit< tt) ]) field.1.1 in
      inr ((each.tail (past_head (item_words (kind frame)) k 0 field.1.1)).name field.0 first)

  member_part : (m : ℕ) → m < 3 → (at : IsMemberWord frame m j) → (3 ≤ j) × (word_in_item (kind frame) j ≡ m)
  member_part m low at =
      let three = struct_size (kind frame) at.0 in
      (past_head (item_words (kind frame)) at.1 m at.2.1, part_is (kind frame) at.1 m j (inr three) (rw three low) at.2.1)

  member_role : IsMemberWord frame 1 j → role ≡ roles.MemberType
  member_role at = let is = member_part 1 (lit< tt) at in (each.tail is.0).member at.0 is.1

  place_role : IsMemberWord frame 2 j → role ≡ roles.MemberPlace
  place_role at = let is = member_part 2 (lit< tt) at in (each.tail is.0).at_offset at.0 is.1

  array_role : kind frame ≡ ARRAY → (j ≡ 3) ⊎ (j ≡ 4) → role ≡ roles.NamedType
  array_role array at =
      let none = array_size (kind frame) array in
      let low : 3 ≤ j = omega arith in
      let is : word_in_item (kind frame) j < 2 = rw none (omega arith) in
      (each.tail low).array array is

  entry_role : kind frame ≡ DATASEC → (k : ℕ) → IsItemWord frame k 0 j → role ≡ roles.NamedType
  entry_role datasec k at =
      let three = datasec_size (kind frame) datasec in
      (each.tail (past_head (item_words (kind frame)) k 0 at.1)).entry datasec (part_is (kind frame) k 0 j (inr three) (rw three (lit< tt)) at.1)

  param_role : kind frame ≡ FUNC_PROTO → (k : ℕ) → IsItemWord frame k 1 j → role ≡ roles.NamedType
  param_role proto k at =
      let two = proto_size (kind frame) proto in
      (each.tail (past_head (item_words (kind frame)) k 1 at.1)).param proto (part_is (kind frame) k 1 j (inl two) (rw two (lit< tt)) at.1)

  type_role : IsTypeField frame j → (IsTrue (has_target (kind frame)) × (role ≡ roles.Third)) ⊎ (role ≡ roles.NamedType) ⊎ (IsTrue (is_struct (kind frame)) × (role ≡ roles.MemberType))
  type_role (inl third) = inl (third.0, each.third third.1)
  type_role (inr (inl array)) = inr (inl (array_role array.0 array.1))
  type_role (inr (inr (inl item))) = elim (struct_or_proto (kind frame) item.0) [
    | inl s ↦ inr (inr (s, member_role (s, item.1, item.2)))
    | inr p ↦ inr (inl (param_role p item.1 item.2))
  ]
  type_role (inr (inr (inr entry))) = inr (inl (entry_role entry.0 entry.1 entry.2))

-- each cause says of the field what it says of the role
role_says : (strings : List ℕ) (types : List TypeFacts) (frame : List ℕ) (j : ℕ) (role : Role) → HasRole (kind frame) j role
    → (c : BtfCause) → WordFault strings types frame j c → WordRoleFault strings types frame j role c
role_says strings types frame j role each NameRange fault = elim (name_role frame j role each fault.0 fault.1) [
  | inl own ↦ rw own fault.2
  | inr item ↦ rw item fault.2
]
role_says strings types frame j role each NameUtf8 fault = elim (name_role frame j role each fault.0 fault.1) [
  | inl own ↦ rw own (fault.2, fault.3, fault.4)
  | inr item ↦ rw item (fault.2, fault.3, fault.4)
]
role_says strings types frame j role each NameMissing fault = rw (each.name fault.0, fault.0) (fault.1, fault.2)
role_says strings types frame j role each NameUnwanted fault = rw (each.name fault.0, fault.0) (fault.1, fault.2, fault.3, fault.4)
role_says strings types frame j role each NotZero fault = rw (each.third fault.0, fault.0) (fault.1, fault.2)
role_says strings types frame j role each Size fault = rw (each.third fault.0, fault.0) fault.1
role_says strings types frame j role each Reference fault = elim (type_role frame j role each fault.0) [
  | inl third ↦ rw third.1 (third.0, fault.1)
  | inr (inl named) ↦ rw named fault.1
  | inr (inr member) ↦ rw member.1 fault.1
]
role_says strings types frame j role each TargetKind fault = elim (type_role frame j role each fault.0) [
  | inl third ↦ rw third.1 (third.0, fault.1, fault.2)
  | inr (inl named) ↦ rw named (fault.1, fault.2)
  | inr (inr member) ↦
      let fits = struct_fits_any (kind frame) ((type_at types (slice_index frame j)).kind) member.0 in
      let not = fault.2 in
      absurd cc
]
role_says strings types frame j role each IntWord fault =
    let low : 3 ≤ j = omega (arith, fault.0) in
    rw ((each.tail low).int fault.1, fault.0) fault.2
role_says strings types frame j role each MemberInt fault = rw (member_role frame j role each fault.0) (fault.1, fault.2)
role_says strings types frame j role each MemberPlace fault = rw (place_role frame j role each fault.0) fault.1
role_says strings types frame j role each Linkage (inl func) = rw (each.info func.1) (func.0, func.2)
role_says strings types frame j role each Linkage (inr var) =
    let low : 3 ≤ j = omega (arith, var.1) in
    rw ((each.tail low).var var.0, var.1) var.2
role_says strings types frame j role each Component fault =
    let low : 3 ≤ j = omega (arith, fault.1) in
    rw ((each.tail low).tag fault.0, fault.1) (fault.2, fault.3)
role_says strings types frame j role each c fault = absurd fault

-- ---- and back

module _ (strings : List ℕ) (types : List TypeFacts) (frame : List ℕ) (j : ℕ) (is_frame : IsFrame frame) (there : j < length frame) where
  room : fixed_words (kind frame) ≡ 0 → j < 3 + item_words (kind frame) * vlen frame
  unfolding tail_words
  room none = let size = is_frame.size in omega arith

  item_name_field : IsTrue (has_item_names (kind frame)) → 3 ≤ j → word_in_item (kind frame) j ≡ 0 → (n : ℕ) × IsNameField frame n j
  item_name_field named past first =
      let at = item_word (kind frame) (vlen frame) 0 j (item_size (kind frame) named) past (room (named_fixed (kind frame) named)) first in
      (suc at.k, (named, (at.low, at.at)))

  member_field : (m : ℕ) → IsTrue (is_struct (kind frame)) → 3 ≤ j → word_in_item (kind frame) j ≡ m → IsMemberWord frame m j
  member_field m struct past is =
      let at = item_word (kind frame) (vlen frame) m j (inr (struct_size (kind frame) struct)) past (room (struct_fixed (kind frame) struct)) is in
      (struct, at.k, (at.low, at.at))

  place_part : IsTrue (is_struct (kind frame)) → 1 < word_in_item (kind frame) j → word_in_item (kind frame) j ≡ 2
  place_part struct past = let three = struct_size (kind frame) struct in rw three (let more : 1 < (j - 3) % 3 = rw three at past in omega arith)

  fourth : (κ : ℕ) → kind frame ≡ κ → 3 + tail_words κ (vlen frame) ≡ 4 → 3 ≤ j → j ≡ 3
  fourth κ is four past = let size : length frame ≡ 4 = is_frame.size ∙ rw is four in omega arith

  named_field : 3 ≤ j → PartIs (kind frame) (word_in_item (kind frame) j) roles.NamedType → IsTypeField frame j
  unfolding fixed_words
  named_field past (inl array) =
      let none = array_size (kind frame) array.0 in
      let low : j - 3 < 2 = rw none at array.1 in
      inr (inl (array.0, elim (cases_lt j 4) [ inl lt ↦ inl (omega arith) | inr le ↦ inr (omega arith) ]))
  named_field past (inr (inl param)) =
      let two = proto_size (kind frame) param.0 in
      let first : word_in_item (kind frame) j ≡ 1 = rw two (let more : 0 < (j - 3) % 2 = rw two at param.1 in omega arith) in
      let at = item_word (kind frame) (vlen frame) 1 j (inl two) past (room (rw param.0 refl)) first in
      inr (inr (inl (rw param.0 refl, at.k, (at.low, at.at))))
  named_field past (inr (inr entry)) =
      let three = datasec_size (kind frame) entry.0 in
      let at = item_word (kind frame) (vlen frame) 0 j (inr three) past (room (rw entry.0 refl)) entry.1 in
      inr (inr (inr (entry.0, at.k, (at.low, at.at))))

  member_type_field : IsMemberWord frame 1 j → IsTypeField frame j
  member_type_field at = inr (inr (inl (struct_is_typed (kind frame) at.0, at.1, at.2)))

  role_holds : (role : Role) → RoleIs (kind frame) j role → (c : BtfCause) → WordRoleFault strings types frame j role c → WordFault strings types frame j c
  role_holds roles.OwnName is NameRange fault = (0, is, fault)
  role_holds roles.OwnName is NameUtf8 fault = (0, is, fault.0, fault.1, fault.2)
  role_holds roles.OwnName is NameMissing fault = (is, fault.0, rw is at fault.1)
  role_holds roles.OwnName is NameUnwanted fault = (is, fault.0, fault.1, rw is at fault.2, fault.3)
  role_holds roles.Info is Linkage fault = inl (fault.0, is, fault.1)
  role_holds roles.Third is NotZero fault = (is, fault.0, rw is at fault.1)
  role_holds roles.Third is Size fault = (is, rw is at fault)
  role_holds roles.Third is Reference fault = (inl (fault.0, is), fault.1)
  role_holds roles.Third is TargetKind fault = (inl (fault.0, is), fault.1, fault.2)
  role_holds roles.IntWord is IntWord fault =
      let here = fourth INT is.1 (one_word INT (vlen frame) (inl refl)) is.0 in
      (here, is.1, rw here at fault)
  role_holds roles.Linkage is Linkage fault =
      let here = fourth VAR is.1 (one_word VAR (vlen frame) (inr (inl refl))) is.0 in
      inr (is.1, here, rw here at fault)
  role_holds roles.Component is Component fault =
      let here = fourth DECL_TAG is.1 (one_word DECL_TAG (vlen frame) (inr (inr refl))) is.0 in
      (is.1, here, rw here at fault.0, rw here at fault.1)
  role_holds roles.ItemName is NameRange fault = let field = item_name_field is.1.0 is.0 is.1.1 in (field.0, field.1, fault)
  role_holds roles.ItemName is NameUtf8 fault = let field = item_name_field is.1.0 is.0 is.1.1 in (field.0, field.1, fault.0, fault.1, fault.2)
  role_holds roles.NamedType is Reference fault = (named_field is.0 is.1, fault)
  role_holds roles.NamedType is TargetKind fault = (named_field is.0 is.1, fault.0, fault.1)
  role_holds roles.MemberType is Reference fault = (member_type_field (member_field 1 is.1.0 is.0 is.1.1), fault)
  role_holds roles.MemberType is MemberInt fault = (member_field 1 is.1.0 is.0 is.1.1, fault.0, fault.1)
  role_holds roles.MemberPlace is MemberPlace fault = (member_field 2 is.1.0 is.0 (place_part is.1.0 is.1.1), fault)
  role_holds role is c fault = absurd fault

-- what a cause says of the role of a field of a frame
abbrev pub FaultInRole : SectionWords → List ℕ → ℕ → Role → BtfCause → Type 0
FaultInRole s f j role c = WordRoleFault s.strings (facts_in s) f j role c

-- the least cause of a role is that of the field
pub checked : (s : SectionWords) {f : List ℕ} {j : ℕ} (role : Role) (result : Option BtfCause) → IsFrame f → j < length f → HasRole (kind f) j role
    → IsLeastOf (FaultInRole s f j role) result → IsLeastOf (FaultInWord s f j) result
checked s {f} {j} role result is there has held =
    checked_same (FaultInRole s f j role) (FaultInWord s f j) result
    (role_holds s.strings (facts_in s) f j is there role has.is) (role_says s.strings (facts_in s) f j role has) held

-- the answer of the check of a member's type
pub type_checked : (types : List TypeFacts) (frame : List ℕ) (bit_fields : Bool) (word : ℕ) (result : Option BtfCause) → BitFieldsAre frame bit_fields
    → IsLeastOf (MemberTypeFault types bit_fields word) result → IsLeastOf (TypeOfMemberFault types frame word) result
type_checked types frame bit_fields word result bits held =
    checked_same (MemberTypeFault types bit_fields word) (TypeOfMemberFault types frame word) result there back held
  where
    there : (c : BtfCause) → MemberTypeFault types bit_fields word c → TypeOfMemberFault types frame word c
    there Reference h = h
    there MemberInt h = (bits.some h.0, h.1)
    there c h = absurd h

    back : (c : BtfCause) → TypeOfMemberFault types frame word c → MemberTypeFault types bit_fields word c
    back Reference h = h
    back MemberInt h = (bits.none h.0, h.1)
    back c h = absurd h
