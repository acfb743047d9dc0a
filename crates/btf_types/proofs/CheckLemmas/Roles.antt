-- What each field of a record is: a name, a type ID, an offset field, and so on. What a cause says of a field follows from its role.
use Rattle.std.proofs.Common.{◌≡◌, ◌⊎◌, ℕ, ◌-◌, ◌%◌, ◌<◌, ◌≤◌, List, length, if◌then◌else◌}
use Rattle.std.specs.Prelude.{◌==◌, IsTrue, IsFalse}
use Rattle.btf_raw.specs.declared.cause.BtfCause.{BtfCause, TheVariants.Reference, TheVariants.MemberInt}
use Rattle.btf_raw.specs.KindNumbers.{INT, ARRAY, FUNC_PROTO, VAR, DATASEC, DECL_TAG}
use Rattle.btf_raw.specs.Kinds.{item_words, has_item_names, is_struct}
use Rattle.btf_types.specs.checks.Numbers.{TypeFacts, type_at, member_int_fits, SecondFault, ThirdFault}
use Rattle.btf_types.specs.checks.FieldFaults.{HasBitFields, offset_in, width_in}
use Rattle.btf_types.specs.checks.NameFaults.{NameFault, IntFault, LinkageFault, ComponentFault, ItemNameFault, NamedTypeFault, MemberPlaceFault}

pub data Role : Type 0 where
  OwnName : Role
  Info : Role
  Third : Role
  IntWord : Role
  Linkage : Role
  Component : Role
  ItemName : Role
  NamedType : Role
  MemberType : Role
  MemberPlace : Role
  Free : Role

-- the index of field j in its item; without items, its index after the first three
abbrev pub word_in_item : ℕ → ℕ → ℕ
word_in_item kind j = if item_words kind == 0 then j - 3 else (j - 3) % item_words kind

-- what field m of an item, or of a tail without items, is known to be
abbrev pub PartIs : ℕ → ℕ → Role → Type 0
PartIs kind m OwnName = ⊥
PartIs kind m Info = ⊥
PartIs kind m Third = ⊥
PartIs kind m IntWord = kind ≡ INT
PartIs kind m Linkage = kind ≡ VAR
PartIs kind m Component = kind ≡ DECL_TAG
PartIs kind m ItemName = IsTrue (has_item_names kind) × (m ≡ 0)
PartIs kind m NamedType = ((kind ≡ ARRAY) × (m < 2)) ⊎ ((kind ≡ FUNC_PROTO) × (0 < m)) ⊎ ((kind ≡ DATASEC) × (m ≡ 0))
PartIs kind m MemberType = IsTrue (is_struct kind) × (m ≡ 1)
PartIs kind m MemberPlace = IsTrue (is_struct kind) × (1 < m)
PartIs kind m Free = Unit {0}

-- it has this role: it is that, and whatever it is has this role
pub record PartHasRole (kind m : ℕ) (role : Role) : Type 0 where
  pub is : PartIs kind m role
  pub int : kind ≡ INT → role ≡ IntWord
  pub var : kind ≡ VAR → role ≡ Linkage
  pub tag : kind ≡ DECL_TAG → role ≡ Component
  pub name : IsTrue (has_item_names kind) → m ≡ 0 → role ≡ ItemName
  pub array : kind ≡ ARRAY → m < 2 → role ≡ NamedType
  pub param : kind ≡ FUNC_PROTO → m ≡ 1 → role ≡ NamedType
  pub entry : kind ≡ DATASEC → m ≡ 0 → role ≡ NamedType
  pub member : IsTrue (is_struct kind) → m ≡ 1 → role ≡ MemberType
  pub at_offset : IsTrue (is_struct kind) → m ≡ 2 → role ≡ MemberPlace

-- likewise for field j of a complete record
abbrev pub RoleIs : ℕ → ℕ → Role → Type 0
RoleIs kind j OwnName = j ≡ 0
RoleIs kind j Info = j ≡ 1
RoleIs kind j Third = j ≡ 2
RoleIs kind j role = (3 ≤ j) × PartIs kind (word_in_item kind j) role

pub record HasRole (kind j : ℕ) (role : Role) : Type 0 where
  pub is : RoleIs kind j role
  pub name : j ≡ 0 → role ≡ OwnName
  pub info : j ≡ 1 → role ≡ Info
  pub third : j ≡ 2 → role ≡ Third
  pub tail : 3 ≤ j → PartHasRole kind (word_in_item kind j) role

-- what a cause says of a member's type in a record of these fields
abbrev pub TypeOfMemberFault : List TypeFacts → List ℕ → ℕ → BtfCause → Type 0
TypeOfMemberFault types frame target Reference = length types < target
TypeOfMemberFault types frame target MemberInt = HasBitFields frame × IsFalse (member_int_fits types target)
TypeOfMemberFault types frame target _ = ⊥

-- what a cause says of a field that has this role, in a record of these fields with this kind, vlen, kind_flag and type
abbrev pub RoleFault : List ℕ → List TypeFacts → List ℕ → ℕ → ℕ → ℕ → ℕ → ℕ → Role → BtfCause → Type 0
RoleFault strings types frame its_kind count its_flag third word OwnName c = NameFault strings its_kind word c
RoleFault strings types frame its_kind count its_flag third word Info c = SecondFault its_kind count c
RoleFault strings types frame its_kind count its_flag third word Third c =
    ThirdFault its_kind word count (length types) ((type_at types word).kind) c
RoleFault strings types frame its_kind count its_flag third word IntWord c = IntFault third word c
RoleFault strings types frame its_kind count its_flag third word Linkage c = LinkageFault word c
RoleFault strings types frame its_kind count its_flag third word Component c = ComponentFault types third word c
RoleFault strings types frame its_kind count its_flag third word ItemName c = ItemNameFault strings word c
RoleFault strings types frame its_kind count its_flag third word NamedType c = NamedTypeFault types its_kind word c
RoleFault strings types frame its_kind count its_flag third word MemberType c = TypeOfMemberFault types frame word c
RoleFault strings types frame its_kind count its_flag third word MemberPlace c =
    MemberPlaceFault third (offset_in its_flag word) (width_in its_flag word) c
RoleFault strings types frame its_kind count its_flag third word Free c = ⊥
