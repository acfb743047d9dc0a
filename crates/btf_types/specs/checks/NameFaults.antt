-- What a cause says of names and of further fields of a record.
use Rattle.std.specs.Prelude.{◌≢◌, ◌⊎◌, ℕ, ◌<◌, ◌≤◌, Bool, ◌∷◌, IsFalse, IsTrue, IsUtf8, List, [], length}
use Rattle.btf_raw.specs.{declared.cause.BtfCause.BtfCause, Names.TextAt, Kinds.one_of, Kinds.needs_name, Kinds.has_no_name}
use Rattle.btf_raw.specs.declared.cause.BtfCause.TheVariants.{NameRange, NameUtf8, NameMissing, NameUnwanted, IntWord, Reference, TargetKind, MemberInt, MemberPlace, Linkage, Component}
use Rattle.btf_types.specs.checks.Numbers.{bits_fit, member_fits, member_int_fits, component_fits, target_fits, TypeFacts, type_at}
use Rattle.btf_types.specs.checks.FieldFaults.{int_unused, int_encoding, int_bits}

abbrev pub NameFault : List ℕ → ℕ → ℕ → BtfCause → Type 0
NameFault strings kind offset NameRange = length strings ≤ offset
NameFault strings kind offset NameUtf8 = (text : List ℕ) × TextAt strings offset text × ¬ IsUtf8 text
NameFault strings kind offset NameMissing = IsTrue (needs_name kind) × TextAt strings offset []
NameFault strings kind offset NameUnwanted = IsTrue (has_no_name kind) × (text : List ℕ) × TextAt strings offset text × (text ≢ [])
NameFault strings kind offset _ = ⊥

-- what a cause says of the data that follows an INT
abbrev pub IntFault : ℕ → ℕ → BtfCause → Type 0
IntFault size word IntWord =
    (int_unused word ≢ 0) ⊎ IsFalse (one_of (0 ∷ 1 ∷ 2 ∷ 4 ∷ []) (int_encoding word)) ⊎ IsFalse (bits_fit size (int_bits word))
IntFault size word _ = ⊥

-- what a cause says of an item's name
abbrev pub ItemNameFault : List ℕ → ℕ → BtfCause → Type 0
ItemNameFault strings offset NameRange = length strings ≤ offset
ItemNameFault strings offset NameUtf8 = (text : List ℕ) × TextAt strings offset text × ¬ IsUtf8 text
ItemNameFault strings offset _ = ⊥

-- what a cause says of a type ID in a record of this kind, other than in its size or type
abbrev pub NamedTypeFault : List TypeFacts → ℕ → ℕ → BtfCause → Type 0
NamedTypeFault types kind target Reference = length types < target
NamedTypeFault types kind target TargetKind = (target ≤ length types) × IsFalse (target_fits kind ((type_at types target).kind))
NamedTypeFault types kind target _ = ⊥

-- what a cause says of the type of a member, given whether its record has bit-fields, and of its offset field
abbrev pub MemberTypeFault : List TypeFacts → Bool → ℕ → BtfCause → Type 0
MemberTypeFault types bit_fields target Reference = length types < target
MemberTypeFault types bit_fields target MemberInt = IsTrue bit_fields × IsFalse (member_int_fits types target)
MemberTypeFault types bit_fields target _ = ⊥

abbrev pub MemberPlaceFault : ℕ → ℕ → ℕ → BtfCause → Type 0
MemberPlaceFault size bit_offset width MemberPlace = IsFalse (member_fits bit_offset width size)
MemberPlaceFault size bit_offset width _ = ⊥

-- what a cause says of the linkage of a VAR, and of the component of a DECL_TAG that refers to this type
abbrev pub LinkageFault : ℕ → BtfCause → Type 0
LinkageFault word Linkage = 2 < word
LinkageFault word _ = ⊥

abbrev pub ComponentFault : List TypeFacts → ℕ → ℕ → BtfCause → Type 0
ComponentFault types target word Component = (word ≢ 0xffffffff) × IsFalse (component_fits types target word)
ComponentFault types target word _ = ⊥
