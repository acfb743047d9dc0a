-- The canonical bytes of worked files.
use Rattle.std.proofs.Common.{◌≡◌, ℕ, List, [], ◌∷◌, refl}
use Rattle.bpf_words.specs.declared.Order.TheVariants.{Little, Big}
use Rattle.btf_types.specs.declared.values.Encoding.TheVariants.{Signed}
use Rattle.btf_types.specs.Values.{KInt, KStruct, KTypedef, Member, TypeRecord}
use Rattle.bpf_canon.specs.btf.CanonicalBtf.{canonical}

-- a signed INT named `int` of 4 bytes and 32 bits
abbrev int_text : List ℕ
int_text = 0x69 ∷ 0x6e ∷ 0x74 ∷ []

abbrev int_record : TypeRecord
int_record = record { head = KInt int_text 4 Signed 0 32; items = [] }

pub int_little : canonical Little (int_record ∷ []) ≡
    0x9f ∷ 0xeb ∷ 1 ∷ 0 ∷ 0x18 ∷ 0 ∷ 0 ∷ 0 ∷ 0 ∷ 0 ∷ 0 ∷ 0 ∷ 0x10 ∷ 0 ∷ 0 ∷ 0 ∷ 0x10 ∷ 0 ∷ 0 ∷ 0 ∷ 5 ∷ 0 ∷ 0 ∷ 0
    ∷ 1 ∷ 0 ∷ 0 ∷ 0 ∷ 0 ∷ 0 ∷ 0 ∷ 1 ∷ 4 ∷ 0 ∷ 0 ∷ 0 ∷ 0x20 ∷ 0 ∷ 0 ∷ 1
    ∷ 0 ∷ 0x69 ∷ 0x6e ∷ 0x74 ∷ 0 ∷ []
int_little = refl

pub int_big : canonical Big (int_record ∷ []) ≡
    0xeb ∷ 0x9f ∷ 1 ∷ 0 ∷ 0 ∷ 0 ∷ 0 ∷ 0x18 ∷ 0 ∷ 0 ∷ 0 ∷ 0 ∷ 0 ∷ 0 ∷ 0 ∷ 0x10 ∷ 0 ∷ 0 ∷ 0 ∷ 0x10 ∷ 0 ∷ 0 ∷ 0 ∷ 5
    ∷ 0 ∷ 0 ∷ 0 ∷ 1 ∷ 1 ∷ 0 ∷ 0 ∷ 0 ∷ 0 ∷ 0 ∷ 0 ∷ 4 ∷ 1 ∷ 0 ∷ 0 ∷ 0x20
    ∷ 0 ∷ 0x69 ∷ 0x6e ∷ 0x74 ∷ 0 ∷ []
int_big = refl

-- three TYPEDEFs of void named `dbc`, `c` and `abc`: `c` is placed at the end of `abc`, though `dbc` comes first
abbrev three_typedefs : List TypeRecord
three_typedefs =
    record { head = KTypedef (0x64 ∷ 0x62 ∷ 0x63 ∷ []) 0; items = [] } ∷ record { head = KTypedef (0x63 ∷ []) 0; items = [] }
    ∷ record { head = KTypedef (0x61 ∷ 0x62 ∷ 0x63 ∷ []) 0; items = [] } ∷ []

pub three_little : canonical Little three_typedefs ≡
    0x9f ∷ 0xeb ∷ 1 ∷ 0 ∷ 0x18 ∷ 0 ∷ 0 ∷ 0 ∷ 0 ∷ 0 ∷ 0 ∷ 0 ∷ 0x24 ∷ 0 ∷ 0 ∷ 0 ∷ 0x24 ∷ 0 ∷ 0 ∷ 0 ∷ 9 ∷ 0 ∷ 0 ∷ 0
    ∷ 1 ∷ 0 ∷ 0 ∷ 0 ∷ 0 ∷ 0 ∷ 0 ∷ 8 ∷ 0 ∷ 0 ∷ 0 ∷ 0
    ∷ 7 ∷ 0 ∷ 0 ∷ 0 ∷ 0 ∷ 0 ∷ 0 ∷ 8 ∷ 0 ∷ 0 ∷ 0 ∷ 0
    ∷ 5 ∷ 0 ∷ 0 ∷ 0 ∷ 0 ∷ 0 ∷ 0 ∷ 8 ∷ 0 ∷ 0 ∷ 0 ∷ 0
    ∷ 0 ∷ 0x64 ∷ 0x62 ∷ 0x63 ∷ 0 ∷ 0x61 ∷ 0x62 ∷ 0x63 ∷ 0 ∷ []
three_little = refl

-- a STRUCT of 4 bytes without a name and two members of type 0: without widths its kind_flag is 0, with one it is 1
abbrev struct_of : ℕ → List TypeRecord
struct_of width = record { head = KStruct [] 4; items = Member [] 0 0 0 ∷ Member [] 0 8 width ∷ [] } ∷ []

pub plain_struct : canonical Little (struct_of 0) ≡
    0x9f ∷ 0xeb ∷ 1 ∷ 0 ∷ 0x18 ∷ 0 ∷ 0 ∷ 0 ∷ 0 ∷ 0 ∷ 0 ∷ 0 ∷ 0x24 ∷ 0 ∷ 0 ∷ 0 ∷ 0x24 ∷ 0 ∷ 0 ∷ 0 ∷ 1 ∷ 0 ∷ 0 ∷ 0
    ∷ 0 ∷ 0 ∷ 0 ∷ 0 ∷ 2 ∷ 0 ∷ 0 ∷ 4 ∷ 4 ∷ 0 ∷ 0 ∷ 0
    ∷ 0 ∷ 0 ∷ 0 ∷ 0 ∷ 0 ∷ 0 ∷ 0 ∷ 0 ∷ 0 ∷ 0 ∷ 0 ∷ 0
    ∷ 0 ∷ 0 ∷ 0 ∷ 0 ∷ 0 ∷ 0 ∷ 0 ∷ 0 ∷ 8 ∷ 0 ∷ 0 ∷ 0
    ∷ 0 ∷ []
plain_struct = refl

pub bit_field_struct : canonical Little (struct_of 3) ≡
    0x9f ∷ 0xeb ∷ 1 ∷ 0 ∷ 0x18 ∷ 0 ∷ 0 ∷ 0 ∷ 0 ∷ 0 ∷ 0 ∷ 0 ∷ 0x24 ∷ 0 ∷ 0 ∷ 0 ∷ 0x24 ∷ 0 ∷ 0 ∷ 0 ∷ 1 ∷ 0 ∷ 0 ∷ 0
    ∷ 0 ∷ 0 ∷ 0 ∷ 0 ∷ 2 ∷ 0 ∷ 0 ∷ 0x84 ∷ 4 ∷ 0 ∷ 0 ∷ 0
    ∷ 0 ∷ 0 ∷ 0 ∷ 0 ∷ 0 ∷ 0 ∷ 0 ∷ 0 ∷ 0 ∷ 0 ∷ 0 ∷ 0
    ∷ 0 ∷ 0 ∷ 0 ∷ 0 ∷ 0 ∷ 0 ∷ 0 ∷ 0 ∷ 8 ∷ 0 ∷ 0 ∷ 3
    ∷ 0 ∷ []
bit_field_struct = refl
