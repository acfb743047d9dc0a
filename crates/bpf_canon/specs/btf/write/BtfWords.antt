-- The 32-bit words that encode the parts of a record.
use Rattle.std.specs.Prelude.{◌≡◌, ◌⊎◌, ℕ, ◌^◌, ◌<◌, Bool, List, ◌∷◌, ⊤}
use Rattle.btf_types.specs.{Values.TypeHead, Values.KFunc, Values.TypeItem, Values.Member, Names.head_name}
use Rattle.btf_types.specs.{Values.TypeRecord, Valid.has_bit_fields}
use Rattle.btf_types.specs.Encoding.{kind_number, head_third, linkage_number, head_tail, record_vlen, info}
use Rattle.bpf_canon.specs.btf.CanonicalBtf.{canonical_flag}

-- vlen of the header of a record with n items
abbrev pub head_vlen : TypeHead → ℕ → ℕ
head_vlen head count = elim head [ KFunc name linkage target ↦ linkage_number linkage | _ ↦ count ]

-- a record up to its items
abbrev pub head_words : (List ℕ → ℕ) → TypeHead → ℕ → Bool → List ℕ
head_words new_offset head count bit_fields =
    new_offset (head_name head) ∷ info (kind_number head) (head_vlen head count) (canonical_flag head bit_fields) ∷ head_third head ∷ head_tail head

-- a width and a bit offset fit in 32 bits
abbrev pub MemberFits : TypeItem → Type 0
MemberFits (Member name target bit_offset width) = (width ≡ 0) ⊎ (bit_offset < 2 ^ 24)
MemberFits _ = ⊤

-- info of a record, with its canonical kind_flag
abbrev pub record_info : TypeRecord → ℕ
record_info r = info (kind_number r.head) (record_vlen r) (canonical_flag r.head (has_bit_fields r))
