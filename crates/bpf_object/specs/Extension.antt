-- The header and the parts of .BTF.ext, and the rules on them (Linux Documentation/bpf/btf.rst, "4. ELF File Format Interface").
use Rattle.std.specs.Prelude.{ℕ, zero, suc, ◌+◌, ◌*◌, ◌%◌, ◌==◌, ◌||◌, ◌&&◌, nat_lt, nat_le, List, [], ◌∷◌, ◌++◌, length, slice_index, if◌then◌else◌}
use Rattle.bpf_words.specs.{declared.Order.Order, Words.word16_at, Words.word32_at}
use Rattle.bpf_elf.specs.Rules.{rule}
use Rattle.bpf_elf.specs.Names.{is_section_name}
use Rattle.bpf_object.specs.declared.fault.ObjectCause.TheVariants as cause
use Rattle.bpf_object.specs.declared.extension.Part.{Part, TheVariants.Functions, TheVariants.Lines, TheVariants.Relocations}
use Rattle.bpf_object.specs.Faults.{ObjectRule}

-- the section in its byte order, where it is in the file, and the strings of .BTF
pub record Section : Type 0 where
  pub order : Order
  pub start : ℕ
  pub bytes : List ℕ
  pub strings : List ℕ

-- a 32-bit number of the section
abbrev pub word : Section → ℕ → ℕ
word x i = word32_at x.order x.bytes i

-- hdr_len
abbrev pub header_len : Section → ℕ
header_len x = word x 4

-- where the header has the offset of a part, which its length follows: func_info_off, line_info_off and core_relo_off
abbrev pub part_field : Part → ℕ
part_field Functions = 8
part_field Lines = 16
part_field Relocations = 24

-- the size of a record of a part
abbrev pub record_size : Part → ℕ
record_size Functions = 8
record_size Lines = 16
record_size Relocations = 16

-- where a part is, from the end of the header, and its length
abbrev pub part_offset : Section → Part → ℕ
part_offset x p = word x (part_field p)

abbrev pub part_len : Section → Part → ℕ
part_len x p = word x (part_field p + 4)

-- where a part begins and ends
abbrev pub part_start : Section → Part → ℕ
part_start x p = header_len x + part_offset x p

abbrev pub part_end : Section → Part → ℕ
part_end x p = part_start x p + part_len x p

-- a group of records: sec_name_off and num_info, then the records
abbrev pub group_name : Section → ℕ → ℕ
group_name x g = word x g

abbrev pub group_count : Section → ℕ → ℕ
group_count x g = word x (g + 4)

-- where the record of a group is, and where the next group begins
abbrev pub record_offset : Part → ℕ → ℕ → ℕ
record_offset p g k = g + 8 + record_size p * k

abbrev pub next_group : Section → Part → ℕ → ℕ
next_group x p g = record_offset p g (group_count x g)

-- the groups from one on, up to the end of the part; n is at least their number
abbrev pub groups_from : Section → Part → ℕ → ℕ → List ℕ
groups_from x p zero g = []
groups_from x p (suc n) g = g ∷ (if nat_lt (next_group x p g) (part_end x p) then groups_from x p n (next_group x p g) else [])

-- the groups of a part, of which one that isn't empty has at least one
abbrev pub groups : Section → Part → List ℕ
groups x p = if part_len x p == 0 then [] else groups_from x p (part_len x p) (part_start x p + 4)

-- the header
abbrev pub head_rules : Section → List ObjectRule
head_rules x =
    rule cause.ExtensionCut x.start (nat_le 32 (length x.bytes))
    ∷ rule cause.ExtensionMagic x.start (word16_at x.order x.bytes 0 == 0xeb9f)
    ∷ rule cause.ExtensionVersion (x.start + 2) (slice_index x.bytes 2 == 1)
    ∷ rule cause.ExtensionFlags (x.start + 3) (slice_index x.bytes 3 == 0)
    ∷ rule cause.ExtensionHeaderSize (x.start + 4) (nat_le 32 (header_len x) && nat_lt (header_len x) (length x.bytes))
    ∷ []

-- a part is inside the section, and begins with the size of its records
abbrev pub form_rules : Section → Part → List ObjectRule
form_rules x p =
    rule cause.ExtensionPart (x.start + part_field p)
    (nat_le (part_end x p) (length x.bytes) && (part_offset x p % 4 == 0 && part_len x p % 4 == 0))
    ∷ rule cause.ExtensionRecordSize (x.start + part_start x p) (part_len x p == 0 || word x (part_start x p) == record_size p)
    ∷ []

-- a group is inside its part and not empty, and has the name of a section
abbrev pub group_rules : Section → Part → ℕ → List ObjectRule
group_rules x p g =
    rule cause.ExtensionGroup (x.start + g) (nat_le (next_group x p g) (part_end x p) && nat_lt 0 (group_count x g))
    ∷ rule cause.ExtensionString (x.start + g) (is_section_name x.strings (group_name x g))
    ∷ []

-- the groups from one on
abbrev pub groups_rules : Section → Part → List ℕ → List ObjectRule
groups_rules x p [] = []
groups_rules x p (g ∷ gs) = group_rules x p g ++ groups_rules x p gs

abbrev pub part_rules : Section → Part → List ObjectRule
part_rules x p = form_rules x p ++ groups_rules x p (groups x p)
