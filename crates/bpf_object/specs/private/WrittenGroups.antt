-- The bytes of the groups of .BTF.ext, from the offsets of the groups in the section that is read.
use Rattle.std.specs.Prelude.{ℕ, zero, suc, true, List, [], ◌∷◌, ◌++◌}
use Rattle.std.specs.List.{flat_map}
use Rattle.bpf_words.specs.Words.{word32}
use Rattle.bpf_object.specs.declared.extension.Part.{Part, TheVariants.Functions, TheVariants.Lines, TheVariants.Relocations}
use Rattle.bpf_object.specs.Canonical.{function_bytes, line_bytes, relocation_bytes, extension_of}
use Rattle.bpf_object.specs.Extension.{Section, group_name, group_count, record_size}
use Rattle.bpf_object.specs.Groups.{function_at, relocation_at, renewed_function, renewed_relocation, access_off}
use Rattle.bpf_object.specs.Kept.{listed}
use Rattle.bpf_object.specs.Lines.{name_of}

-- the part whose groups are read for a part: the lines are those of the functions
abbrev pub source_part : Part → Part
source_part Functions = Functions
source_part Lines = Functions
source_part Relocations = Relocations

-- a record
abbrev pub record_bytes : Section → (ℕ → ℕ) → (List ℕ → ℕ) → Part → ℕ → ℕ → List ℕ
record_bytes x new new_offset Functions g k = function_bytes x.order (renewed_function new (function_at x g k))
record_bytes x new new_offset Lines g k = line_bytes x.order (renewed_function new (function_at x g k))
record_bytes x new new_offset Relocations g k = relocation_bytes x.order new_offset (renewed_relocation new (relocation_at x g k))

-- the first n records of a group
abbrev pub records_bytes : Section → (ℕ → ℕ) → (List ℕ → ℕ) → Part → ℕ → ℕ → List ℕ
records_bytes x new new_offset p g zero = []
records_bytes x new new_offset p g (suc n) = records_bytes x new new_offset p g n ++ record_bytes x new new_offset p g n

-- a group
abbrev pub group_head : Section → (List ℕ → ℕ) → ℕ → List ℕ
group_head x new_offset g = word32 x.order (new_offset (name_of x g)) ++ word32 x.order (group_count x g)

abbrev pub group_bytes_at : Section → (ℕ → ℕ) → (List ℕ → ℕ) → Part → ℕ → List ℕ
group_bytes_at x new new_offset p g = group_head x new_offset g ++ records_bytes x new new_offset p g (group_count x g)

-- these groups
abbrev pub groups_bytes : Section → (ℕ → ℕ) → (List ℕ → ℕ) → Part → List ℕ → List ℕ
groups_bytes x new new_offset p gs = flat_map (group_bytes_at x new new_offset p) gs

-- a part of these groups
abbrev pub written_part : Section → (ℕ → ℕ) → (List ℕ → ℕ) → Part → List ℕ → List ℕ
written_part x new new_offset p [] = []
written_part x new new_offset p (g ∷ gs) = word32 x.order (record_size p) ++ groups_bytes x new new_offset p (g ∷ gs)

-- the section of these groups
abbrev pub written_extension : Section → (ℕ → ℕ) → (List ℕ → ℕ) → List ℕ → List ℕ → List ℕ
written_extension x new new_offset functions relocations =
    extension_of x.order (written_part x new new_offset Functions functions) (written_part x new new_offset Lines functions)
    (written_part x new new_offset Relocations relocations)

-- ---- the strings of a group, by their offsets

abbrev pub record_offsets : Section → Part → ℕ → List ℕ
record_offsets x Relocations g = listed (λ k. true) (access_off x g) (group_count x g)
record_offsets x _ g = []

abbrev pub group_offsets : Section → Part → ℕ → List ℕ
group_offsets x p g = group_name x g ∷ record_offsets x p g

abbrev pub groups_offsets : Section → Part → List ℕ → List ℕ
groups_offsets x p gs = flat_map (group_offsets x p) gs
