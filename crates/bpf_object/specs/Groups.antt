-- What the records of .BTF.ext say: functions and CO-RE relocations, by the section of their group.
use Rattle.std.specs.Prelude.{ℕ, true, ◌+◌, List, map}
use Rattle.bpf_elf.specs.Names.{string_at}
use Rattle.bpf_object.specs.declared.extension.Part.TheVariants.{Functions, Relocations}
use Rattle.bpf_object.specs.Extension.{Section, word, group_count, groups, record_offset}
use Rattle.bpf_object.specs.Kept.{listed}
use Rattle.bpf_object.specs.Lines.{name_of}
use Rattle.bpf_object.specs.Objects.{Function, CoreRelocation, Group}

-- insn_off and type_id of a function
abbrev pub function_at : Section → ℕ → ℕ → Function
function_at x g k = record { offset = word x (record_offset Functions g k); type = word x (record_offset Functions g k + 4) }

-- access_str_off of a CO-RE relocation
abbrev pub access_off : Section → ℕ → ℕ → ℕ
access_off x g k = word x (record_offset Relocations g k + 8)

-- insn_off, type_id, the access string and the kind of a CO-RE relocation
abbrev pub relocation_at : Section → ℕ → ℕ → CoreRelocation
relocation_at x g k = record {
  offset = word x (record_offset Relocations g k);
  type = word x (record_offset Relocations g k + 4);
  access = string_at x.strings (access_off x g k);
  kind = word x (record_offset Relocations g k + 12);
}

-- with the new number of the type
abbrev pub renewed_function : (ℕ → ℕ) → Function → Function
renewed_function new f = record { offset = f.offset; type = new f.type }

abbrev pub renewed_relocation : (ℕ → ℕ) → CoreRelocation → CoreRelocation
renewed_relocation new r = record { offset = r.offset; type = new r.type; access = r.access; kind = r.kind }

-- the numbers of types may stay
abbrev pub same_number : ℕ → ℕ
same_number id = id

abbrev pub function_group : (ℕ → ℕ) → Section → ℕ → Group Function
function_group new x g = record { section = name_of x g; records = listed (λ k. true) (λ k. renewed_function new (function_at x g k)) (group_count x g) }

abbrev pub relocation_group : (ℕ → ℕ) → Section → ℕ → Group CoreRelocation
relocation_group new x g = record { section = name_of x g; records = listed (λ k. true) (λ k. renewed_relocation new (relocation_at x g k)) (group_count x g) }

-- all groups
abbrev pub function_groups : (ℕ → ℕ) → Section → List (Group Function)
function_groups new x = map (function_group new x) (groups x Functions)

abbrev pub relocation_groups : (ℕ → ℕ) → Section → List (Group CoreRelocation)
relocation_groups new x = map (relocation_group new x) (groups x Relocations)
