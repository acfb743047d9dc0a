-- The bytes of the tables of relocations.
use Rattle.std.specs.Prelude.{ℕ, true, List, if◌then◌else◌}
use Rattle.std.specs.List.{flat_map}
use Rattle.bpf_elf.specs.Numbers.{order_of}
use Rattle.bpf_elf.specs.Relocations.{relocation_count}
use Rattle.bpf_elf.specs.Sections.{content}
use Rattle.bpf_object.specs.Canonical.{row_bytes}
use Rattle.bpf_object.specs.Kept.{listed, is_table, kept_relocation}

-- the first n rows of a table
abbrev pub rows_bytes : List ℕ → ℕ → ℕ → List ℕ
rows_bytes b i n = flat_map (row_bytes (order_of b)) (listed (λ k. true) (kept_relocation b i) n)

-- all of them
abbrev pub table_bytes : List ℕ → ℕ → List ℕ
table_bytes b i = rows_bytes b i (relocation_count b i)

-- the content of a section that is kept
abbrev pub kept_content : List ℕ → ℕ → List ℕ
kept_content b i = if is_table b i then table_bytes b i else content b i
