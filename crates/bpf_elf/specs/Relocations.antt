-- The tables of relocations that are kept, and the rules on them (System V ABI, "Relocation").
use Rattle.std.specs.Prelude.{ℕ, ◌+◌, ◌*◌, ◌/◌, ◌%◌, ◌^◌, ◌==◌, ◌&&◌, nat_lt, Bool, List, [], ◌∷◌, ◌++◌, if◌then◌else◌}
use Rattle.bpf_elf.specs.declared.kinds.Kind.TheVariants.{Relocations}
use Rattle.bpf_elf.specs.declared.fault.ElfCause.TheVariants as cause
use Rattle.bpf_elf.specs.Rules.{ElfRule, rule, each}
use Rattle.bpf_elf.specs.Numbers.{long, header_offset, offset, size, link, entry_size}
use Rattle.bpf_elf.specs.Kinds.{is_kind}
use Rattle.bpf_elf.specs.Sections.{kind}
use Rattle.bpf_elf.specs.Symbols.{symbols, symbol_count, is_kept_symbol}

-- how many rows a table of relocations has
abbrev pub relocation_count : List ℕ → ℕ → ℕ
relocation_count b i = size b i / 16

-- where each of them is
abbrev pub relocation_offset : List ℕ → ℕ → ℕ → ℕ
relocation_offset b i k = offset b i + 16 * k

-- r_offset, and the halves of r_info: the index of the symbol and the type
abbrev pub r_offset : List ℕ → ℕ → ℕ → ℕ
r_offset b i k = long b (relocation_offset b i k)

abbrev pub r_symbol : List ℕ → ℕ → ℕ → ℕ
r_symbol b i k = long b (relocation_offset b i k + 8) / 2 ^ 32

abbrev pub r_type : List ℕ → ℕ → ℕ → ℕ
r_type b i k = long b (relocation_offset b i k + 8) % 2 ^ 32

-- the symbol is there and kept
abbrev pub is_relocation_symbol : List ℕ → ℕ → Bool
is_relocation_symbol b j = nat_lt j (symbol_count b) && is_kept_symbol b j

abbrev pub relocation_rules : List ℕ → ℕ → ℕ → List ElfRule
relocation_rules b i k = rule cause.RelocationSymbol (relocation_offset b i k + 8) (is_relocation_symbol b (r_symbol b i k)) ∷ []

-- a table is whole, and belongs to the symbols
abbrev pub form_rules : List ℕ → ℕ → List ElfRule
form_rules b i =
    rule cause.RelocationTableSize (header_offset b i + 32) (size b i % 16 == 0)
    ∷ rule cause.RelocationEntrySize (header_offset b i + 56) (entry_size b i == 16)
    ∷ rule cause.RelocationSymbols (header_offset b i + 40) (link b i == symbols b)
    ∷ []

-- a table that is kept
abbrev pub kept_table_rules : List ℕ → ℕ → List ElfRule
kept_table_rules b i = form_rules b i ++ each (relocation_count b i) (relocation_rules b i)

abbrev pub relocation_table_rules : List ℕ → ℕ → List ElfRule
relocation_table_rules b i = if is_kind Relocations (kind b i) then kept_table_rules b i else []
