-- All rules that a file has to keep to be read as sections, symbols and relocations, in the order in which they are checked.
use Rattle.std.specs.Prelude.{ℕ, List, ◌++◌}
use Rattle.bpf_elf.specs.Rules.{ElfRule, each, AllHold}
use Rattle.bpf_elf.specs.Numbers.{count}
use Rattle.bpf_elf.specs.Header.{ident_rules, header_rules}
use Rattle.bpf_elf.specs.Sections.{table_rules, section_rules, target_rules}
use Rattle.bpf_elf.specs.Symbols.{symbol_count, symbol_table_rules, symbol_rules}
use Rattle.bpf_elf.specs.Relocations.{relocation_table_rules}

-- the header
abbrev pub head_rules : List ℕ → List ElfRule
head_rules b = ident_rules b ++ header_rules b

-- the sections, and then the target of each table of relocations
abbrev pub all_section_rules : List ℕ → List ElfRule
all_section_rules b = table_rules b ++ (each (count b) (section_rules b) ++ each (count b) (target_rules b))

-- the symbols, and then the rows of each table of relocations that is kept
abbrev pub all_symbol_rules : List ℕ → List ElfRule
all_symbol_rules b =
    symbol_table_rules b ++ (each (symbol_count b) (symbol_rules b) ++ each (count b) (relocation_table_rules b))

-- all rules of a file, in the order in which they are checked
abbrev pub elf_rules : List ℕ → List ElfRule
elf_rules b = head_rules b ++ (all_section_rules b ++ all_symbol_rules b)

-- the file keeps all rules
abbrev pub IsElf : List ℕ → Type 0
IsElf b = AllHold (elf_rules b)
