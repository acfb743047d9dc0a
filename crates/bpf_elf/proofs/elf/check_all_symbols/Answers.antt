use Rattle.std.proofs.Common.{rules, ◌++◌}
use Rattle.bpf_elf.specs.{Rules.each, Numbers.count, Symbols.symbol_count, Symbols.symbol_table_rules, Symbols.symbol_rules, Relocations.relocation_table_rules}
use Rattle.bpf_elf.proofs.RuleLemmas.{stays_first, next_fault, both_hold}
use Rattle.bpf_elf.proofs.SymbolFacts.{kept_symbols}
use Rattle.bpf_elf.proofs.elf.check_all_symbols.Goals as goal

pub returns-in_err-table : goal.returns-in_err-table
returns-in_err-table c =
    let b = c.args.bytes.now in
    let rest = each (symbol_count b) (symbol_rules b) ++ each (count b) (relocation_table_rules b) in
    let here = stays_first (symbol_table_rules b) rest _ c.in_err-table.ensures in
    search rules

pub returns-in_err-check_symbols : goal.returns-in_err-check_symbols
returns-in_err-check_symbols c =
    let b = c.args.bytes.now in
    let symbols = each (symbol_count b) (symbol_rules b) in
    let tables = each (count b) (relocation_table_rules b) in
    let here =
    next_fault (symbol_table_rules b) (symbols ++ tables) _ c.in_ok-table.ensures.0 (stays_first symbols tables _ c.in_err-check_symbols.ensures) in
    search rules

pub check_relocations-requires : goal.check_relocations-requires
check_relocations-requires c =
    kept_symbols c.args.bytes.now c.args.header _ c.in_ok-table.ensures.1 c.in_ok-check_symbols.ensures

pub returns-in_err-check_relocations : goal.returns-in_err-check_relocations
returns-in_err-check_relocations c =
    let b = c.args.bytes.now in
    let symbols = each (symbol_count b) (symbol_rules b) in
    let tables = each (count b) (relocation_table_rules b) in
    let here =
    next_fault (symbol_table_rules b) (symbols ++ tables) _ c.in_ok-table.ensures.0
    (next_fault symbols tables _ c.in_ok-check_symbols.ensures c.in_err-check_relocations.ensures) in
    search rules

pub returns : goal.returns
returns c =
    let b = c.args.bytes.now in
    let symbols = each (symbol_count b) (symbol_rules b) in
    let tables = each (count b) (relocation_table_rules b) in (
      both_hold (symbol_table_rules b) (symbols ++ tables) c.in_ok-table.ensures.0
          (both_hold symbols tables c.in_ok-check_symbols.ensures c.in_ok-check_relocations.ensures),
      kept_symbols b c.args.header _ c.in_ok-table.ensures.1 c.in_ok-check_symbols.ensures,
    )
