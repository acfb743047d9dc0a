use Rattle.std.proofs.Common.{rules}
use Rattle.bpf_elf.specs.Symbols.{symbol_count, symbol_rules}
use Rattle.bpf_elf.proofs.RuleLemmas.{each_fault, each_more}
use Rattle.bpf_elf.proofs.symbols.check_symbols.Goals as goal

pub returns-in_err-check_symbol : goal.returns-in_err-check_symbol
returns-in_err-check_symbol c =
    let lt = rw c.requires.count at c.loop-j-test.true in
    let here =
    each_fault (symbol_count c.args.bytes.now) c.loop-j.j (symbol_rules c.args.bytes.now) _ lt c.loop-j.invariant c.in_err-check_symbol.ensures in
    search rules

pub loop-j-preserved : goal.loop-j-preserved
loop-j-preserved c = each_more c.loop-j.j (symbol_rules c.args.bytes.now) c.loop-j.invariant c.in_ok-check_symbol.ensures
