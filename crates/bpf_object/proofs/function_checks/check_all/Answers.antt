use Rattle.std.proofs.Common.{rules}
use Rattle.bpf_elf.proofs.RuleLemmas.{each_fault, each_more}
use Rattle.bpf_elf.specs.Symbols.{symbol_count}
use Rattle.bpf_object.specs.FunctionLines.{function_rules}
use Rattle.bpf_object.specs.Sources.{section}
use Rattle.bpf_object.proofs.function_checks.check_all.Goals as goal

pub returns-in_err-check_function : goal.returns-in_err-check_function
returns-in_err-check_function c =
    let s = section c.args.x in
    let lt = rw c.symbol_count-j-end.ensures.value at c.loop-j-test.true in
    let here = each_fault (symbol_count c.args.elf.now) c.loop-j.j (function_rules c.args.elf.now s) _ lt c.loop-j.invariant c.in_err-check_function.ensures in
    search rules

pub loop-j-preserved : goal.loop-j-preserved
loop-j-preserved c = each_more c.loop-j.j (function_rules c.args.elf.now (section c.args.x)) c.loop-j.invariant c.in_ok-check_function.ensures
