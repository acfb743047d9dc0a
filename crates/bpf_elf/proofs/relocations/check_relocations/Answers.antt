use Rattle.std.proofs.Common.{rules}
use Rattle.bpf_elf.specs.{Numbers.count, Relocations.relocation_table_rules}
use Rattle.bpf_elf.proofs.RuleLemmas.{each_fault, each_more}
use Rattle.bpf_elf.proofs.relocations.check_relocations.Goals as goal

pub returns-in_err-check_table : goal.returns-in_err-check_table
returns-in_err-check_table c =
    let lt = rw c.requires.table.sections.names.header.count at c.loop-i-test.true in
    let here =
    each_fault (count c.args.bytes.now) c.loop-i.i (relocation_table_rules c.args.bytes.now) _ lt c.loop-i.invariant c.in_err-check_table.ensures in
    search rules

pub loop-i-preserved : goal.loop-i-preserved
loop-i-preserved c = each_more c.loop-i.i (relocation_table_rules c.args.bytes.now) c.loop-i.invariant c.in_ok-check_table.ensures
