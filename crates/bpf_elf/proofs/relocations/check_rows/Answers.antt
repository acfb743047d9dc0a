use Rattle.std.proofs.Common.{rules}
use Rattle.bpf_elf.specs.Relocations.{relocation_count, relocation_rules}
use Rattle.bpf_elf.proofs.RuleLemmas.{each_fault, each_more}
use Rattle.bpf_elf.proofs.relocations.check_rows.Goals as goal

pub returns-in_err-check_row : goal.returns-in_err-check_row
returns-in_err-check_row c =
    let lt = rw c.relocation_count-k-end.ensures.value at c.loop-k-test.true in
    let here =
    each_fault (relocation_count c.args.bytes.now c.args.i) c.loop-k.k (relocation_rules c.args.bytes.now c.args.i) _ lt c.loop-k.invariant
    c.in_err-check_row.ensures in
    search rules

pub loop-k-preserved : goal.loop-k-preserved
loop-k-preserved c =
    each_more c.loop-k.k (relocation_rules c.args.bytes.now c.args.i) c.loop-k.invariant c.in_ok-check_row.ensures
