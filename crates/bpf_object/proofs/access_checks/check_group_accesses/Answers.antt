use Rattle.std.proofs.Common.{rules}
use Rattle.bpf_elf.proofs.RuleLemmas.{each_fault, each_more}
use Rattle.bpf_object.specs.Extension.{group_count}
use Rattle.bpf_object.specs.Lines.{access_rules}
use Rattle.bpf_object.specs.Sources.{section}
use Rattle.bpf_object.proofs.access_checks.check_group_accesses.Goals as goal

pub returns-in_err-check_access : goal.returns-in_err-check_access
returns-in_err-check_access c =
    let s = section c.args.x in
    let lt = rw c.group_count-k-end.ensures.value at c.loop-k-test.true in
    let here = each_fault (group_count s c.args.group) c.loop-k.k (access_rules s c.args.group) _ lt c.loop-k.invariant c.in_err-check_access.ensures in
    search rules

pub loop-k-preserved : goal.loop-k-preserved
loop-k-preserved c = each_more c.loop-k.k (access_rules (section c.args.x) c.args.group) c.loop-k.invariant c.in_ok-check_access.ensures
