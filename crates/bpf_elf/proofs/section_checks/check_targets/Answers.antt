use Rattle.std.proofs.Common.{rules}
use Rattle.bpf_elf.specs.{Numbers.count, Sections.target_rules}
use Rattle.bpf_elf.proofs.RuleLemmas.{each_fault, each_more}
use Rattle.bpf_elf.proofs.section_checks.check_targets.Goals as goal

pub returns-in_err-check_target : goal.returns-in_err-check_target
returns-in_err-check_target c =
    let here = each_fault (count c.args.bytes.now) c.loop-i.i (target_rules c.args.bytes.now) _ (rw c.requires.header.header.count at c.loop-i-test.true) c.loop-i.invariant c.in_err-check_target.ensures in
    search rules

pub loop-i-preserved : goal.loop-i-preserved
loop-i-preserved c = each_more c.loop-i.i (target_rules c.args.bytes.now) c.loop-i.invariant c.in_ok-check_target.ensures
