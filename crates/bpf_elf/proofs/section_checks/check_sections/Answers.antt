use Rattle.std.proofs.Common.{rules}
use Rattle.bpf_elf.specs.{Numbers.count, Sections.section_rules}
use Rattle.bpf_elf.proofs.RuleLemmas.{each_fault, each_more}
use Rattle.bpf_elf.proofs.SectionLemmas.{known_more}
use Rattle.bpf_elf.proofs.section_checks.check_sections.Goals as goal

pub returns-in_err-total : goal.returns-in_err-total
returns-in_err-total c =
    let here = each_fault (count c.args.bytes.now) c.loop-i.i (section_rules c.args.bytes.now) _ (rw c.requires.header.count at c.loop-i-test.true) c.loop-i.invariant.0 c.in_err-total.ensures in
    search rules

pub loop-i-preserved : goal.loop-i-preserved
loop-i-preserved c = (
  each_more c.loop-i.i (section_rules c.args.bytes.now) c.loop-i.invariant.0 c.in_ok-total.ensures.0,
  known_more c.args.bytes.now c.loop-i.i c.loop-i.invariant.1 c.in_ok-total.ensures.1,
  c.in_ok-total.ensures.2,
)
