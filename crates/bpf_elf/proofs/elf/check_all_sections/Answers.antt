use Rattle.std.proofs.Common.{rules, ◌++◌}
use Rattle.bpf_elf.specs.{Rules.each, Numbers.count, Sections.table_rules, Sections.section_rules, Sections.target_rules}
use Rattle.bpf_elf.proofs.RuleLemmas.{stays_first, next_fault, both_hold}
use Rattle.bpf_elf.proofs.elf.check_all_sections.Goals as goal

pub returns-in_err-check_table : goal.returns-in_err-check_table
returns-in_err-check_table c =
    let b = c.args.bytes.now in
    let rest = each (count b) (section_rules b) ++ each (count b) (target_rules b) in
    let here = stays_first (table_rules b) rest _ c.in_err-check_table.ensures in
    search rules

pub returns-in_err-check_sections : goal.returns-in_err-check_sections
returns-in_err-check_sections c =
    let b = c.args.bytes.now in
    let sections = each (count b) (section_rules b) in
    let targets = each (count b) (target_rules b) in
    let here =
    next_fault (table_rules b) (sections ++ targets) _ c.in_ok-check_table.ensures.0 (stays_first sections targets _ c.in_err-check_sections.ensures) in
    search rules

pub returns-in_err-check_targets : goal.returns-in_err-check_targets
returns-in_err-check_targets c =
    let b = c.args.bytes.now in
    let sections = each (count b) (section_rules b) in
    let targets = each (count b) (target_rules b) in
    let here =
    next_fault (table_rules b) (sections ++ targets) _ c.in_ok-check_table.ensures.0
    (next_fault sections targets _ c.in_ok-check_sections.ensures.0 c.in_err-check_targets.ensures) in
    search rules

pub returns : goal.returns
returns c =
    let b = c.args.bytes.now in
    let sections = each (count b) (section_rules b) in
    let targets = each (count b) (target_rules b) in (
      both_hold (table_rules b) (sections ++ targets) c.in_ok-check_table.ensures.0
          (both_hold sections targets c.in_ok-check_sections.ensures.0 c.in_ok-check_targets.ensures),
      record { names = c.in_ok-check_table.ensures.1; known = c.in_ok-check_sections.ensures.1 },
    )
