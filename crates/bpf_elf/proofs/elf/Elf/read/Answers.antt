use Rattle.std.proofs.Common.{rules, ◌++◌}
use Rattle.bpf_elf.specs.ElfRules.{head_rules, all_section_rules, all_symbol_rules}
use Rattle.bpf_elf.proofs.RuleLemmas.{stays_first, next_fault, both_hold}
use Rattle.bpf_elf.proofs.elf.Elf.read.Goals as goal

pub returns-in_err-header : goal.returns-in_err-header
returns-in_err-header c =
    let b = c.args.bytes.now in
    let here = stays_first (head_rules b) (all_section_rules b ++ all_symbol_rules b) _ c.in_err-header.ensures in
    search rules

pub returns-in_err-check_all_sections : goal.returns-in_err-check_all_sections
returns-in_err-check_all_sections c =
    let b = c.args.bytes.now in
    let here =
    next_fault (head_rules b) (all_section_rules b ++ all_symbol_rules b) _ c.in_ok-header.ensures.0
    (stays_first (all_section_rules b) (all_symbol_rules b) _ c.in_err-check_all_sections.ensures) in
    search rules

pub returns-in_err-symbols : goal.returns-in_err-symbols
returns-in_err-symbols c =
    let b = c.args.bytes.now in
    let here =
    next_fault (head_rules b) (all_section_rules b ++ all_symbol_rules b) _ c.in_ok-header.ensures.0
    (next_fault (all_section_rules b) (all_symbol_rules b) _ c.in_ok-check_all_sections.ensures.0 c.in_err-symbols.ensures) in
    search rules

pub invariant_of-result : goal.invariant_of-result
invariant_of-result c =
    let b = c.args.bytes.now in (
      both_hold (head_rules b) (all_section_rules b ++ all_symbol_rules b) c.in_ok-header.ensures.0
          (both_hold (all_section_rules b) (all_symbol_rules b) c.in_ok-check_all_sections.ensures.0 c.in_ok-symbols.ensures.0),
      c.in_ok-symbols.ensures.1,
    )

pub returns : goal.returns
returns c =
    let b = c.args.bytes.now in (
      both_hold (head_rules b) (all_section_rules b ++ all_symbol_rules b) c.in_ok-header.ensures.0
          (both_hold (all_section_rules b) (all_symbol_rules b) c.in_ok-check_all_sections.ensures.0 c.in_ok-symbols.ensures.0),
      search rules,
    )
