use Rattle.std.proofs.Common.{rules}
use Rattle.bpf_elf.proofs.RuleLemmas.{stays_first, next_fault, both_hold}
use Rattle.bpf_object.specs.Extension.{form_rules, groups_rules, groups}
use Rattle.bpf_object.specs.Sources.{section}
use Rattle.bpf_object.proofs.extension.check_part.Goals as goal

pub returns-in_err-check_form : goal.returns-in_err-check_form
returns-in_err-check_form c =
    let s = section c.args.x in
    let here = stays_first (form_rules s c.args.part) (groups_rules s c.args.part (groups s c.args.part)) _ c.in_err-check_form.ensures in
    search rules

pub returns-in_err-check_groups : goal.returns-in_err-check_groups
returns-in_err-check_groups c =
    let s = section c.args.x in
    let here =
    next_fault (form_rules s c.args.part) (groups_rules s c.args.part (groups s c.args.part)) _ c.in_ok-check_form.ensures.0 c.in_err-check_groups.ensures in
    search rules

pub returns : goal.returns
returns c =
    let s = section c.args.x in (
      both_hold (form_rules s c.args.part) (groups_rules s c.args.part (groups s c.args.part)) c.in_ok-check_form.ensures.0 c.in_ok-check_groups.ensures.0,
      c.in_ok-check_groups.ensures.1,
    )
