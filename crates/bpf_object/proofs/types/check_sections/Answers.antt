use Rattle.std.proofs.Common.{rules}
use Rattle.bpf_elf.proofs.RuleLemmas.{stays_first}
use Rattle.bpf_object.specs.{Sources.types_section, Types.form_rules, Types.all_rules, Types.records_start}
use Rattle.bpf_object.proofs.{StepLemmas.then_fails, TypesLemmas.few_words}
use Rattle.bpf_object.proofs.types.check_sections.Goals as goal

pub returns-in_err-check_form : goal.returns-in_err-check_form
returns-in_err-check_form g c =
    let x = types_section c.args.x in
    let s = c.args.sections.now in
    let here = stays_first (form_rules x s) (all_rules (records_start x s) s) _ c.in_err-check_form.ensures in
    search rules

pub check_all-requires-clause-short : goal.check_all-requires-clause-short
check_all-requires-clause-short g c = few_words c.args.x.bytes.now c.args.sections.now c.requires

pub returns : goal.returns
returns g c =
    let x = types_section c.args.x in
    let s = c.args.sections.now in
    let all = rw (c.from.ensures, c.from-2.ensures, c.get32-header_len.ensures.value, c.order.ensures.is) at c.check_all.ensures in
    then_fails (form_rules x s) (all_rules (records_start x s) s) _ c.in_ok-check_form.ensures all
