use Rattle.std.proofs.Common.{rules}
use Rattle.bpf_elf.specs.{Rules.each, Relocations.form_rules, Relocations.relocation_count, Relocations.relocation_rules}
use Rattle.bpf_elf.proofs.RuleLemmas.{stays_first, then_checks}
use Rattle.bpf_elf.proofs.relocations.check_kept_table.Goals as goal

pub returns-in_err-check_form : goal.returns-in_err-check_form
returns-in_err-check_form c =
    let here =
    stays_first (form_rules c.args.bytes.now c.args.i) (each (relocation_count c.args.bytes.now c.args.i) (relocation_rules c.args.bytes.now c.args.i)) _
    c.in_err-check_form.ensures in
    search rules

pub returns : goal.returns
returns c =
    then_checks (form_rules c.args.bytes.now c.args.i) (each (relocation_count c.args.bytes.now c.args.i) (relocation_rules c.args.bytes.now c.args.i)) _
    c.in_ok-check_form.ensures c.check_rows.ensures
