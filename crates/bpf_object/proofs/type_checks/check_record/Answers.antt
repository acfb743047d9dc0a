use Rattle.std.proofs.Common.{rules}
use Rattle.bpf_elf.specs.Rules.{each}
use Rattle.bpf_elf.proofs.RuleLemmas.{stays_first}
use Rattle.bpf_object.specs.Types.{head_rules, item_rules, named_items}
use Rattle.bpf_object.proofs.StepLemmas.{then_checks}
use Rattle.bpf_object.proofs.type_checks.check_record.Goals as goal

pub returns-in_err-check_head : goal.returns-in_err-check_head
returns-in_err-check_head c =
    let f = c.args.this.now in
    let items = each (named_items f) (item_rules c.args.strings.now c.args.pos f) in
    let here = stays_first (head_rules c.args.strings.now c.args.pos f) items _ c.in_err-check_head.ensures in
    search rules

pub returns : goal.returns
returns c =
    let f = c.args.this.now in
    let items = each (named_items f) (item_rules c.args.strings.now c.args.pos f) in
    then_checks (head_rules c.args.strings.now c.args.pos f) items _ c.in_ok-check_head.ensures c.check_items.ensures
