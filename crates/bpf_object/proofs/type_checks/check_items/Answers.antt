use Rattle.std.proofs.Common.{rules}
use Rattle.bpf_elf.proofs.RuleLemmas.{each_fault, each_more}
use Rattle.bpf_object.specs.Types.{item_rules, named_items}
use Rattle.bpf_object.proofs.type_checks.check_items.Goals as goal

pub returns-in_err-check_item : goal.returns-in_err-check_item
returns-in_err-check_item c =
    let f = c.args.this.now in
    let lt = rw c.named_items-k-end.ensures at c.loop-k-test.true in
    let here = each_fault (named_items f) c.loop-k.k (item_rules c.args.strings.now c.args.pos f) _ lt c.loop-k.invariant c.in_err-check_item.ensures in
    search rules

pub loop-k-preserved : goal.loop-k-preserved
loop-k-preserved c = each_more c.loop-k.k (item_rules c.args.strings.now c.args.pos c.args.this.now) c.loop-k.invariant c.in_ok-check_item.ensures
