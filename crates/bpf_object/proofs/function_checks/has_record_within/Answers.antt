use Rattle.std.proofs.Common.{◌+◌, ◌≤◌, sym, ◌∙◌}
use Rattle.std.proofs.lemmas.Bool.{le-ltb}
use Rattle.bpf_object.specs.Extension.{group_count}
use Rattle.bpf_object.specs.Lines.{insn_off}
use Rattle.bpf_object.specs.Sources.{section}
use Rattle.bpf_object.proofs.TestLemmas.{within_is, none_within}
use Rattle.bpf_object.proofs.function_checks.has_record_within.Goals as goal

pub returns-then-first-group_count : goal.returns-then-first-group_count
returns-then-first-group_count c =
    let x = section c.args.x in
    let found = c.first_from-first.ensures in
    let there = rw c.group_count.ensures.value at c.if-first-group_count.true in
    rw c.insn_off.ensures
    (within_is (group_count x c.args.group) (insn_off x c.args.part c.args.group) c.first_from-first.result c.args.from c.args.size c.requires.ascend found.before there (found.found there))

pub returns-else-first-group_count : goal.returns-else-first-group_count
returns-else-first-group_count c =
    let x = section c.args.x in
    let past : group_count x c.args.group ≤ c.first_from-first.result = rw c.group_count.ensures.value at c.if-first-group_count.false in
    le-ltb c.first_from-first.result c.group_count.result c.if-first-group_count.false
    ∙ sym (none_within (group_count x c.args.group) (insn_off x c.args.part c.args.group) c.first_from-first.result c.args.from (c.args.from + c.args.size) c.first_from-first.ensures.before past)
