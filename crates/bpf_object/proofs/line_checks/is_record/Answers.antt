use Rattle.std.proofs.Common.{◌≡◌, ◌≤◌, false, sym, ◌∙◌, arith}
use Rattle.std.specs.Prelude.{nat_lt}
use Rattle.std.proofs.lemmas.Bool.Decides.{nat_tests}
use Rattle.bpf_object.specs.Extension.{group_count}
use Rattle.bpf_object.specs.Lines.{insn_off}
use Rattle.bpf_object.specs.Sources.{section}
use Rattle.bpf_object.proofs.TestLemmas.{found_is, none_is}
use Rattle.bpf_object.proofs.line_checks.is_record.Goals as goal

pub returns-then-first-group_count : goal.returns-then-first-group_count
returns-then-first-group_count c =
    let x = section c.args.x in
    let there = rw c.group_count.ensures.value at c.if-first-group_count.true in
    rw c.insn_off.ensures
    (found_is (group_count x c.args.group) (insn_off x c.args.part c.args.group) c.args.first c.args.off c.requires.ascend c.requires.before there
    (c.requires.found there))

pub returns-else-first-group_count : goal.returns-else-first-group_count
returns-else-first-group_count c =
    let x = section c.args.x in
    let past : group_count x c.args.group ≤ c.args.first = rw c.group_count.ensures.value at c.if-first-group_count.false in
    let no : nat_lt c.args.first c.group_count.result ≡ false = grind (arith, nat_tests) in
    no ∙ sym (none_is (group_count x c.args.group) (insn_off x c.args.part c.args.group) c.args.first c.args.off c.requires.before past)
