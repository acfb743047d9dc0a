use Rattle.std.proofs.Common.{sym, ◌∙◌, ◌-◌, ◌==◌, ◌||◌}
use Rattle.std.specs.Prelude.{nat_lt}
use Rattle.bpf_object.specs.Extension.{group_count}
use Rattle.bpf_object.specs.Lines.{insn_off}
use Rattle.bpf_object.specs.Sources.{section}
use Rattle.bpf_object.proofs.TestLemmas.{all_more, all_fails}
use Rattle.bpf_object.proofs.line_checks.ascends.Goals as goal

pub returns-then-not-follows : goal.returns-then-not-follows
returns-then-not-follows c =
    let x = section c.args.x in
    sym (all_fails (group_count x c.args.group) c.loop-k.k (λ k. k == 0 || nat_lt (insn_off x c.args.part c.args.group (k - 1)) (insn_off x c.args.part c.args.group k)) (rw c.group_count-k-end.ensures.value at c.loop-k-test.true) (sym c.follows.ensures ∙ c.if-not-follows.true))

pub loop-k-preserved : goal.loop-k-preserved
loop-k-preserved c =
    let x = section c.args.x in
    all_more c.loop-k.k (λ k. k == 0 || nat_lt (insn_off x c.args.part c.args.group (k - 1)) (insn_off x c.args.part c.args.group k)) c.loop-k.invariant (sym c.follows.ensures ∙ c.if-not-follows.false)
