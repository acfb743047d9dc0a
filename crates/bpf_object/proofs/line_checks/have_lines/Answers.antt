use Rattle.std.proofs.Common.{◌<◌, ℕ, ◌+◌, inl, inr, sym, ◌∙◌, arith}
use Rattle.std.proofs.lemmas.Bool.{cases_lt}
use Rattle.bpf_object.specs.declared.extension.Part.TheVariants.{Functions}
use Rattle.bpf_object.specs.Extension.{group_count}
use Rattle.bpf_object.specs.Lines.{insn_off, has_record}
use Rattle.bpf_object.specs.Sources.{section}
use Rattle.bpf_object.proofs.TestLemmas.{all_more, all_fails, above}
use Rattle.bpf_object.proofs.line_checks.have_lines.Goals as goal

pub returns-then-not-is_record : goal.returns-then-not-is_record
returns-then-not-is_record c =
    let x = section c.args.x in
    sym (all_fails (group_count x c.args.functions) c.loop-k.k (λ k. has_record x c.args.part c.args.lines (insn_off x Functions c.args.functions k))
    (rw c.group_count-k-end.ensures.value at c.loop-k-test.true)
    (rw c.insn_off-off.ensures at (sym c.is_record.ensures ∙ c.if-not-is_record.true)))

pub loop-k-preserved : goal.loop-k-preserved
loop-k-preserved c =
    let x = section c.args.x in
    let lines = insn_off x c.args.part c.args.lines in
    let functions = insn_off x Functions c.args.functions in
    let here : c.loop-k.k < group_count x c.args.functions = rw c.group_count-k-end.ensures.value at c.loop-k-test.true in
    let before : (j : ℕ) → j < c.record_from-line.result → lines j < functions c.loop-k.k = λ j lt.
    elim (cases_lt j c.loop-k.line) [
      | inl old ↦ c.loop-k.invariant.1.1 here j old
      | inr new ↦ rw c.insn_off-off.ensures at (c.record_from-line.ensures.before j new lt)
    ] in
    let lines_hold = all_more c.loop-k.k (λ k. has_record x c.args.part c.args.lines (functions k)) c.loop-k.invariant.0 (rw c.insn_off-off.ensures at (sym c.is_record.ensures ∙ c.if-not-is_record.false)) in (
      lines_hold,
      (
        c.record_from-line.ensures.range.1,
        λ next j lt.
            let less = before j lt in
            let greater = above (group_count x c.args.functions) functions c.requires.functions_ascend c.loop-k.k (c.loop-k.k + 1) (omega arith) next in
            omega (arith, less, greater),
      ),
    )
