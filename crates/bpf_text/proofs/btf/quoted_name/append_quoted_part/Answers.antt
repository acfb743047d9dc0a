use Rattle.std.proofs.{Common.arith, Common.refl, Common.rules, lemmas.Grind.common_steps}
use Rattle.bpf_text.proofs.BtfLemmas.QuotedNameLemmas.{plain_byte, run_ended, run_longer}
use Rattle.bpf_text.proofs.BtfLemmas.AppendingLemmas.{appends, kept_extended, kept_more}
use Rattle.bpf_text.proofs.btf.quoted_name.append_quoted_part.Goals as goal
use Rattle.bpf_text.proofs.btf.quoted_name.append_quoted_part.Goals.{then-needs_backslash+in_ok-extend_from_slice+in_ok-append_byte, else-needs_backslash+else-is_control}

pub loop-at-preserved : goal.loop-at-preserved
loop-at-preserved g c =
    let base = c.args.text.now.items in
    let bytes = c.args.part.now in
    let before = c.loop-at.invariant in
    elim c.if-needs_backslash.branch [
      | then-needs_backslash+in_ok-extend_from_slice+in_ok-append_byte w ↦ rw (w.text-is, w.start-is) (record {
        within = omega arith;
        written = run_ended base c.loop-at.text.items _ _ _ bytes c.loop-at.start c.loop-at.at before.within c.loop-at-test.true before.written refl w.in_ok-extend_from_slice.ensures.items w.in_ok-append_byte.ensures;
        kept = kept_more base _ _ _ (kept_more base c.loop-at.text.items _ _ before.kept w.in_ok-extend_from_slice.ensures.items) w.in_ok-append_byte.ensures;
      })
      | else-needs_backslash+else-is_control w ↦ rw (w.text-is, w.start-is) (record {
        within = omega (arith, before.within);
        written = run_longer base c.loop-at.text.items bytes c.loop-at.start c.loop-at.at before.within c.loop-at-test.true (plain_byte _ _ _ c.needs_backslash.ensures w.if-needs_backslash.false w.is_control.ensures w.if-is_control.false) before.written;
        kept = before.kept;
      })
    ]

pub returns-in_err-extend_from_slice : goal.returns-in_err-extend_from_slice
returns-in_err-extend_from_slice g c =
    appends c.from_residual.result _ _ _ (kept_extended c.extend_from_slice.result c.args.text.now.items c.loop-at.text.items _ _ c.loop-at.invariant.kept c.extend_from_slice.ensures.items) (search rules)

pub returns-in_err-append_byte : goal.returns-in_err-append_byte
returns-in_err-append_byte g c =
    let kept = kept_more c.args.text.now.items c.loop-at.text.items _ _ c.loop-at.invariant.kept c.in_ok-extend_from_slice.ensures.items in
    appends c.from_residual-in_err-append_byte.result _ _ _ (kept_more c.args.text.now.items _ _ _ kept c.in_err-append_byte.ensures.1) (search rules)

pub returns : goal.returns
returns g c =
    appends c.extend_from_slice-2.result _ _ _ (kept_extended c.extend_from_slice-2.result c.args.text.now.items c.loop-at.text.items _ _ c.loop-at.invariant.kept c.extend_from_slice-2.ensures.items) (grind (arith, common_steps))
