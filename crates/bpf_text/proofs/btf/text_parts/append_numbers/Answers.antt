use Rattle.std.proofs.Common.{[], ◌++◌, decimal, rules}
use Rattle.bpf_text.proofs.BtfLemmas.AppendingLemmas.{appends, kept_more, one_more_appended}
use Rattle.bpf_text.proofs.btf.text_parts.append_numbers.Goals as goal

pub loop-label-preserved : goal.loop-label-preserved
loop-label-preserved g c =
    one_more_appended (λ n. n.0.now ++ decimal n.1) c.args.text.now.items c.args.numbers.now c.loop-label.label-index (record { ref_ptr = (0, 0); now = [] }, 0)
    c.loop-label.text.items c.append_number.new.text.items c.loop-label-test.true c.loop-label.invariant c.in_ok-append_number.ensures

pub returns-in_err-append_number : goal.returns-in_err-append_number
returns-in_err-append_number g c =
    appends c.from_residual.result _ _ _ (kept_more c.args.text.now.items c.loop-label.text.items c.append_number.new.text.items _ (_, c.loop-label.invariant) c.in_err-append_number.ensures.1) (search rules)
