use Rattle.std.proofs.Common.{ℕ, List, ◌<◌, ◌+◌, ◌++◌, length, ap, ◌∙◌, arith}
use Rattle.btf_types.specs.tables.TableWords.{record_at}
use Rattle.bpf_text.specs.btf.BtfText.{record_text}
use Rattle.bpf_text.proofs.BtfLemmas.BtfTextLemmas.{type_shown}
use Rattle.bpf_text.proofs.btf.show.show_btf.Goals as goal

pub loop-index-preserved : goal.loop-index-preserved
loop-index-preserved g c =
    let v = g.T.TypeTable.meaning c.args.table.now in
    let inside : c.loop-index.index < length v = omega (arith, c.loop-index-test.true, c.count-index-end.ensures.count) in
    c.in_ok-append_record.ensures
    ∙ ap (λ (t : List ℕ). t ++ record_text (c.loop-index.index + 1) (record_at v (c.loop-index.index + 1))) c.loop-index.invariant
    ∙ type_shown v c.loop-index.index inside
