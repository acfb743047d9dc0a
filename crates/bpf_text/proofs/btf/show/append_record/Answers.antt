use Rattle.std.proofs.Common.{◌≡◌, ℕ, List, ◌++◌, length, take, refl, sym, ap, ◌∙◌, append_assoc, append-nil, arith, rules}
use Rattle.std.proofs.lemmas.List.{take_all}
use Rattle.btf_types.specs.{Values.head_value, Values.item_value, tables.TableWords.record_at}
use Rattle.bpf_text.specs.btf.BtfText.{head_line, is_signed, item_line}
use Rattle.bpf_text.proofs.BtfLemmas.{BtfTextLemmas.item_shown, AppendingLemmas.appends, AppendingLemmas.kept_more}
use Rattle.bpf_text.proofs.btf.show.append_record.Goals as goal

pub loop-k-init : goal.loop-k-init
loop-k-init g c =
    let r = record_at (g.T.TypeTable.meaning c.args.table.now) c.args.id in
    let same : head_line c.args.id (head_value c.head-head.result) c.item_count.result ≡ head_line c.args.id r.head (length r.items) =
    rw (c.head-head.ensures, c.item_count.ensures) refl in
    c.in_ok-append_head.ensures ∙ ap (λ (t : List ℕ). c.args.text.now.items ++ t) same ∙ sym (append-nil _)

pub loop-k-preserved : goal.loop-k-preserved
loop-k-preserved g c =
    let r = record_at (g.T.TypeTable.meaning c.args.table.now) c.args.id in
    let signed : c.is_signed-signed.result ≡ is_signed r.head = c.is_signed-signed.ensures ∙ ap is_signed c.head-head.ensures in
    (rw signed at c.in_ok-append_item.ensures)
    ∙ ap (λ (t : List ℕ). t ++ item_line (is_signed r.head) (item_value c.item.result)) c.loop-k.invariant
    ∙ item_shown (c.args.text.now.items ++ head_line c.args.id r.head (length r.items)) (is_signed r.head) r.items c.loop-k.k (item_value c.item.result) c.item.ensures

pub returns-in_err-append_item : goal.returns-in_err-append_item
returns-in_err-append_item g c =
    appends c.from_residual-in_err-append_item.result _ _ _ (kept_more c.args.text.now.items c.loop-k.text.items c.append_item.new.text.items _ (_, c.loop-k.invariant ∙ append_assoc c.args.text.now.items _ _) c.in_err-append_item.ensures.1) (search rules)

pub returns : goal.returns
returns g c =
    let r = record_at (g.T.TypeTable.meaning c.args.table.now) c.args.id in
    let all : take c.loop-k.k r.items ≡ r.items = take_all c.loop-k.k r.items (omega (arith, c.loop-k-test.false, c.item_count-k-end.ensures)) in
    (rw all at c.loop-k.invariant) ∙ append_assoc c.args.text.now.items (head_line c.args.id r.head (length r.items)) _
