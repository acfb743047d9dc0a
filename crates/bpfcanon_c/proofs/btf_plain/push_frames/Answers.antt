-- One record more.
use Rattle.std.proofs.Common.{◌++◌, ◌∙◌, List, ℕ, get_or, ap}
use Rattle.bpf_words.specs.declared.Order.TheVariants.{Little}
use Rattle.btf_raw.specs.Frames.{bytes_of}
use Rattle.bpfcanon_c.specs.declared.btf_rows.{TypeRow.TypeRow, ItemRow.ItemRow}
use Rattle.bpfcanon_c.specs.BtfRows.{bare_type}
use Rattle.bpfcanon_c.specs.BtfSaying.{own_rows}
use Rattle.bpfcanon_c.specs.BtfPlain as spec
use Rattle.bpfcanon_c.proofs.BtfWrites.{frames_more}
use Rattle.bpfcanon_c.proofs.btf_plain.push_frames.Goals as goal

pub loop-k-preserved : goal.loop-k-preserved
loop-k-preserved c =
    let start = c.args.start in
    let items = c.args.items.now in
    let out = c.loop-k.out.items in
    let types = c.args.types.now in
    let row = get_or types c.loop-k.k (bare_type 0) in
    c.in_ok-push_type.ensures
    ∙ ap (λ (own : List ItemRow). out ++ bytes_of Little (spec.row_words start row own)) c.own_items.ensures
    ∙ ap (λ (t : List ℕ). t ++ bytes_of Little (spec.row_words start row (own_rows items row))) c.loop-k.invariant
    ∙ frames_more Little c.args.out.now.items (λ (r : TypeRow). spec.row_words start r (own_rows items r)) types c.loop-k.k (bare_type 0) c.loop-k-test.true
