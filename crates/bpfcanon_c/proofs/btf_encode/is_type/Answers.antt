-- The items of the record are compared one after the other.
use Rattle.std.proofs.Common.{◌≡◌, ◌∙◌, true, false, List, length, get_or, sym, ap, subst, arith}
use Rattle.std.specs.Prelude.{IsTrue}
use Rattle.std.proofs.lemmas.Slice.Zip.{AllZip-long}
use Rattle.btf_types.specs.{Values.item_value, tables.TableWords.record_at}
use Rattle.bpfcanon_c.specs.declared.btf_rows.ItemRow.{ItemRow}
use Rattle.bpfcanon_c.specs.BtfRows.{bare_item}
use Rattle.bpfcanon_c.specs.{BtfSaying.own_rows, BtfPlanSteps.HasItemFields, BtfPlanSteps.HasFields}
use Rattle.bpfcanon_c.proofs.BtfSays.{zip_here, zip_next}
use Rattle.bpfcanon_c.proofs.btf_encode.is_type.Goals as goal

pub returns-then-own-count : goal.returns-then-own-count
returns-then-own-count c =
    let items = c.args.items.now in
    let v = c.args.table.now in (
      λ (e : IsTrue false). absurd (cc),
      λ (fields : HasFields items c.args.row.now (record_at v c.args.id)).
          let own = fields.each in
          let long = AllZip-long HasItemFields (own_rows items c.args.row.now) (record_at v c.args.id).items own in
          absurd (c.if-own-count.true (ap (λ (t : List ItemRow). length t) c.own_items-own.ensures ∙ sym long ∙ sym c.item_count-count.ensures)),
    )

pub returns-then-not-is_item : goal.returns-then-not-is_item
returns-then-not-is_item c =
    let items = c.args.items.now in
    let v = c.args.table.now in (
      λ (e : IsTrue false). absurd (cc),
      λ (fields : HasFields items c.args.row.now (record_at v c.args.id)).
          let own = fields.each in
          let item = item_value c.file_item.result in
          let here : HasItemFields (get_or (own_rows items c.args.row.now) c.loop-k.k (bare_item 0)) item =
          zip_here HasItemFields (own_rows items c.args.row.now) (record_at v c.args.id).items c.loop-k.k (bare_item 0) item
          (omega (arith, ap (λ (t : List ItemRow). length t) c.own_items-own.ensures, c.if-own-count.false)) c.file_item.ensures own
          in
          let read : get_or (own_rows items c.args.row.now) c.loop-k.k (bare_item 0) ≡ get_or c.own_items-own.result.now c.loop-k.k (bare_item 0) =
          ap (λ (t : List ItemRow). get_or t c.loop-k.k (bare_item 0)) (sym c.own_items-own.ensures)
          in
          let yes : c.is_item.result ≡ true = c.is_item.ensures.1 (subst (λ (i : ItemRow). HasItemFields i item) read here) in
          let no : c.is_item.result ≡ false = c.if-not-is_item.true in
          absurd (cc),
    )

pub loop-k-preserved : goal.loop-k-preserved
loop-k-preserved c =
    zip_next HasItemFields c.own_items-own.result.now (record_at c.args.table.now c.args.id).items c.loop-k.k (bare_item 0) (item_value c.file_item.result)
    (omega (arith, c.if-own-count.false)) (omega (arith, c.item_count-count.ensures)) c.file_item.ensures c.loop-k.invariant (c.is_item.ensures.0 c.if-not-is_item.false)
