-- One name more, or the first that isn't added.
use Rattle.std.proofs.Common.{◌≡◌, ◌<◌, ◌∙◌, List, length, sym, ap, arith}
use Rattle.btf_raw.specs.declared.cause.BtfCause.{BtfCause}
use Rattle.btf_raw.specs.Kinds.{item_words}
use Rattle.bpfcanon_c.specs.declared.btf_rows.ItemRow.{ItemRow}
use Rattle.bpfcanon_c.specs.BtfRows.{bare_item}
use Rattle.bpfcanon_c.specs.BtfPlanSteps.{TypeRefusal}
use Rattle.bpfcanon_c.specs.BtfRefusal.{HasItems}
use Rattle.bpfcanon_c.proofs.BtfPlans.{item_refused, names_more}
use Rattle.bpfcanon_c.proofs.btf_plain.with_type.Goals as goal
use Rattle.bpfcanon_c.proofs.btf_plain.with_type.Goals.{else-item_words-ne0-via-then-item_words-ne0+else-own-from, else-item_words-ne0-via-else-item_words-ne0}

pub loop-k-preserved : goal.loop-k-preserved
loop-k-preserved c =
    names_more c.args.strings.now c.args.part c.loop-k.part c.in_ok-part-2.part c.args.row.now c.own_items-own.result.now c.loop-k.k (bare_item 0) c.loop-k-test.true c.loop-k.invariant
    c.in_ok-part-2.ensures

pub returns-in_err-part-2 : goal.returns-in_err-part-2
returns-in_err-part-2 c =
    let items = c.args.items.now in
    let row = c.args.row.now in
    let own = c.own_items-own.result.now in
    let long : 0 < item_words row.kind → length own ≡ row.items =
    λ some. elim c.else-item_words-ne0.branch [
      | else-item_words-ne0-via-then-item_words-ne0+else-own-from w ↦ omega (arith, w.if-own-from.false, w.from.ensures)
      | else-item_words-ne0-via-else-item_words-ne0 w ↦ absurd (omega (arith, w.if-item_words-ne0.false, c.item_words.ensures.words))
    ]
    in
    let has : HasItems items row = (
      sym c.is_kind.ensures ∙ c.if-not-is_kind.false,
      λ some. ap (λ (t : List ItemRow). length t) (sym c.own_items-own.ensures) ∙ long some,
    )
    in
    let cause : BtfCause = c.in_err-part-2.field-0.0 in
    let refused : TypeRefusal c.args.strings.now items c.args.part row cause =
    item_refused c.args.strings.now items c.args.part c.loop-k.part row own c.loop-k.k (bare_item 0) cause has c.own_items-own.ensures c.loop-k-test.true c.loop-k.invariant c.in_err-part-2.ensures
    in
    grind (arith, refused, c.from_residual-in_err-part-2.ensures.1)
