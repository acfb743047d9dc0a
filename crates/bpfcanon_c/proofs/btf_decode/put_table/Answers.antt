use Rattle.std.proofs.Common.{◌≡◌, ◌<◌, ◌++◌, ◌⊎◌, ◌∙◌, ℕ, List, length, take, drop, sym, ap, refl, arith, inl, inr, subst}
use Rattle.std.specs.List.{AllZip, flat_map}
use Rattle.std.proofs.lemmas.List.{take-append-drop}
use Rattle.bpf_words.specs.declared.Order.{Order}
use Rattle.btf_raw.specs.Header.{types_at}
use Rattle.bpfcanon_c.specs.declared.btf_rows.{TypeRow.TypeRow, ItemRow.ItemRow}
use Rattle.bpfcanon_c.specs.BtfRows.{SaysItem, SaysType, items_in, placed, placed_items, types_in}
use Rattle.std.proofs.lemmas.Slice.Zip.{AllZip-long}
use Rattle.bpfcanon_c.proofs.BtfPlaces.{length-placed, length-placed_items}
use Rattle.bpfcanon_c.proofs.BtfStarts.{starts}
use Rattle.bpfcanon_c.proofs.btf_decode.put_table.Goals as goal

pub item_total-total-requires : goal.item_total-total-requires
item_total-total-requires c =
    let s = starts c.args.bytes.now c.args.header c.args.table.now c.requires.header c.requires.denotes in
    omega (arith, s.fits, s.short)

pub returns-then-types-count : goal.returns-then-types-count
returns-then-types-count c =
    let s = starts c.args.bytes.now c.args.header c.args.table.now c.requires.header c.requires.denotes in
    let n = c.count-count.result in
    let m = c.item_total-total.result in
    let short : (length c.args.types.now < n) ⊎ (length c.args.items.now < m) = elim c.then-types-count.either [ inl few ↦ inl few | inr both ↦ inr both.1 ] in (
      record {
        v = c.args.table.now;
        denotes = c.requires.denotes;
        count = c.count-count.ensures.count;
        total = c.item_total-total.ensures;
        short = short;
        fits = omega (arith, s.fits, c.count-count.ensures.count, c.item_total-total.ensures);
      },
      (refl, refl),
    )

pub put_all-requires-clause-few : goal.put_all-requires-clause-few
put_all-requires-clause-few c =
    let s = starts c.args.bytes.now c.args.header c.args.table.now c.requires.header c.requires.denotes in
    omega (arith, s.fits, s.short)

pub put_all-requires-clause-left : goal.put_all-requires-clause-left
put_all-requires-clause-left c =
    (starts c.args.bytes.now c.args.header c.args.table.now c.requires.header c.requires.denotes).rest

pub returns : goal.returns
returns c =
    let bytes = c.args.bytes.now in
    let v = c.args.table.now in
    let d = c.requires.denotes in
    let s = starts bytes c.args.header v c.requires.header d in
    let n = c.count-count.result in
    let m = c.item_total-total.result in
    let types = c.put_all.new.types in
    let items = c.put_all.new.items in
    let start = c.args.header.types_pos in
    let is_start : start ≡ types_at c.args.header.order bytes = c.requires.header.types_pos in
    let places = length (placed start 0 v) in
    let item_offsets = length (flat_map placed_items (placed start 0 v)) in
    let n-is : n ≡ places = c.count-count.ensures.count ∙ sym (length-placed start 0 v) in
    let m-is : m ≡ item_offsets = c.item_total-total.ensures ∙ sym (length-placed_items start 0 v) in
    let rows = take places types in
    let item_rows = take item_offsets items in
    let types_said : AllZip (SaysType d.order bytes) rows (types_in d.order bytes v) =
    subst (λ (o : Order). AllZip (SaysType o bytes) rows (types_in o bytes v)) s.order
    (subst (λ (at : ℕ). AllZip (SaysType c.args.header.order bytes) rows (placed at 0 v)) is_start c.put_all.ensures.types.said)
    in
    let items_said : AllZip (SaysItem d.order bytes) item_rows (items_in d.order bytes v) =
    subst (λ (o : Order). AllZip (SaysItem o bytes) item_rows (items_in o bytes v)) s.order
    (subst (λ (at : ℕ). AllZip (SaysItem c.args.header.order bytes) item_rows (flat_map placed_items (placed at 0 v))) is_start c.put_all.ensures.items.said)
    in
    let t-long : length rows ≡ places = sym (AllZip-long (SaysType c.args.header.order bytes) rows (placed start 0 v) c.put_all.ensures.types.said) in
    let i-long : length item_rows ≡ item_offsets =
    sym (AllZip-long (SaysItem c.args.header.order bytes) item_rows (flat_map placed_items (placed start 0 v)) c.put_all.ensures.items.said)
    in
    record {
      rows = rows;
      item_rows = item_rows;
      decoded = record {
        v = v;
        denotes = d;
        types_say = types_said;
        items_say = items_said;
        fits = omega (arith, s.fits, t-long, i-long, length-placed start 0 v, length-placed_items start 0 v);
      };
      count = n-is ∙ sym t-long;
      total = m-is ∙ sym i-long;
      types_are =
          sym (take-append-drop places types) ∙ ap (λ (x : List TypeRow). rows ++ x) (c.put_all.ensures.types.kept ∙ ap (λ (k : ℕ). drop k c.args.types.now) (sym n-is));
      items_are =
          sym (take-append-drop item_offsets items) ∙ ap (λ (x : List ItemRow). item_rows ++ x) (c.put_all.ensures.items.kept ∙ ap (λ (k : ℕ). drop k c.args.items.now) (sym m-is));
    }
