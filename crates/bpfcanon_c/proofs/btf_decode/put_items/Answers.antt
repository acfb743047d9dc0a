-- The next item, its name and what is left after it.
use Rattle.std.proofs.Common.{◌≡◌, ◌<◌, ◌+◌, ◌*◌, ◌^◌, ◌++◌, ◌∷◌, ◌∙◌, ℕ, [], length, take, drop, sym, ap, arith, subst, add-one}
use Rattle.std.proofs.Math.Nat.{mul-suc}
use Rattle.btf_raw.specs.{Header.strings_at, Names.NameAt}
use Rattle.btf_types.specs.{Names.item_name, tables.TableWords.record_at}
use Rattle.bpfcanon_c.specs.declared.btf_rows.ItemRow.{ItemRow}
use Rattle.bpfcanon_c.specs.{BtfRest.Rest, BtfRest.item_bytes, BtfRest.item_name_at, BtfRows.SaysItem, BtfRows.item_name_off, BtfRows.item_row, BtfRows.items_from}
use Rattle.bpfcanon_c.proofs.BtfRest.{next_item, ended}
use Rattle.bpfcanon_c.proofs.{BtfPlaces.items_from_more, BtfRows.zip_more, BtfRows.says_item}
use Rattle.bpfcanon_c.proofs.btf_decode.put_items.Goals as goal

pub get32-requires : goal.get32-requires
get32-requires c =
    let is = (record_at c.args.table.now c.args.id).items in
    let v = drop c.args.id c.args.table.now in
    let k = c.loop-k.k in
    let inside : k < length is = omega (arith, c.requires.count, c.loop-k-test.true) in
    let next = next_item c.args.order c.args.bytes.now c.loop-k.at c.args.strings_at c.args.items_at.kind c.args.items_at.flag is k v c.requires.kinds inside c.loop-k.invariant.left in
    next.first

pub item_name_at-name-requires : goal.item_name_at-name-requires
item_name_at-name-requires c =
    let is = (record_at c.args.table.now c.args.id).items in
    let v = drop c.args.id c.args.table.now in
    let k = c.loop-k.k in
    let inside : k < length is = omega (arith, c.requires.count, c.loop-k-test.true) in
    let next = next_item c.args.order c.args.bytes.now c.loop-k.at c.args.strings_at c.args.items_at.kind c.args.items_at.flag is k v c.requires.kinds inside c.loop-k.invariant.left in
    subst (λ (n : ℕ). item_name_at c.args.items_at.kind c.args.strings_at n < 2 ^ 32) (sym c.get32.ensures.value) next.fits

pub item_name_len-name_len-requires-clause-named : goal.item_name_len-name_len-requires-clause-named
item_name_len-name_len-requires-clause-named c =
    let is = (record_at c.args.table.now c.args.id).items in
    let v = drop c.args.id c.args.table.now in
    let k = c.loop-k.k in
    let inside : k < length is = omega (arith, c.requires.count, c.loop-k-test.true) in
    let next = next_item c.args.order c.args.bytes.now c.loop-k.at c.args.strings_at c.args.items_at.kind c.args.items_at.flag is k v c.requires.kinds inside c.loop-k.invariant.left in
    let at : c.item_name_at-name.result ≡ item_name_at c.args.items_at.kind c.args.strings_at _ = c.item_name_at-name.ensures ∙ ap (λ (n : ℕ). item_name_at c.args.items_at.kind c.args.strings_at n) c.get32.ensures.value in
    record {
      item = next.item;
      is_there = next.is_there;
      named = subst (λ (n : ℕ). NameAt c.args.bytes.now n (item_name next.item)) (sym at) next.named;
      short = next.long;
    }

pub item_at-requires : goal.item_at-requires
item_at-requires c =
    let is = (record_at c.args.table.now c.args.id).items in
    let v = drop c.args.id c.args.table.now in
    let k = c.loop-k.k in
    let inside : k < length is = omega (arith, c.requires.count, c.loop-k-test.true) in
    let next = next_item c.args.order c.args.bytes.now c.loop-k.at c.args.strings_at c.args.items_at.kind c.args.items_at.flag is k v c.requires.kinds inside c.loop-k.invariant.left in
    next.room

pub loop-k-preserved : goal.loop-k-preserved
loop-k-preserved c =
    let is = (record_at c.args.table.now c.args.id).items in
    let v = drop c.args.id c.args.table.now in
    let k = c.loop-k.k in
    let inside : k < length is = omega (arith, c.requires.count, c.loop-k-test.true) in
    let next = next_item c.args.order c.args.bytes.now c.loop-k.at c.args.strings_at c.args.items_at.kind c.args.items_at.flag is k v c.requires.kinds inside c.loop-k.invariant.left in
    let i = next.item in
    let bytes = c.args.bytes.now in
    let name = c.item_name_at-name.result in
    let at : name ≡ item_name_at c.args.items_at.kind c.args.strings_at _ = c.item_name_at-name.ensures ∙ ap (λ (n : ℕ). item_name_at c.args.items_at.kind c.args.strings_at n) c.get32.ensures.value in
    let len : c.item_name_len-name_len.result ≡ length (item_name i) = c.item_name_len-name_len.ensures i next.is_there in
    let parts = c.item_at.ensures ∙ sym next.fields in
    let row : ItemRow = record c.item_at.result { name = name; name_len = c.item_name_len-name_len.result } in
    let is_row : row ≡ item_row name i = ap (λ (p : ItemRow). record p { name = name; name_len = c.item_name_len-name_len.result }) parts ∙ ap (λ (n : ℕ). record (item_row name i) { name_len = n }) len in
    let named : NameAt bytes name (item_name i) = subst (λ (n : ℕ). NameAt bytes n (item_name i)) (sym at) next.named in
    let o = c.args.order in
    let here : name ≡ strings_at o bytes + item_name_off o bytes (c.loop-k.at, i) = at ∙ next.at_offset in
    let start = c.args.items_at.start in
    let size = item_bytes c.args.items_at.kind in
    let before = items_from start size (take k is) in
    let at_offset : c.loop-k.at ≡ start + size * k = c.loop-k.invariant.at_offset in
    let more : items_from start size (take (k + 1) is) ≡ before ++ (c.loop-k.at, i) ∷ [] =
    items_from_more start size is k i inside next.is_there ∙ ap (λ (n : ℕ). before ++ (n, i) ∷ []) (sym at_offset)
    in
    record {
      left = subst (λ (n : ℕ). Rest o bytes (c.loop-k.at + n) c.args.strings_at c.args.items_at.flag (drop (k + 1) is) v) (sym c.item_len-at.ensures) next.rest;
      at_offset = omega (arith, at_offset, c.item_len-at.ensures, mul-suc size k, ap (λ (n : ℕ). size * n) (add-one k));
      said =
          zip_more (SaysItem o bytes) c.loop-k.out k row before _ (c.loop-k.at, i) (omega arith) c.loop-k.invariant.said more
          (says_item o bytes row name c.loop-k.at i is_row here named);
    }

pub returns-clause-left : goal.returns-clause-left
returns-clause-left c =
    let is = (record_at c.args.table.now c.args.id).items in
    let v = drop c.args.id c.args.table.now in
    ended c.args.order c.args.bytes.now c.loop-k.at c.args.strings_at c.args.items_at.flag is c.loop-k.k v (omega (arith, c.requires.count, c.loop-k-test.false)) c.loop-k.invariant.left

pub returns-clause-end : goal.returns-clause-end
returns-clause-end c =
    let all : c.loop-k.k ≡ length (record_at c.args.table.now c.args.id).items = omega (arith, c.requires.count, c.loop-k-test.false) in
    c.loop-k.invariant.at_offset ∙ ap (λ (n : ℕ). c.args.items_at.start + item_bytes c.args.items_at.kind * n) all
