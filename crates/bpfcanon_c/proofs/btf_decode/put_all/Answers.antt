use Rattle.std.proofs.Common.{◌≡◌, ◌<◌, ◌≤◌, ◌+◌, ◌*◌, ◌-◌, ◌++◌, ◌^◌, ◌∷◌, [], ℕ, List, length, take, drop, refl, sym, ap, arith, subst, ◌∙◌, length-append}
use Rattle.std.specs.List.{AllZip, flat_map}
use Rattle.std.proofs.lemmas.List.{drop-drop, drop-set-lt, take_all}
use Rattle.std.proofs.lemmas.Grind.{drop_more_same}
use Rattle.std.proofs.lemmas.Slice.{take-put_mid, drop-put_mid}
use Rattle.std.proofs.lemmas.Slice.Zip.{AllZip-long}
use Rattle.bpf_words.specs.Words.{word32_at}
use Rattle.btf_raw.specs.{Header.strings_at, Kinds.flag_of, Names.NameAt}
use Rattle.btf_types.specs.Values.{TypeRecord, TypeItem}
use Rattle.btf_types.specs.{Names.head_name, tables.TableWords.record_at}
use Rattle.bpfcanon_c.specs.declared.btf_rows.{ItemRow.ItemRow}
use Rattle.bpfcanon_c.specs.BtfRest.{Rest, head_bytes, item_bytes, item_kind}
use Rattle.bpfcanon_c.specs.BtfRows.{SaysItem, SaysType, PlacedType, items_from, items_of, placed, placed_items}
use Rattle.bpfcanon_c.proofs.BtfRest.{take_head, TakesHead}
use Rattle.bpfcanon_c.proofs.BtfRows.{cut_at, zip_more, zip_append, record_is, items_more, items_within, says_type}
use Rattle.bpfcanon_c.proofs.BtfPlaces.{placed_more, placed_items_more, sizes_more, items_placed, kinds_fit, length-items_from, length-placed, length-placed_items}
use Rattle.bpfcanon_c.proofs.btf_decode.put_all.Goals as goal

takes : (o : _) (bytes : List ℕ) (at strings_at : ℕ) (v : List TypeRecord) (k : ℕ) → k < length v
    → Rest o bytes at strings_at 0 [] (drop k v) → TakesHead o bytes at strings_at (record_at v (k + 1)) (drop (k + 1) v)
takes o bytes at strings_at v k h r =
    take_head o bytes at strings_at (record_at v (k + 1)) (drop (k + 1) v) (subst (λ (xs : List TypeRecord). Rest o bytes at strings_at 0 [] xs) (cut_at v k (record_at v (k + 1)) h (record_is v k h)) r)

pub get32-requires : goal.get32-requires
get32-requires c =
    let t = takes c.args.order c.args.bytes.now c.loop-k.at c.args.strings_at c.args.table.now c.loop-k.k (omega (arith, c.count-k-end.ensures.count)) c.loop-k.invariant.left in
    omega (arith, t.room)

pub get32-requires-in-loop-k : goal.get32-requires-in-loop-k
get32-requires-in-loop-k c =
    let t = takes c.args.order c.args.bytes.now c.loop-k.at c.args.strings_at c.args.table.now c.loop-k.k (omega (arith, c.count-k-end.ensures.count)) c.loop-k.invariant.left in
    omega (arith, t.room)

pub overflow_add-name : goal.overflow_add-name
overflow_add-name c =
    let t = takes c.args.order c.args.bytes.now c.loop-k.at c.args.strings_at c.args.table.now c.loop-k.k (omega (arith, c.count-k-end.ensures.count)) c.loop-k.invariant.left in
    let fits : c.args.strings_at + c.get32.result < 2 ^ 32 = subst (λ (n : ℕ). c.args.strings_at + n < 2 ^ 32) (sym c.get32.ensures.value) t.fits in
    omega (arith, fits)

pub overflow_cast-first : goal.overflow_cast-first
overflow_cast-first c =
    let within = items_within c.args.table.now c.loop-k.k (omega (arith, c.count-k-end.ensures.count)) in
    omega (arith, c.loop-k.invariant.count, c.requires.few)

pub overflow_cast-count : goal.overflow_cast-count
overflow_cast-count c =
    let t = takes c.args.order c.args.bytes.now c.loop-k.at c.args.strings_at c.args.table.now c.loop-k.k (omega (arith, c.count-k-end.ensures.count)) c.loop-k.invariant.left in
    omega (arith, t.few, c.item_count-count.ensures)

pub type_row-requires : goal.type_row-requires
type_row-requires c =
    let t = takes c.args.order c.args.bytes.now c.loop-k.at c.args.strings_at c.args.table.now c.loop-k.k (omega (arith, c.count-k-end.ensures.count)) c.loop-k.invariant.left in
    subst (λ x. length (head_name x) < 2 ^ 32) (sym c.file_head-head.ensures) t.long

pub slice_bounds-part-end : goal.slice_bounds-part-end
slice_bounds-part-end c =
    let within = items_within c.args.table.now c.loop-k.k (omega (arith, c.count-k-end.ensures.count)) in
    omega (arith, c.loop-k.invariant.count, c.item_count-count.ensures, c.requires.items_within)

pub put_items-at-requires-clause-left : goal.put_items-at-requires-clause-left
put_items-at-requires-clause-left c =
    let o = c.args.order in
    let bytes = c.args.bytes.now in
    let v = c.args.table.now in
    let k = c.loop-k.k in
    let r = record_at v (k + 1) in
    let t = takes o bytes c.loop-k.at c.args.strings_at v k (omega (arith, c.count-k-end.ensures.count)) c.loop-k.invariant.left in
    let same : head_bytes r.head ≡ c.head_len.result = sym (c.head_len.ensures ∙ ap head_bytes c.file_head-head.ensures) in
    let flag : flag_of (word32_at o bytes (c.loop-k.at + 4)) ≡ c.flag_of.result = sym (c.flag_of.ensures ∙ ap flag_of c.get32-in-loop-k.ensures.value) in
    subst (λ (n : ℕ). Rest o bytes (c.loop-k.at + n) c.args.strings_at c.flag_of.result r.items (drop (k + 1) v)) same
    (subst (λ (f : ℕ). Rest o bytes (c.loop-k.at + head_bytes r.head) c.args.strings_at f r.items (drop (k + 1) v)) flag t.rest)

pub put_items-at-requires-clause-kinds : goal.put_items-at-requires-clause-kinds
put_items-at-requires-clause-kinds c =
    let v = c.args.table.now in
    let k = c.loop-k.k in
    let fits = kinds_fit v k c.count-k-end.ensures.valid (omega (arith, c.count-k-end.ensures.count)) in
    let is : c.item_kind.result ≡ item_kind (record_at v (k + 1)).head = c.item_kind.ensures ∙ ap item_kind c.file_head-head.ensures in
    λ n d h. fits n d h ∙ sym is

pub loop-k-preserved : goal.loop-k-preserved
loop-k-preserved c =
    let o = c.args.order in
    let bytes = c.args.bytes.now in
    let v = c.args.table.now in
    let start = c.args.start in
    let k = c.loop-k.k in
    let r = record_at v (k + 1) in
    let inside : k < length v = omega (arith, c.count-k-end.ensures.count) in
    let within = items_within v k inside in
    let at = c.loop-k.at in
    let first = c.loop-k.first in
    let t = takes o bytes at c.args.strings_at v k inside c.loop-k.invariant.left in
    let before = placed start 0 (take k v) in
    let here : PlacedType = record { at = at; first = first; type = r } in
    let more : placed start 0 (take (k + 1) v) ≡ before ++ here ∷ [] =
    placed_more start v k inside
    ∙ ap (λ (n : ℕ). before ++ record { at = n; first = length (items_of (take k v)); type = r } ∷ []) (sym c.loop-k.invariant.at_offset)
    ∙ ap (λ (n : ℕ). before ++ record { at = at; first = n; type = r } ∷ []) (sym c.loop-k.invariant.count)
    in
    let count = c.item_count-count.result in
    let written = c.put_items-at.new.out in
    let counted : count ≡ length r.items = c.item_count-count.ensures in
    let begins : first ≤ length c.loop-k.items = omega (arith, c.loop-k.invariant.count, c.requires.items_within) in
    let middle : first + count - first ≡ count = omega arith in
    let head : head_bytes r.head ≡ c.head_len.result = sym (c.head_len.ensures ∙ ap head_bytes c.file_head-head.ensures) in
    let kind : item_kind r.head ≡ c.item_kind.result = sym (c.item_kind.ensures ∙ ap item_kind c.file_head-head.ensures) in
    let ip = items_placed at first v k c.count-k-end.ensures.valid inside in
    let size = item_bytes c.item_kind.result in
    let items_are : items_from (at + c.head_len.result) size r.items ≡ placed_items here =
    ap (λ (n : ℕ). items_from (at + n) size r.items) (sym head)
    ∙ ap (λ (n : ℕ). items_from (at + head_bytes r.head) (item_bytes n) r.items) (sym kind) ∙ ip.items
    in
    let items_say : AllZip (SaysItem o bytes) written (placed_items here) = subst (λ (is : List (ℕ × TypeItem)). AllZip (SaysItem o bytes) written is) items_are c.put_items-at.ensures.said in
    let said_long : length written ≡ count = omega (arith, AllZip-long (SaysItem o bytes) written _ c.put_items-at.ensures.said, length-items_from (at + c.head_len.result) size r.items) in
    let name = subst (λ (n : ℕ). NameAt bytes (c.args.strings_at + n) (head_name r.head)) (sym c.get32.ensures.value) t.named in
    let at_offset : c.args.strings_at + c.get32.result ≡ strings_at o bytes + word32_at o bytes at =
    ap (λ (n : ℕ). c.args.strings_at + n) c.get32.ensures.value ∙ ap (λ (n : ℕ). n + word32_at o bytes at) t.rest.strings_are
    in
    let says : SaysType o bytes c.type_row.result here =
    says_type o bytes c.type_row.result (c.args.strings_at + c.get32.result) first count _ here c.type_row.ensures at_offset refl c.file_head-head.ensures counted name
    in
    let sizes : item_bytes (item_kind r.head) * length r.items ≡ size * length r.items = ap (λ (n : ℕ). item_bytes n * length r.items) kind in
    record {
      left = c.put_items-at.ensures.left;
      at_offset = omega (arith, c.put_items-at.ensures.end, head, sizes, ip.end, sizes_more v k inside, c.loop-k.invariant.at_offset);
      count = omega (arith, c.loop-k.invariant.count, ap length (items_more v k inside), length-append (items_of (take k v)) r.items, counted);
      types_said = zip_more (SaysType o bytes) c.loop-k.types k c.type_row.result before _ here (omega (arith, c.requires.types_within)) c.loop-k.invariant.types_said more says;
      types_kept = drop-set-lt (k + 1) c.loop-k.types k c.type_row.result (omega arith) ∙ drop_more_same c.loop-k.types c.args.types.now k c.loop-k.invariant.types_kept;
      items_said =
          subst (λ (xs : List ItemRow). AllZip (SaysItem o bytes) xs (flat_map placed_items (placed start 0 (take (k + 1) v))))
          (sym (take-put_mid first (first + count - first) c.loop-k.items written (first + count) (omega arith) begins))
          (subst (λ (is : List (ℕ × TypeItem)). AllZip (SaysItem o bytes) (take first c.loop-k.items ++ written) is) (sym (placed_items_more start v k here more))
          (zip_append (SaysItem o bytes) (take first c.loop-k.items) written (flat_map placed_items before) (placed_items here) c.loop-k.invariant.items_said items_say));
      items_kept =
          drop-put_mid first (first + count - first) c.loop-k.items written (first + count) (omega arith) begins (omega arith)
          ∙ sym (drop-drop count first c.loop-k.items) ∙ ap (λ (xs : List ItemRow). drop count xs) c.loop-k.invariant.items_kept ∙ drop-drop count first c.args.items.now;
    }

pub returns-clause-types : goal.returns-clause-types
returns-clause-types c =
    let v = c.args.table.now in
    let start = c.args.start in
    let all : c.loop-k.k ≡ length v = omega (arith, c.count-k-end.ensures.count) in
    let whole : take c.loop-k.k v ≡ v = take_all c.loop-k.k v (omega arith) in
    let same : c.loop-k.k ≡ length (placed start 0 v) = all ∙ sym (length-placed start 0 v) in
    let R = SaysType c.args.order c.args.bytes.now in
    record {
      said = subst (λ (n : ℕ). AllZip R (take n c.loop-k.types) (placed start 0 v)) same (subst (λ (x : List TypeRecord). AllZip R (take c.loop-k.k c.loop-k.types) (placed start 0 x)) whole c.loop-k.invariant.types_said);
      kept = subst (λ (n : ℕ). drop n c.loop-k.types ≡ drop n c.args.types.now) same c.loop-k.invariant.types_kept;
    }

pub returns-clause-items : goal.returns-clause-items
returns-clause-items c =
    let v = c.args.table.now in
    let start = c.args.start in
    let items : List TypeRecord → List (ℕ × TypeItem) = λ v. flat_map placed_items (placed start 0 v) in
    let all : c.loop-k.k ≡ length v = omega (arith, c.count-k-end.ensures.count) in
    let whole : take c.loop-k.k v ≡ v = take_all c.loop-k.k v (omega arith) in
    let same : c.loop-k.first ≡ length (items v) =
    c.loop-k.invariant.count ∙ ap (λ (x : List TypeRecord). length (items_of x)) whole ∙ sym (length-placed_items start 0 v)
    in
    let R = SaysItem c.args.order c.args.bytes.now in
    record {
      said = subst (λ (n : ℕ). AllZip R (take n c.loop-k.items) (items v)) same (subst (λ (x : List TypeRecord). AllZip R (take c.loop-k.first c.loop-k.items) (items x)) whole c.loop-k.invariant.items_said);
      kept = subst (λ (n : ℕ). drop n c.loop-k.items ≡ drop n c.args.items.now) same c.loop-k.invariant.items_kept;
    }
