use Rattle.std.proofs.Common.{◌≡◌, ◌+◌, length, take, ap, arith, length-append}
use Rattle.btf_types.specs.tables.TableWords.{record_at}
use Rattle.bpfcanon_c.specs.BtfRows.{items_of}
use Rattle.bpfcanon_c.proofs.BtfRows.{items_more, items_within}
use Rattle.bpfcanon_c.proofs.btf_decode.item_total.Goals as goal

pub overflow_add-total : goal.overflow_add-total
overflow_add-total c =
    let within = items_within c.args.table.now c.loop-k.k (omega (arith, c.count-k-end.ensures.count)) in
    omega (arith, c.loop-k.invariant, c.item_count.ensures, c.requires)

pub loop-k-preserved : goal.loop-k-preserved
loop-k-preserved c =
    let v = c.args.table.now in
    let k = c.loop-k.k in
    let more = items_more v k (omega (arith, c.count-k-end.ensures.count)) in
    let same : c.loop-k.total + c.item_count.result ≡ length (items_of (take (k + 1) v)) =
    omega (arith, ap length more, length-append (items_of (take k v)) (record_at v (k + 1)).items, c.loop-k.invariant, c.item_count.ensures)
    in
    same
