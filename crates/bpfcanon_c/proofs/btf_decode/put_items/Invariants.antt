use Rattle.std.proofs.Common.{◌≡◌, ◌+◌, ◌*◌, take, drop}
use Rattle.std.specs.List.{AllZip}
use Rattle.btf_types.specs.tables.TableWords.{record_at}
use Rattle.bpfcanon_c.specs.{BtfRows.SaysItem, BtfRows.items_from, BtfRest.Rest, BtfRest.item_bytes}
use Rattle.bpfcanon_c.proofs.btf_decode.put_items.Given as goal

abbrev pub invariant-loop-k : goal.invariant-loop-k
invariant-loop-k l = record {
  left : Rest l.order l.bytes l.at l.strings_at l.items_at.flag (drop l.k (record_at l.table l.id).items) (drop l.id l.table);
  at_offset : l.at ≡ l.items_at.start + item_bytes l.items_at.kind * l.k;
  said : AllZip (SaysItem l.order l.bytes) (take l.k l.out) (items_from l.items_at.start (item_bytes l.items_at.kind) (take l.k (record_at l.table l.id).items));
}
