use Rattle.std.proofs.Common.{◌≡◌, ◌+◌, length, take, drop, []}
use Rattle.std.specs.List.{AllZip, flat_map, sum_by}
use Rattle.btf_types.specs.Valid.{record_size}
use Rattle.bpfcanon_c.specs.BtfRows.{SaysItem, SaysType, items_of, placed, placed_items}
use Rattle.bpfcanon_c.specs.BtfRest.{Rest}
use Rattle.bpfcanon_c.proofs.btf_decode.put_all.Given as goal

abbrev pub invariant-loop-k : goal.invariant-loop-k
invariant-loop-k l = record {
  left : Rest l.order l.bytes l.at l.strings_at 0 [] (drop l.k l.table);
  at_offset : l.at ≡ l.start + sum_by record_size (take l.k l.table);
  count : l.first ≡ length (items_of (take l.k l.table));
  types_said : AllZip (SaysType l.order l.bytes) (take l.k l.types) (placed l.start 0 (take l.k l.table));
  types_kept : drop l.k l.types ≡ drop l.k l.initial.types;
  items_said : AllZip (SaysItem l.order l.bytes) (take l.first l.items) (flat_map placed_items (placed l.start 0 (take l.k l.table)));
  items_kept : drop l.first l.items ≡ drop l.first l.initial.items;
}
