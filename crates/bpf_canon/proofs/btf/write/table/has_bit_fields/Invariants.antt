use Rattle.std.proofs.Common.{◌≡◌, false, take}
use Rattle.std.specs.List.{list_any}
use Rattle.btf_types.specs.{Valid.has_width, tables.TableWords.record_at}
use Rattle.bpf_canon.proofs.btf.write.table.has_bit_fields.Given as goal

abbrev pub invariant-loop-k : goal.invariant-loop-k
invariant-loop-k g l = list_any has_width (take l.k (record_at (g.T.TypeTable.meaning l.table) l.id).items) ≡ false
