use Rattle.std.proofs.Common.{◌≡◌, ◌++◌, length, take}
use Rattle.std.specs.List.{flat_map}
use Rattle.btf_types.specs.tables.TableWords.{record_at}
use Rattle.bpf_text.specs.btf.BtfText.{head_line, is_signed, item_line}
use Rattle.bpf_text.proofs.btf.show.append_record.Given as goal

abbrev pub invariant-loop-k : goal.invariant-loop-k
invariant-loop-k g l =
    let r = record_at (g.T.TypeTable.meaning l.table) l.id in
    l.text.items ≡ (l.fn.text.items ++ head_line l.id r.head (length r.items)) ++ flat_map (item_line (is_signed r.head)) (take l.k r.items)
