use Rattle.std.proofs.Common.{◌≡◌, ◌++◌, length, take}
use Rattle.std.specs.List.{flat_map}
use Rattle.btf_raw.specs.Frames.{bytes_of}
use Rattle.btf_types.specs.{strings.SharedNames.shared_among, Valid.has_bit_fields, tables.TableWords.record_at}
use Rattle.bpf_canon.specs.btf.{write.BtfWords.head_words, CanonicalBtf.words_of_item}
use Rattle.bpf_canon.proofs.btf.write.table.push_table_record.Given as goal

-- the head, and the items so far
abbrev pub invariant-loop-k : goal.invariant-loop-k
invariant-loop-k g l =
    let text_offset = shared_among l.names in
    let r = record_at (g.T.TypeTable.meaning l.table) l.id in
    l.out.items ≡ (l.fn.out.items ++ bytes_of l.order (head_words text_offset r.head (length r.items) (has_bit_fields r))) ++ bytes_of l.order (flat_map (words_of_item text_offset) (take l.k r.items))
