use Rattle.std.proofs.Common.{◌≡◌, ◌++◌}
use Rattle.btf_raw.specs.Frames.{bytes_of}
use Rattle.bpf_canon.proofs.BtfLemmas.Write.RecordWords.{items_to}
use Rattle.bpf_canon.proofs.btf.write.sections.push_record.Given as goal

-- the first three words, and the items so far
abbrev pub invariant-loop-k : goal.invariant-loop-k
invariant-loop-k g l = l.out.items ≡ l.initial.out.items ++ bytes_of l.to (items_to (g.N.NewOffsets.offset_of l.names) (g.N.NewOffsets.names l.names).strings l.this l.k)
