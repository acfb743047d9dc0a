use Rattle.bpf_canon.proofs.BtfLemmas.Strings.DistinctSteps.{PlacedTo}
use Rattle.bpf_canon.proofs.btf.strings.distinct_offsets.name_table.Given as goal

abbrev pub invariant-loop-off : goal.invariant-loop-off
invariant-loop-off g l = PlacedTo l.strings l.used l.bytes.items l.text_offsets.items l.by_text l.limit l.off-index
