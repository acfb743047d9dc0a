use Rattle.bpf_canon.specs.btf.strings.InHost.{sorted_in}
use Rattle.bpf_canon.proofs.BtfLemmas.Strings.HostOffsetSteps.{LaidTo, placed_to}
use Rattle.bpf_canon.proofs.btf.strings.shared_offsets.offset_hosts.Given as goal

abbrev pub invariant-loop-k : goal.invariant-loop-k
invariant-loop-k g l = LaidTo l.ranked.section.now (sorted_in l.ranked) (placed_to l.ranked l.uses l.k) l.by_rank.items l.spans.items l.len
