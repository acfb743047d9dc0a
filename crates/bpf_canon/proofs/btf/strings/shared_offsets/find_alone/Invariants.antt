use Rattle.bpf_canon.specs.btf.strings.InHost.{FindsRanks}
use Rattle.bpf_canon.proofs.btf.strings.shared_offsets.find_alone.Given as goal

abbrev pub invariant-loop-rank : goal.invariant-loop-rank
invariant-loop-rank g l = FindsRanks l.uses l.ranked l.in_hosts l.rank
