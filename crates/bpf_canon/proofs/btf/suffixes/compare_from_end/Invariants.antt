use Rattle.std.proofs.Common.{◌≡◌, length}
use Rattle.btf_types.specs.strings.SharedNames.{suffix_cmp}
use Rattle.bpf_canon.proofs.btf.suffixes.compare_from_end.Given as goal

abbrev pub invariant-ends : goal.invariant-ends
invariant-ends l = suffix_cmp l.first l.second ≡ suffix_cmp l.fn.a l.fn.b

abbrev pub decreases-ends : goal.decreases-ends
decreases-ends l = length l.first
