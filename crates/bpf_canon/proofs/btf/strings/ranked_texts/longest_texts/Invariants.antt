use Rattle.std.proofs.Common.{◌-◌, length}
use Rattle.bpf_canon.proofs.BtfLemmas.Strings.LongestSteps.{LongestTo}
use Rattle.bpf_canon.proofs.btf.strings.ranked_texts.longest_texts.Given as goal

abbrev pub invariant-texts : goal.invariant-texts
invariant-texts g l = LongestTo l.section l.uses.slots l.longest.items l.off

abbrev pub decreases-texts : goal.decreases-texts
decreases-texts g l = length l.section - l.off
