use Rattle.std.proofs.Common.{ℕ, ◌<◌, ◌≤◌}
use Rattle.std.specs.Prelude.{slice_index}
use Rattle.bpf_canon.proofs.btf.strings.ranked_texts.first_rank.Given as goal

abbrev pub invariant-back : goal.invariant-back
invariant-back l = (l.rank ≤ l.from) × ((j : ℕ) → l.rank < j → j ≤ l.from → l.len ≤ slice_index l.common j)

abbrev pub decreases-back : goal.decreases-back
decreases-back l = l.rank
