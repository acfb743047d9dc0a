use Rattle.std.proofs.Common.{◌≡◌, ℕ, ◌<◌, length}
use Rattle.std.specs.Prelude.{slice_index}
use Rattle.bpf_canon.specs.btf.strings.Ranks.{IsLower}
use Rattle.bpf_canon.proofs.btf.strings.ranked_texts.lower_ranks.Given as goal

abbrev pub invariant-loop-k : goal.invariant-loop-k
invariant-loop-k g l = (length l.lower.items ≡ l.k) × ((j : ℕ) → j < l.k → 0 < slice_index l.common j → IsLower l.common (slice_index l.lower.items j) j)
