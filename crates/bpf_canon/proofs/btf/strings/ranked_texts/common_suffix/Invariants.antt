use Rattle.std.proofs.Common.{◌≡◌, ℕ, ◌-◌, ◌<◌, length, get_or}
use Rattle.bpf_canon.proofs.btf.strings.ranked_texts.common_suffix.Given as goal

abbrev pub invariant-loop-n : goal.invariant-loop-n
invariant-loop-n l = (j : ℕ) → j < l.n → get_or l.a (length l.a - 1 - j) 0 ≡ get_or l.b (length l.b - 1 - j) 0
