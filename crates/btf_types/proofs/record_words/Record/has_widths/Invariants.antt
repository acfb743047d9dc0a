use Rattle.std.proofs.Common.{◌≡◌, ℕ, ◌+◌, ◌*◌, ◌/◌, ◌^◌, ◌<◌}
use Rattle.std.specs.Prelude.{slice_index}
use Rattle.btf_types.proofs.record_words.Record.has_widths.Given as goal

abbrev pub invariant-loop-k : goal.invariant-loop-k
invariant-loop-k l = (i : ℕ) → i < l.k → slice_index l.self (5 + 3 * i) / 2 ^ 24 ≡ 0
