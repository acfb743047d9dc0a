use Rattle.std.proofs.Common.{◌≡◌, ℕ, ◌<◌, length, map}
use Rattle.std.specs.Prelude.{slice_index}
use Rattle.bpf_canon.specs.btf.strings.{Ranks.common_before, SectionTexts.text_in}
use Rattle.bpf_canon.proofs.btf.strings.ranked_texts.common_suffixes.Given as goal

abbrev pub invariant-loop-k : goal.invariant-loop-k
invariant-loop-k g l = (length l.common.items ≡ length l.sorted) × ((j : ℕ) → j < l.k → slice_index l.common.items j ≡ common_before (map (text_in l.section) l.sorted) j)
