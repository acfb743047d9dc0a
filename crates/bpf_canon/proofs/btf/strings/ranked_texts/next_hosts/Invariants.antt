use Rattle.std.proofs.Common.{◌≡◌, ℕ, ◌<◌, ◌≤◌, length, map}
use Rattle.std.specs.Prelude.{slice_index}
use Rattle.btf_types.specs.strings.CommonSuffixes.{IsNextHost}
use Rattle.bpf_canon.specs.btf.strings.SectionTexts.{text_in}
use Rattle.bpf_canon.proofs.btf.strings.ranked_texts.next_hosts.Given as goal

-- the ranks from this one on, and the host of this one
abbrev pub invariant-loop-k : goal.invariant-loop-k
invariant-loop-k g l =
    let ms = map (text_in l.section) l.sorted in
    (length l.host_ranks.items ≡ length l.sorted)
    × (((j : ℕ) → l.k ≤ j → j < length l.sorted → IsNextHost ms j (slice_index l.host_ranks.items j)) × (l.k < length l.sorted → IsNextHost ms l.k l.host))
