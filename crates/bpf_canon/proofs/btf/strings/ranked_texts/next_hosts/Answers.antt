use Rattle.std.proofs.Common.{◌≡◌, ℕ, ◌<◌, ◌≤◌, ◌+◌, ◌-◌, [], length, map, get_or, arith, ◌∙◌, sym, ap, subst, List}
use Rattle.std.proofs.lemmas.List.{get_or-map, length-map, length-set}
use Rattle.btf_types.specs.strings.CommonSuffixes.{at_rank, IsNextHost}
use Rattle.bpf_canon.specs.btf.strings.{Ranks.common_before, SectionTexts.text_in, InHost.no_text}
use Rattle.bpf_canon.proofs.BtfLemmas.Strings.RankSteps.{next_own, next_taken, hosts_step}
use Rattle.bpf_canon.proofs.btf.strings.ranked_texts.next_hosts.Goals as goal
use Rattle.bpf_canon.proofs.btf.strings.ranked_texts.next_hosts.Goals.{then-k-sorted, then-k-sorted-via-then-k-sorted, then-k-sorted-via-else-k-sorted+then-common-k, else-k-sorted+else-common-k}

pub loop-k-preserved : goal.loop-k-preserved
loop-k-preserved g c =
    let k = c.loop-k.k - 1 in
    let step : c.loop-k.k ≡ k + 1 = omega arith in
    let ts = c.args.sorted.now in
    let ms = map (text_in c.args.section.now) ts in
    let host_ranks = c.loop-k.host_ranks.items in
    let same = c.loop-k.invariant.0 in
    let long : length ms ≡ length ts = length-map ts (text_in c.args.section.now) in
    let inside : k < length ts = omega arith in
    let text : at_rank ms k ≡ c.text_of-len.result.now = get_or-map (text_in c.args.section.now) ts k no_text [] inside ∙ sym c.text_of-len.ensures in
    let host : IsNextHost ms k c.if-k-sorted.host =
    elim c.if-k-sorted.branch [
      | then-k-sorted w ↦ subst (IsNextHost ms k) (sym w.host-is) (next_own ms k (omega (arith, inside, long)) (λ more e. elim w.then-k-sorted.branch [
        | then-k-sorted-via-then-k-sorted u ↦ omega (arith, more, long, u.if-k-sorted.true)
        | then-k-sorted-via-else-k-sorted+then-common-k u ↦ u.if-common-k.true (c.requires.common.each (k + 1) more ∙ e ∙ ap (λ (t : List ℕ). length t) text)
      ]))
      | else-k-sorted+else-common-k w ↦
          let more : k + 1 < length ms = omega (arith, inside, w.if-k-sorted.false, long) in
          let len : common_before ms (k + 1) ≡ length (at_rank ms k) = sym (c.requires.common.each (k + 1) more) ∙ w.if-common-k.false ∙ ap (λ (t : List ℕ). length t) (sym text) in
          let next = subst (λ (n : ℕ). IsNextHost ms n c.loop-k.host) step (c.loop-k.invariant.1.1 (omega (arith, more, long, step))) in
          subst (IsNextHost ms k) (sym w.host-is) (next_taken ms k c.loop-k.host len next)
    ] in
    let after : (j : ℕ) → k + 1 ≤ j → j < length ms → IsNextHost ms j (get_or host_ranks j 0) = λ j low high. c.loop-k.invariant.1.0 j (omega (arith, low, step)) (omega (arith, high, long)) in (
      length-set host_ranks k c.if-k-sorted.host ∙ same,
      (λ j low high. hosts_step ms host_ranks k c.if-k-sorted.host (omega (arith, same, long)) (omega (arith, inside, long)) after host j low (omega (arith, high, long)), λ low. host),
    )
