use Rattle.std.proofs.Common.{◌≡◌, ℕ, ◌+◌, ◌-◌, ◌<◌, refl, length, set, arith, subst, sym}
use Rattle.bpf_canon.specs.btf.strings.{InHost.sorted_in, InHost.FindsRanks, UsedOffsets.offset_number}
use Rattle.bpf_canon.specs.declared.btf.strings.shared_offsets.InHost.{InHost}
use Rattle.bpf_canon.proofs.BtfLemmas.Strings.InHostSteps.{StepsBack, hosts_more, steps_alone, finds_read}
use Rattle.bpf_canon.proofs.btf.strings.shared_offsets.find_alone.Given.{Over}
use Rattle.bpf_canon.proofs.btf.strings.shared_offsets.find_alone.Goals.{After-index-in-loop-rank}
use Rattle.bpf_canon.proofs.btf.strings.shared_offsets.find_alone.Goals as goal

step : (g : Over) (c : After-index-in-loop-rank g)
    → StepsBack c.args.ranked.now.section.now c.args.uses.now.slots c.args.ranked.now.texts.items c.args.ranked.now.common.items c.args.ranked.now.host_ranks.items c.requires.texts.ranked c.requires.texts.longest.used
    c.loop-rank.rank c.index-text.result.now.start c.loop-rank.rank c.loop-rank.rank c.index-host.result.now c.index-text.result.now c.index-in-loop-rank.result.now
step g c =
    let r = c.args.ranked.now in
    steps_alone r.section.now c.args.uses.now.slots r.texts.items r.common.items r.host_ranks.items c.requires.texts.ranked c.requires.texts.longest.used c.loop-rank.rank c.index.result.now c.index-host.result.now c.index-text.result.now
    c.index-in-loop-rank.result.now (omega arith) c.index.ensures (omega (arith, c.if-index-len.false, c.len.ensures)) c.index-text.ensures c.index-host.ensures c.index-in-loop-rank.ensures

pub overflow_sub-before : goal.overflow_sub-before
overflow_sub-before g c =
    omega (arith, (step g (goal.at.overflow_sub-before g c).After-index-in-loop-rank).shorter, c.len-len.ensures, c.len-in-loop-rank.ensures)

pub loop-rank-preserved : goal.loop-rank-preserved
loop-rank-preserved g c =
    let r = c.args.ranked.now in
    let slots = c.args.uses.now.slots in
    let t = c.index-text.result.now in
    let u = c.index-in-loop-rank.result.now in
    let inside : c.loop-rank.rank < length r.texts.items = omega arith in
    let is = step g (goal.at.loop-rank-preserved g c).After-index-in-loop-rank in
    let old = c.loop-rank.in_hosts in
    let h : InHost = record { host = c.index-host.result.now; before = c.len-len.result - c.len-in-loop-rank.result; len = c.len-len.result } in
    let before : h.before + (t.end - t.start) ≡ u.end - u.start = omega (arith, is.shorter, c.len-len.ensures, c.len-in-loop-rank.ensures) in
    subst (λ (n : ℕ). FindsRanks c.args.uses.now r (set old n h) (c.loop-rank.rank + 1)) (sym c.number.ensures.number)
    (hosts_more r.section.now slots r.texts.items (sorted_in r) c.requires.texts.longest old (set old (offset_number slots t.start) h) c.loop-rank.rank c.loop-rank.invariant inside
    (finds_read r.section.now slots r.texts.items c.requires.texts.longest c.loop-rank.rank t inside c.index-text.ensures (sorted_in r) old h (c.are_unused.ensures.yes c.if-not-are_unused.false) c.loop-rank.invariant.whole (is.in_hosts h refl before c.len-len.ensures)))
