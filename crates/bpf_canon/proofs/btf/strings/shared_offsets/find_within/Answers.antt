use Rattle.std.proofs.Common.{◌≡◌, ◌≢◌, ℕ, refl, ◌+◌, ◌-◌, List, map, get_or, set, arith, subst, sym, ap, ◌∙◌}
use Rattle.bpf_canon.specs.btf.strings.{SectionTexts.text_in, InHost.no_text, UsedOffsets.offset_number}
use Rattle.bpf_canon.specs.declared.btf.strings.shared_offsets.InHost.{InHost}
use Rattle.bpf_canon.proofs.BtfLemmas.Strings.InHostSteps.{WithinTo, steps_back, within_skips, within_finds}
use Rattle.bpf_canon.proofs.btf.strings.shared_offsets.find_within.Goals as goal
use Rattle.bpf_canon.proofs.btf.strings.shared_offsets.find_within.Goals.{then-is_used, else-is_used}

pub overflow_sub-before-then-is_used : goal.overflow_sub-before-then-is_used
overflow_sub-before-then-is_used g c =
    let r = c.args.ranked.now in
    let step = steps_back r.section.now c.args.uses.now.slots r.texts.items r.common.items r.host_ranks.items c.requires.texts.ranked c.requires.texts.longest.used c.args.rank c.loop-off.off c.loop-off.from c.first_rank-from.result c.index-host.result.now
    c.index-2.result.now c.index.result.now c.index-then-is_used.result.now c.deref.result.now c.requires.inside c.index-2.ensures c.index.ensures (omega arith) c.loop-off-test.true c.loop-off.invariant.below c.loop-off.invariant.before c.deref.ensures.value
    c.first_rank-from.ensures.before c.first_rank-from.ensures.common c.first_rank-from.ensures.less c.index-host.ensures c.index-then-is_used.ensures in
    omega (arith, step.shorter, c.len-len.ensures)

pub loop-off-preserved : goal.loop-off-preserved
loop-off-preserved g c =
    let r = c.args.ranked.now in
    let section = r.section.now in
    let slots = c.args.uses.now.slots in
    let sorted = map (text_in section) r.texts.items in
    let t = get_or r.texts.items c.args.rank no_text in
    let off = c.loop-off.off in
    let in_hosts = c.loop-off.in_hosts in
    let old = c.args.in_hosts.now in
    elim c.if-is_used.branch [
      | then-is_used w ↦
          let step = steps_back r.section.now slots r.texts.items r.common.items r.host_ranks.items c.requires.texts.ranked c.requires.texts.longest.used c.args.rank off c.loop-off.from w.first_rank-from.result w.index-host.result.now
          c.index-2.result.now c.index.result.now w.index-then-is_used.result.now w.deref.result.now c.requires.inside c.index-2.ensures c.index.ensures (omega arith) c.loop-off-test.true c.loop-off.invariant.below c.loop-off.invariant.before w.deref.ensures.value
          w.first_rank-from.ensures.before w.first_rank-from.ensures.common w.first_rank-from.ensures.less w.index-host.ensures w.index-then-is_used.ensures in
          let h : InHost = record { host = w.index-host.result.now; before = w.len-len.result - (c.index.result.now.end - off); len = w.len-len.result } in
          let before : h.before + (c.index.result.now.end - off) ≡ w.index-then-is_used.result.now.end - w.index-then-is_used.result.now.start = omega (arith, step.shorter, w.len-len.ensures) in
          let used : get_or slots off 0 ≢ 0 = c.is_used.ensures.yes w.if-is_used.true in
          let put : c.if-is_used.in_hosts ≡ set in_hosts (offset_number slots off) h = w.in_hosts-is ∙ ap (λ (n : ℕ). set in_hosts n h) w.number.ensures.number in
          subst (λ (l : List InHost). WithinTo section slots sorted r.common.items t c.args.rank old l c.if-is_used.from (off + 1)) (sym put)
          (subst (λ (n : ℕ). WithinTo section slots sorted r.common.items t c.args.rank old (set in_hosts (offset_number slots off) h) n (off + 1)) (sym w.from-is)
          (within_finds section slots sorted r.common.items t c.args.rank old in_hosts c.loop-off.from off w.first_rank-from.result h c.loop-off.invariant c.requires.whole step.low used w.first_rank-from.ensures.before step.back (step.in_hosts h refl before w.len-len.ensures)))
      | else-is_used w ↦
          let unused : get_or slots off 0 ≡ 0 = c.is_used.ensures.no w.if-is_used.false in
          subst (λ (l : List InHost). WithinTo section slots sorted r.common.items t c.args.rank old l c.if-is_used.from (off + 1)) (sym w.in_hosts-is)
          (subst (λ (n : ℕ). WithinTo section slots sorted r.common.items t c.args.rank old in_hosts n (off + 1)) (sym w.from-is)
          (within_skips section slots sorted r.common.items t c.args.rank old in_hosts c.loop-off.from off c.loop-off.invariant unused))
    ]
