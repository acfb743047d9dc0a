use Rattle.std.proofs.Common.{◌≡◌, List, ◌+◌, length, drop, arith, subst, sym}
use Rattle.std.proofs.lemmas.List.{take_at}
use Rattle.bpf_canon.specs.btf.strings.InHost.{sorted_in, FindsRanks, FindsHosts}
use Rattle.bpf_canon.specs.declared.btf.strings.shared_offsets.InHost.{InHost}
use Rattle.bpf_canon.proofs.BtfLemmas.Strings.InHostSteps.{hosts_more, hosts_all}
use Rattle.bpf_canon.proofs.btf.strings.shared_offsets.find_hosts.Goals as goal

pub returns-then-alone-len : goal.returns-then-alone-len
returns-then-alone-len g c =
    let r = c.args.ranked.now in
    let new = c.find_alone-alone.new.in_hosts in
    let to = c.find_alone-alone.ensures.found in
    let all : c.find_alone-alone.result ≡ length r.texts.items = omega (arith, c.if-alone-len.true, c.len.ensures) in
    let long : length new ≡ c.in_ok-in_hosts.in_hosts.len = omega (arith, to.whole, c.in_ok-in_hosts.ensures.len, c.count.ensures) in
    subst (FindsHosts c.args.uses.now r) (sym (take_at new (drop (length new) c.in_ok-in_hosts.in_hosts.items) _ long))
    (hosts_all r.section.now c.args.uses.now.slots r.texts.items (sorted_in r) c.requires.longest new (subst (FindsRanks c.args.uses.now r new) all to) c.requires.whole)

pub loop-rank-init : goal.loop-rank-init
loop-rank-init g c =
    let new = c.find_alone-alone.new.in_hosts in
    let to = c.find_alone-alone.ensures.found in
    let long : length new ≡ c.in_ok-in_hosts.in_hosts.len = omega (arith, to.whole, c.in_ok-in_hosts.ensures.len, c.count.ensures) in
    subst (λ (l : List InHost). FindsRanks c.args.uses.now c.args.ranked.now l c.find_alone-alone.result) (sym (take_at new (drop (length new) c.in_ok-in_hosts.in_hosts.items) _ long)) to

pub loop-rank-preserved : goal.loop-rank-preserved
loop-rank-preserved g c =
    let r = c.args.ranked.now in
    let new = c.find_within.new.in_hosts in
    let old = c.loop-rank.in_hosts.items in
    let finds = rw c.deref_mut-in-loop-rank.ensures.value at c.find_within.ensures in
    let long : length new ≡ c.loop-rank.in_hosts.len = omega (arith, finds.whole, c.loop-rank.in_hosts.ok.0) in
    subst (λ (l : List InHost). FindsRanks c.args.uses.now r l (c.loop-rank.rank + 1)) (sym (take_at new (drop (length new) old) _ long))
    (hosts_more r.section.now c.args.uses.now.slots r.texts.items (sorted_in r) c.requires.longest old new c.loop-rank.rank c.loop-rank.invariant (omega arith) finds)

pub returns : goal.returns
returns g c =
    let r = c.args.ranked.now in
    let at_end : c.loop-rank.rank ≡ length r.texts.items = omega arith in
    hosts_all r.section.now c.args.uses.now.slots r.texts.items (sorted_in r) c.requires.longest c.loop-rank.in_hosts.items (subst (FindsRanks c.args.uses.now r c.loop-rank.in_hosts.items) at_end c.loop-rank.invariant) c.requires.whole
