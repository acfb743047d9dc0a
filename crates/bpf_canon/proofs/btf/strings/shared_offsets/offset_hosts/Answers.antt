use Rattle.std.proofs.Common.{◌≡◌, ℕ, ◌+◌, ◌<◌, List, length, map, get_or, take, arith, subst, ap, ◌∙◌}
use Rattle.std.proofs.lemmas.List.{take_all, get_or_read}
use Rattle.btf_types.specs.Reading.{text_from}
use Rattle.bpf_canon.specs.btf.strings.{InHost.no_host, InHost.sorted_in, UsedOffsets.number_of, HostOffsets.names_in}
use Rattle.bpf_canon.proofs.BtfLemmas.Strings.PlacedHosts.{host_offsets}
use Rattle.bpf_canon.proofs.BtfLemmas.Strings.HostOffsetSteps.{LaidTo, LaysText, placed_to, skips_empty, skips_other, skips_placed, placed_inside, lays_read, laid_room, laid_all}
use Rattle.bpf_canon.proofs.btf.strings.shared_offsets.offset_hosts.Given.{Over}
use Rattle.bpf_canon.proofs.btf.strings.shared_offsets.offset_hosts.Goals.{Else-index-ne0}
use Rattle.bpf_canon.proofs.btf.strings.shared_offsets.offset_hosts.Goals as goal
use Rattle.bpf_canon.proofs.btf.strings.shared_offsets.offset_hosts.Goals.{then-at-eq0-via-then-at-eq0, then-at-eq0-via-else-at-eq0+then-at-ne0, then-at-eq0-via-else-at-eq0+else-at-ne0+then-index-ne0}

pub loop-k-preserved-then-at-eq0 : goal.loop-k-preserved-then-at-eq0
loop-k-preserved-then-at-eq0 g c =
    let r = c.args.ranked.now in
    let section = r.section.now in
    let uses = c.args.uses.now in
    let sorted = sorted_in r in
    let in_hosts = c.args.in_hosts.now in
    let k = c.loop-k.k in
    let all = c.requires.in_hosts in
    let inside : k < length uses.offsets = subst (λ (l : List ℕ). k < length l) c.offsets-offsets.ensures c.loop-k-test.true in
    let n_is = c.number.ensures.number ∙ ap (λ (l : List ℕ). number_of uses (get_or l k 0)) c.offsets-offsets.ensures in
    let same : placed_to r uses k ≡ placed_to r uses (k + 1) = elim c.then-at-eq0.branch [
      | then-at-eq0-via-then-at-eq0 w ↦ skips_empty section uses.slots uses.offsets sorted in_hosts k c.number.result inside n_is all w.if-at-eq0.true
      | then-at-eq0-via-else-at-eq0+then-at-ne0 w ↦ skips_other section uses.slots uses.offsets sorted in_hosts k c.number.result inside n_is all w.if-at-eq0.false w.if-at-ne0.true
      | then-at-eq0-via-else-at-eq0+else-at-ne0+then-index-ne0 w ↦
          let here = (get_or in_hosts c.number.result no_host).host in
          let placed = get_or_read c.loop-k.by_rank.items here w.index.result.now (placed_inside section uses.slots uses.offsets sorted in_hosts k c.number.result inside n_is all c.loop-k.by_rank.items c.loop-k.spans.items c.loop-k.len c.loop-k.invariant w.if-at-eq0.false) w.index.ensures 0 in
          skips_placed section uses.slots uses.offsets sorted in_hosts k c.number.result inside n_is all c.loop-k.by_rank.items c.loop-k.spans.items c.loop-k.len c.loop-k.invariant w.if-at-eq0.false w.if-at-ne0.false (λ z. w.if-index-ne0.true (placed ∙ z))
    ] in
    subst (λ (l : List (List ℕ)). LaidTo section sorted l c.loop-k.by_rank.items c.loop-k.spans.items c.loop-k.len) same c.loop-k.invariant

-- the string of this offset is appended
lays : (g : Over) (c : Else-index-ne0 g) → let at = get_or c.args.in_hosts.now c.number.result no_host in
    let off = get_or c.offsets-offsets.result.now c.loop-k.k 0 in
    LaysText c.args.ranked.now.section.now (sorted_in c.args.ranked.now) (placed_to c.args.ranked.now c.args.uses.now (c.loop-k.k + 1)) c.loop-k.by_rank.items c.loop-k.spans.items at.host c.loop-k.len at.len (record { start = off; end = off + at.len })
lays g c =
    lays_read c.args.uses.now c.args.ranked.now c.args.in_hosts.now c.offsets-offsets.result.now c.loop-k.k c.number.result c.offsets-offsets.ensures c.loop-k-test.true c.number.ensures.number c.requires.in_hosts c.loop-k.by_rank.items
    c.loop-k.spans.items c.loop-k.len c.index.result.now c.loop-k.invariant c.requires.texts c.requires.ends c.if-at-eq0.false c.if-at-ne0.false c.index.ensures c.if-index-ne0.false

pub overflow_add-end : goal.overflow_add-end
overflow_add-end g c = omega (arith, (lays g (goal.at.overflow_add-end g c).Else-index-ne0).span.inside, c.requires.texts.few)

pub overflow_add-len : goal.overflow_add-len
overflow_add-len g c =
    omega (arith, (lays g (goal.at.overflow_add-len g c).Else-index-ne0).whole, laid_room c.args.ranked.now.section.now c.args.uses.now.offsets (c.loop-k.k + 1), c.requires.capacity)

pub overflow_add-len-in-loop-k : goal.overflow_add-len-in-loop-k
overflow_add-len-in-loop-k g c =
    omega (arith, (lays g (goal.at.overflow_add-len-in-loop-k g c).Else-index-ne0).whole, laid_room c.args.ranked.now.section.now c.args.uses.now.offsets (c.loop-k.k + 1), c.requires.capacity)

pub loop-k-preserved : goal.loop-k-preserved
loop-k-preserved g c =
    let text = lays g (goal.at.loop-k-preserved g c).Else-index-ne0 in
    text.laid_out c.push_text.new.spans.items (c.in_ok-push_text.ensures c.args.ranked.now.section.now c.loop-k.invariant.are_spans text.span)

pub returns : goal.returns
returns g c =
    let r = c.args.ranked.now in
    let xs = names_in r c.args.uses.now in
    let offsets = c.args.uses.now.offsets in
    let at_end : take c.loop-k.k offsets ≡ offsets = take_all c.loop-k.k offsets (omega (arith, c.loop-k-test.false, ap (λ (l : List ℕ). length l) c.offsets-offsets.ensures)) in
    laid_all r.section.now (sorted_in r) xs c.loop-k.by_rank.items c.loop-k.spans.items c.loop-k.len
    (subst (λ (l : List ℕ). LaidTo r.section.now (sorted_in r) (host_offsets xs (map (text_from r.section.now) l)) c.loop-k.by_rank.items c.loop-k.spans.items c.loop-k.len) at_end c.loop-k.invariant)
