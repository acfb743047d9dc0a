use Rattle.std.proofs.Common.{◌+◌, ◌*◌, List, ℕ, length, count_ones, arith, subst, sym, ap, rules}
use Rattle.bpf_canon.specs.btf.strings.FirstUses.{Noted, slots_of}
use Rattle.bpf_canon.proofs.BtfLemmas.Strings.MarkSteps.{number_whole}
use Rattle.bpf_canon.proofs.BtfLemmas.Strings.UsedSteps.{number_at_most, CountedTo, counts_word}
use Rattle.bpf_canon.proofs.btf.strings.used_offsets.UsedOffsets.new.Goals as goal

pub overflow_add-count : goal.overflow_add-count
overflow_add-count g c =
    let i = c.uses.inside in
    let more = number_whole i.marks.items (length i.strings.now) c.loop-word.word c.index-bits.result.now c.uses.invariant.whole c.loop-word-test.true c.index-bits.ensures (search rules) in
    let len = ap (λ (n : Noted). length n.strings) c.uses.view_is in
    omega (arith, number_at_most (slots_of i.marks.items (length i.strings.now)) (64 * c.loop-word.word + 64), c.loop-word-test.true, c.loop-word.invariant.counted, more, len, c.requires)

pub loop-word-preserved : goal.loop-word-preserved
loop-word-preserved g c =
    let i = c.uses.inside in
    let slots = slots_of i.marks.items (length i.strings.now) in
    let more = number_whole i.marks.items (length i.strings.now) c.loop-word.word c.index-bits.result.now c.uses.invariant.whole c.loop-word-test.true c.index-bits.ensures (search rules) in
    subst (λ (l : List ℕ). CountedTo slots l (c.loop-word.count + count_ones c.index-bits.result.now) (c.loop-word.word + 1)) (sym c.in_ok-push-2.ensures.items) (counts_word slots c.loop-word.before.items c.loop-word.count c.loop-word.word (count_ones c.index-bits.result.now) c.loop-word.invariant more)
