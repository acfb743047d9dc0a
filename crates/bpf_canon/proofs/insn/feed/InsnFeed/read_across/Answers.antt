use Rattle.std.proofs.Common.{◌≡◌, ◌-◌, ◌++◌, length, min, take, ap, subst, arith, length-drop}
use Rattle.std.proofs.lemmas.List.{length-take, length-take-le}
use Rattle.bpf_canon.specs.{insn.FeedState.FeedState, insn.FrontReads.ReadsFront}
use Rattle.bpf_canon.proofs.InsnLemmas.FeedLemmas.{cut_begins_none}
use Rattle.bpf_canon.proofs.InsnLemmas.{FrontLaws.front_counts, ReadingLemmas.across_begun, ReadingLemmas.across_more, ReadingLemmas.across_none, ReadingLemmas.rest_of}
use Rattle.bpf_canon.proofs.insn.feed.InsnFeed.read_across.Goals as goal

pub overflow_sub-rest : goal.overflow_sub-rest
overflow_sub-rest g c =
    let size = length-take-le c.self.inside.held_len c.self.inside.held (omega (arith, c.self.invariant.short)) in
    let first = rw c.hold-len.ensures.bytes at c.read_front-first.ensures.read in
    omega (arith, size, across_begun _ _ _ _ _ _ _ (cut_begins_none _ _ c.self.invariant.cut) first (omega (arith, c.if-first-eq0.false)))

pub overflow_add-read-2 : goal.overflow_add-read-2
overflow_add-read-2 g c =
    let first = c.read_front-first.ensures.read in
    let rest = rw (rest_of c.args.piece.now _) at c.read_front-read.ensures.read in
    let few = length-take c.hold-len.result c.hold-len.new.held in
    omega (arith, first.counted, front_counts _ _ _ _ first.front, rest.counted, front_counts _ _ _ _ rest.front, few, length-drop (c.read_front-first.result.len - c.self.inside.held_len) c.args.piece.now)

pub returns-then-first-eq0-clause-read : goal.returns-then-first-eq0-clause-read
returns-then-first-eq0-clause-read g c =
    let size = length-take-le c.self.inside.held_len c.self.inside.held (omega (arith, c.self.invariant.short)) in
    let first = rw c.hold-len.ensures.bytes at c.read_front-first.ensures.read in
    let used : c.min-used.result ≡ min (length c.args.piece.now) (16 - length (take c.self.inside.held_len c.self.inside.held)) = rw size c.min-used.ensures in
    let P : FeedState → Type 0 = λ s. ReadsFront s.order s.to (s.held ++ c.args.piece.now) c.read_front-first.result c.args.out.now.items c.read_front-first.new.out.items in
    subst P c.self.view_is (across_none _ _ _ c.args.piece.now c.min-used.result _ _ _ used
    (omega (arith, size, c.if-self-eq0.false)) (omega (arith, size, c.self.invariant.short)) first (omega (arith, c.if-first-eq0.true)))

pub returns-clause-read : goal.returns-clause-read
returns-clause-read g c =
    let size = length-take-le c.self.inside.held_len c.self.inside.held (omega (arith, c.self.invariant.short)) in
    let first = rw c.hold-len.ensures.bytes at c.read_front-first.ensures.read in
    let begun = across_begun _ _ _ _ _ _ _ (cut_begins_none _ _ c.self.invariant.cut) first (omega (arith, c.if-first-eq0.false)) in
    let rest = rw (rest_of c.args.piece.now _) at c.read_front-read.ensures.read in
    rw (← c.self.view_is) (across_more _ _ _ c.args.piece.now c.min-used.result _ _ _ _ _ (omega (arith, c.min-used.ensures)) begun first (rw (← size) at rest))

pub returns-clause-held : goal.returns-clause-held
returns-clause-held g c = λ _.
    let size = length-take-le c.self.inside.held_len c.self.inside.held (omega (arith, c.self.invariant.short)) in
    let first = rw c.hold-len.ensures.bytes at c.read_front-first.ensures.read in
    let begun = across_begun _ _ _ _ _ _ _ (cut_begins_none _ _ c.self.invariant.cut) first (omega (arith, c.if-first-eq0.false)) in
    omega (arith, begun, size, ap (λ (s : FeedState). length s.held) c.self.view_is)
