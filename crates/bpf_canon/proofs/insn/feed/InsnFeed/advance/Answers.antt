use Rattle.std.proofs.Common.{arith, ◌≡◌, ◌∙◌, ◌-◌, ℕ, List, None, length, ap, subst, sym, inl, refl}
use Rattle.std.proofs.lemmas.List.{length-take-le}
use Rattle.bpf_canon.specs.{insn.FeedState.FeedState, insn.FeedState.IsCut, insn.FrontReads.Advances, contracts.insn.feed.InsnFeed.the_view}
use Rattle.bpf_canon.proofs.InsnLemmas.FeedLemmas.{advance_counts, advance_cut, advance_faulty, advance_few, advance_held, advance_whole, advance_within, held_left, held_left_size, none_or_all}
use Rattle.bpf_canon.proofs.insn.feed.InsnFeed.advance.Goals as goal

-- the feed before the call is what its fields show
from_view : (s t u : FeedState) (piece old new : List ℕ) → s ≡ t → Advances s u piece old new → Advances t u piece old new
from_view s t u piece old new e a = let P : FeedState → Type 0 = λ x. Advances x u piece old new in subst P e a

pub overflow_add-self-2 : goal.overflow_add-self-2
overflow_add-self-2 g c =
    let size = length-take-le c.self.inside.held_len c.self.inside.held (omega (arith, c.self.invariant.short)) in
    let counts = advance_counts (the_view c.self.inside) c.args.piece.now _ _ _ (rw (← c.self.view_is) at c.read_across-read.ensures.read) in
    omega (arith, size, counts, c.self.invariant.counted, c.requires.fits, ap (λ (s : FeedState). s.fed) c.self.view_is)

pub hold-self-inside-requires : goal.hold-self-inside-requires
hold-self-inside-requires g c =
    let read = rw (← c.self.view_is) at c.read_across-read.ensures.read in
    let size = length-take-le c.self.inside.held_len c.self.inside.held (omega (arith, c.self.invariant.short)) in
    let held_is = ap (λ (s : FeedState). length s.held) c.self.view_is in
    let few = advance_few (the_view c.self.inside) c.args.piece.now _ _ _ read c.in-Some.fault c.in-Some.is c.in-Truncated.is in
    let all = none_or_all _ _ _ _ _ _ c.self.inside.held_len read (λ some. omega (arith, size, held_is, c.read_across-read.ensures.held some)) in
    let left = held_left c.self.inside.held c.args.piece.now c.self.inside.held_len c.read_across-read.result.len c.saturating_sub-kept.result c.saturating_sub.result
    (omega (arith, c.self.told, c.self.invariant.short)) all c.saturating_sub-kept.ensures c.saturating_sub.ensures in
    omega (arith, few, held_left_size c.self.inside.held c.args.piece.now c.saturating_sub-kept.result c.saturating_sub.result _ (omega (arith, c.self.told, c.self.invariant.short, c.saturating_sub-kept.ensures)) left)

pub invariant_of-self : goal.invariant_of-self
invariant_of-self g c =
    let size = length-take-le c.self.inside.held_len c.self.inside.held (omega (arith, c.self.invariant.short)) in
    let counts = advance_counts (the_view c.self.inside) c.args.piece.now _ _ _ (rw (← c.self.view_is) at c.read_across-read.ensures.read) in
    record { short = omega arith; cut = inl refl; counted = omega (arith, size, counts, c.self.invariant.counted) }

pub invariant_of-self-in-Truncated : goal.invariant_of-self-in-Truncated
invariant_of-self-in-Truncated g c =
    let read = rw (← c.self.view_is) at c.read_across-read.ensures.read in
    let size = length-take-le c.self.inside.held_len c.self.inside.held (omega (arith, c.self.invariant.short)) in
    let held_is = ap (λ (s : FeedState). length s.held) c.self.view_is in
    let counts = advance_counts (the_view c.self.inside) c.args.piece.now _ _ _ read in
    let few = advance_few (the_view c.self.inside) c.args.piece.now _ _ _ read c.in-Some.fault c.in-Some.is c.in-Truncated.is in
    let cut = advance_cut (the_view c.self.inside) c.args.piece.now _ _ _ read c.in-Some.fault c.in-Some.is c.in-Truncated.is in
    let all = none_or_all _ _ _ _ _ _ c.self.inside.held_len read (λ some. omega (arith, size, held_is, c.read_across-read.ensures.held some)) in
    let left = held_left c.self.inside.held c.args.piece.now c.self.inside.held_len c.read_across-read.result.len c.saturating_sub-kept.result c.saturating_sub.result
    (omega (arith, c.self.told, c.self.invariant.short)) all c.saturating_sub-kept.ensures c.saturating_sub.ensures in
    let left_size = held_left_size c.self.inside.held c.args.piece.now c.saturating_sub-kept.result c.saturating_sub.result _ (omega (arith, c.self.told, c.self.invariant.short, c.saturating_sub-kept.ensures)) left in
    let P : List ℕ → Type 0 = λ x. IsCut c.self.inside.order x in
    record {
      short = omega (arith, c.hold-self-inside.ensures.len, left_size, few);
      cut = subst P (sym (c.hold-self-inside.ensures.bytes ∙ left)) cut;
      counted = omega (arith, size, counts, c.self.invariant.counted, c.hold-self-inside.ensures.len, left_size);
    }

pub invariant_of-self-in_default : goal.invariant_of-self-in_default
invariant_of-self-in_default g c =
    let size = length-take-le c.self.inside.held_len c.self.inside.held (omega (arith, c.self.invariant.short)) in
    let counts = advance_counts (the_view c.self.inside) c.args.piece.now _ _ _ (rw (← c.self.view_is) at c.read_across-read.ensures.read) in
    record { short = omega arith; cut = inl refl; counted = omega (arith, size, counts, c.self.invariant.counted) }

pub moved_by-requires : goal.moved_by-requires
moved_by-requires g c =
    let size = length-take-le c.self.inside.held_len c.self.inside.held (omega (arith, c.self.invariant.short)) in
    let within = advance_within (the_view c.self.inside) c.args.piece.now _ _ _ (rw (← c.self.view_is) at c.read_across-read.ensures.read) c.in-Some.fault c.in-Some.is in
    omega (arith, size, within, c.self.invariant.counted, c.requires.fits, ap (λ (s : FeedState). s.fed) c.self.view_is)

pub returns-in-None : goal.returns-in-None
returns-in-None g c =
    let sound : c.self.inside.fault ≡ None = ap (λ (s : FeedState). s.fault) c.self.view_is ∙ c.requires.sound in
    from_view (the_view c.self.inside) c.args.self.now _ c.args.piece.now _ _ c.self.view_is
    (advance_whole (the_view c.self.inside) c.args.piece.now _ _ _ (rw (← c.self.view_is) at c.read_across-read.ensures.read) sound c.in-None.is)

pub returns-in-Truncated : goal.returns-in-Truncated
returns-in-Truncated g c =
    let read = rw (← c.self.view_is) at c.read_across-read.ensures.read in
    let size = length-take-le c.self.inside.held_len c.self.inside.held (omega (arith, c.self.invariant.short)) in
    let held_is = ap (λ (s : FeedState). length s.held) c.self.view_is in
    let sound : c.self.inside.fault ≡ None = ap (λ (s : FeedState). s.fault) c.self.view_is ∙ c.requires.sound in
    let all = none_or_all _ _ _ _ _ _ c.self.inside.held_len read (λ some. omega (arith, size, held_is, c.read_across-read.ensures.held some)) in
    let left = held_left c.self.inside.held c.args.piece.now c.self.inside.held_len c.read_across-read.result.len c.saturating_sub-kept.result c.saturating_sub.result
    (omega (arith, c.self.told, c.self.invariant.short)) all c.saturating_sub-kept.ensures c.saturating_sub.ensures in
    from_view (the_view c.self.inside) c.args.self.now _ c.args.piece.now _ _ c.self.view_is
    (advance_held (the_view c.self.inside) c.args.piece.now _ _ _ read c.in-Some.fault _ sound c.in-Some.is c.in-Truncated.is (c.hold-self-inside.ensures.bytes ∙ left))

pub returns-in_default : goal.returns-in_default
returns-in_default g c =
    let size = length-take-le c.self.inside.held_len c.self.inside.held (omega (arith, c.self.invariant.short)) in
    rw c.moved_by.ensures (from_view (the_view c.self.inside) c.args.self.now _ c.args.piece.now _ _ c.self.view_is
    (advance_faulty (the_view c.self.inside) c.args.piece.now _ _ _ (rw (← c.self.view_is) at c.read_across-read.ensures.read) c.in-Some.fault (c.self.inside.fed - c.self.inside.held_len)
    c.in-Some.is c.in_default.not-Truncated (omega (arith, size, c.self.invariant.counted))))
