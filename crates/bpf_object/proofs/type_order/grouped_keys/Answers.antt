-- One more record has its key, and then they are sorted.
use Rattle.std.proofs.Common.{◌≡◌, ◌∷◌, [], length, ap, refl, ◌∙◌, arith}
use Rattle.std.specs.List.{range_with_len}
use Rattle.std.proofs.lemmas.Slice.{pushed}
use Rattle.bpf_object.proofs.SortedKeys.{key_pushed, grouped_sorted}
use Rattle.bpf_object.proofs.type_order.grouped_keys.Goals as goal

pub loop-index-preserved : goal.loop-index-preserved
loop-index-preserved g c =
    let was = c.loop-index.invariant in
    let more = pushed (c.key.result ∷ []) refl c.in_ok-push.was c.push.ensures.items in
    let made =
    key_pushed c.args.records.now.sections.now c.loop-index.index c.loop-index.keys.items c.push.new.self.items c.key.result more was.ids was.groups c.key.ensures.id
    c.key.ensures.is.group in
    record { ids = made.0; groups = made.1 }

pub returns : goal.returns
returns g c =
    let s = c.args.records.now.sections.now in
    let all : c.loop-index.index ≡ length s.frames = omega arith in
    let sorted = c.sort_unstable.ensures in
    grouped_sorted s c.loop-index.keys.items c.sort_unstable.new.self.items (c.loop-index.invariant.ids ∙ ap (range_with_len 1) all) c.loop-index.invariant.groups
    sorted.permutation sorted.sorted
