-- One more key is by the new numbers, and then they are sorted.
use Rattle.std.proofs.Common.{◌≡◌, ℕ, ◌<◌, length, take, subst, ◌∙◌, arith}
use Rattle.std.specs.List.{All}
use Rattle.bpf_object.specs.private.TypeSteps.{numbered, IsKey}
use Rattle.bpf_object.proofs.SortedKeys.{none, key_range, ids_stay, keys_more, group_sorted}
use Rattle.bpf_object.proofs.type_order.sort_group.Goals as goal

pub key-requires-clause-first : goal.key-requires-clause-first
key-requires-clause-first g c =
    let lt : c.loop-key.key-index < length c.loop-key.group = omega arith in
    (key_range (length c.args.records.now.sections.now.frames) c.args.group.now c.loop-key.group c.loop-key.key-index none c.requires.range c.loop-key.invariant.ids lt).0

pub key-requires-clause-last : goal.key-requires-clause-last
key-requires-clause-last g c =
    let lt : c.loop-key.key-index < length c.loop-key.group = omega arith in
    (key_range (length c.args.records.now.sections.now.frames) c.args.group.now c.loop-key.group c.loop-key.key-index none c.requires.range c.loop-key.invariant.ids lt).1

pub loop-key-preserved : goal.loop-key-preserved
loop-key-preserved g c =
    let lt : c.loop-key.key-index < length c.loop-key.group = omega arith in
    let is = IsKey c.args.records.now.sections.now c.args.records.now.names (numbered c.args.numbers.now) in
    record {
      ids = ids_stay c.loop-key.group c.loop-key.key-index c.key.result none lt c.key.ensures.id ∙ c.loop-key.invariant.ids;
      keys = keys_more is c.loop-key.group c.loop-key.key-index c.key.result lt c.loop-key.invariant.keys c.key.ensures.is;
    }

pub returns : goal.returns
returns g c =
    let s = c.args.records.now.sections.now in
    let all : c.loop-key.key-index ≡ length c.loop-key.group = omega arith in
    let is = IsKey s c.args.records.now.names (numbered c.args.numbers.now) in
    let keys = subst (λ (k : ℕ). All is (take k c.loop-key.group)) all c.loop-key.invariant.keys in
    let made =
    group_sorted s c.args.records.now.names (numbered c.args.numbers.now) c.args.group.now c.loop-key.group c.sort_unstable.new.self c.args.records.now.sortable.closed
    c.args.records.now.sortable.strings c.loop-key.invariant.ids keys c.sort_unstable.ensures.permutation c.sort_unstable.ensures.sorted c.requires.apart in
    record { moved = made.0; groups = made.1; order = made.2 }
