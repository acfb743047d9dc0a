use Rattle.std.proofs.Common.{◌<◌, arith}
use Rattle.bpf_object.specs.Extension.{part_end, part_len, next_group}
use Rattle.bpf_object.specs.Sources.{section}
use Rattle.bpf_object.proofs.GroupLemmas.{left_first, left_next, left_last}
use Rattle.bpf_object.proofs.group_checks.check_from.Goals as goal

pub loop-x-init : goal.loop-x-init
loop-x-init c = (
  left_first c.args.x c.args.part c.args.first (part_len (section c.args.x) c.args.part) c.requires.some c.requires.enough,
  c.requires.near,
)

pub loop-x-preserved : goal.loop-x-preserved
loop-x-preserved c =
    let below = rw c.part_end-end.ensures.value at c.if-group-end.false in
    let next : next_group (section c.args.x) c.args.part c.loop-x.group < part_end (section c.args.x) c.args.part = rw c.next_group-group.ensures at below in (
      rw c.next_group-group.ensures
          (left_next c.args.x c.args.part _ c.loop-x.group c.loop-x.invariant.0 c.in_ok-check_group.ensures.0 c.in_ok-check_group.ensures.1 next),
      omega (arith, below),
    )

pub returns-then-group-end : goal.returns-then-group-end
returns-then-group-end c =
    let from = rw c.part_end-end.ensures.value at c.if-group-end.true in
    let last = rw c.next_group-group.ensures at from in
    left_last c.args.x c.args.part _ c.loop-x.group c.loop-x.invariant.0 c.in_ok-check_group.ensures.0 c.in_ok-check_group.ensures.1 last
