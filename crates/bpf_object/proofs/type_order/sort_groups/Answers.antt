-- One more group is sorted and numbered.
use Rattle.std.proofs.Common.{◌≡◌, length, arith}
use Rattle.bpf_object.proofs.SortedKeys.{apart_moved}
use Rattle.bpf_object.proofs.SortedGroups.{part_range, part_apart, part_fits, groups_after, group_placed, after_length, sorted_all}
use Rattle.bpf_object.proofs.type_order.sort_groups.Goals as goal

pub sort_group-requires : goal.sort_group-requires
sort_group-requires g c =
    let s = c.args.records.now.sections.now in
    let bound = c.group_end-end.ensures.bound in
    let grouped = c.loop-start.invariant.sorted.grouped in
    record {
      range = part_range s c.loop-start.keys c.loop-start.keys c.loop-start.start c.group_end-end.result bound.0 bound.1 grouped;
      apart = part_apart s c.loop-start.keys c.loop-start.keys c.loop-start.start c.group_end-end.result bound.0 bound.1 grouped;
    }

pub number-requires : goal.number-requires
number-requires g c =
    let s = c.args.records.now.sections.now in
    let keys = c.loop-start.keys in
    let part = c.sort_group.new.group in
    let start = c.loop-start.start in
    let end = c.group_end-end.result in
    let bound = c.group_end-end.ensures.bound in
    let sorted = c.loop-start.invariant.sorted in
    let fits = part_fits s keys part start end bound.0 bound.1 sorted.grouped c.sort_group.ensures.moved in
    record {
      few = omega (arith, fits.0, bound.1, fits.2, c.args.records.now.sortable.few);
      there = λ k d lt. omega (arith, fits.1 k d lt, fits.3, sorted.whole);
      apart = apart_moved _ _ c.sort_group.ensures.moved (part_apart s keys part start end bound.0 bound.1 sorted.grouped);
    }

pub loop-start-preserved : goal.loop-start-preserved
loop-start-preserved g c =
    let s = c.args.records.now.sections.now in
    let keys = c.loop-start.keys in
    let part = c.sort_group.new.group in
    let start = c.loop-start.start in
    let end = c.group_end-end.result in
    let bound = c.group_end-end.ensures.bound in
    let was = c.loop-start.invariant in
    let done = c.sort_group.ensures in
    let sorted =
    group_placed s keys part start end bound.0 bound.1 c.loop-start.numbers c.number.new.numbers was.groups was.sorted c.group_end-end.ensures.same c.group_end-end.ensures.next
    done.moved done.order (omega arith) c.number.ensures.placed c.number.ensures.kept in
    let size = after_length s keys part start end bound.0 bound.1 was.sorted.grouped done.moved in
    record { groups = groups_after s keys part start end bound.0 bound.1 was.groups done.groups; sorted = sorted; within = omega (arith, size, bound.1) }

pub returns : goal.returns
returns g c =
    let s = c.args.records.now.sections.now in
    let all : c.loop-start.start ≡ length c.loop-start.keys = omega arith in
    sorted_all s c.loop-start.keys c.loop-start.numbers c.loop-start.start all c.loop-start.invariant.sorted
