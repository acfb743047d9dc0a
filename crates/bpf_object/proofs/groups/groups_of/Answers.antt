use Rattle.std.proofs.Common.{ℕ, List, sym, subst}
use Rattle.std.specs.List.{All}
use Rattle.bpf_object.specs.Sources.{section, HasGroup}
use Rattle.bpf_object.proofs.CursorLemmas.{group_there, groups_after, fewer_groups}
use Rattle.bpf_object.proofs.GroupLists.{more_found, all_found}
use Rattle.bpf_object.proofs.groups.groups_of.Goals as goal

pub loop-rest-init : goal.loop-rest-init
loop-rest-init g c = (
  rw c.new-found.ensures.items c.first_group-rest.ensures,
  subst (λ (gs : List ℕ). All (HasGroup c.args.x c.args.part) gs) (sym c.first_group-rest.ensures) c.requires.groups,
)

pub next_in-rest-requires : goal.next_in-rest-requires
next_in-rest-requires g c = group_there c.args.x c.args.part c.loop-rest.rest c.in-Some.group c.in-Some.is c.loop-rest.invariant.1

pub loop-rest-smaller : goal.loop-rest-smaller
loop-rest-smaller g c = fewer_groups (section c.args.x) c.args.part c.loop-rest.rest c.in-Some.group _ c.in-Some.is c.next_in-rest.ensures

pub loop-rest-preserved : goal.loop-rest-preserved
loop-rest-preserved g c = (
  more_found (section c.args.x) c.args.part _ _ _ _ _ _ c.in-Some.is c.next_in-rest.ensures c.loop-rest.invariant.0 c.in_ok-push.ensures.items,
  groups_after c.args.x c.args.part c.loop-rest.rest c.in-Some.group _ c.in-Some.is c.next_in-rest.ensures c.loop-rest.invariant.1,
)

pub returns : goal.returns
returns g c = all_found (section c.args.x) c.args.part _ _ _ c.in_default.is c.loop-rest.invariant.0
