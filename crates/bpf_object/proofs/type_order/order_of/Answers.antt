-- No group is sorted at first, and then all.
use Rattle.std.proofs.Common.{◌≡◌, ◌+◌, ℕ, List, length, ap, sym, subst, ◌∙◌, arith, rules}
use Rattle.std.specs.Prelude.{replicate}
use Rattle.bpf_object.specs.declared.type_keys.RecordKey.{RecordKey}
use Rattle.bpf_object.specs.private.TypeSteps.{ids_in, AreGrouped, AreNumbered}
use Rattle.bpf_object.proofs.Places.{written_back}
use Rattle.bpf_object.proofs.SortedGroups.{none_sorted}
use Rattle.bpf_object.proofs.type_order.order_of.Goals as goal

pub sort_groups-requires-clause-sorted : goal.sort_groups-requires-clause-sorted
sort_groups-requires-clause-sorted g c =
    let s = c.args.records.now.sections.now in
    let zeros : c.in_ok-numbers.numbers.items ≡ replicate (c.count.result + 1) 0 = c.in_ok-numbers.ensures.items_if_clones_equal (λ y e. cc) in
    let grouped : AreGrouped s (ids_in c.deref_mut.result.now) = subst (λ (keys : List RecordKey). AreGrouped s (ids_in keys)) (sym c.deref_mut.ensures.value) c.in_ok-keys.ensures.1 in
    none_sorted s (ids_in c.deref_mut.result.now) c.deref_mut-2.result.now grouped (c.deref_mut-2.ensures.value ∙ zeros ∙ ap (λ (k : ℕ). replicate (k + 1) 0) c.count.ensures.count)

pub returns : goal.returns
returns g c =
    let s = c.args.records.now.sections.now in
    let keys = c.sort_groups.new.keys in
    let numbers = c.sort_groups.new.numbers in
    let back_keys = written_back keys c.in_ok-keys.keys.items c.in_ok-keys.keys.len (c.sort_groups.auto.keys ∙ ap length c.deref_mut.ensures.value) (omega (arith, c.in_ok-keys.keys.ok.0)) in
    let back_numbers = written_back numbers c.in_ok-numbers.numbers.items c.in_ok-numbers.numbers.len (c.sort_groups.auto.numbers ∙ ap length c.deref_mut-2.ensures.value) (omega (arith, c.in_ok-numbers.numbers.ok.0)) in
    let ids : c.in_ok-ids.ids.items ≡ ids_in keys = c.in_ok-ids.ensures ∙ ap ids_in (c.deref-2.ensures.value ∙ back_keys) in
    subst (λ (ns : List ℕ). AreNumbered s c.in_ok-ids.ids.items ns) (sym back_numbers)
    (subst (λ (is : List ℕ). AreNumbered s is numbers) (sym ids) c.sort_groups.ensures)
