-- Sorting moves the offsets, and then each is kept once.
use Rattle.std.proofs.Common.{List, ℕ, subst, arith}
use Rattle.std.specs.List.Sorted.{IsPermutation}
use Rattle.std.proofs.lemmas.List.Filters.{dedup_is}
use Rattle.std.proofs.lemmas.List.Sorted.{length_permutation}
use Rattle.bpf_object.proofs.NameLists.{distinct_same}
use Rattle.bpf_object.proofs.name_ranks.distinct_offsets.Goals as goal

pub returns : goal.returns
returns g c =
    let offsets = c.args.offsets.now in
    let sorted = c.sort_unstable.new.self.items in
    let moved : IsPermutation offsets sorted = subst (λ (xs : List ℕ). IsPermutation xs sorted) c.in_ok-distinct.ensures.items c.sort_unstable.ensures.permutation in
    let few = length_permutation offsets sorted moved in
    distinct_same offsets sorted c.dedup.new.self.items moved (dedup_is _ _ _ c.dedup.ensures.filtered)
    (omega (arith, few, c.dedup.ensures.bound, c.dedup.new.self.ok.0, c.sort_unstable.new.self.ok.0))
