use Rattle.std.proofs.Common.{ℕ, List, ◌↔◌, subst}
use Rattle.std.specs.List.{Contains}
use Rattle.std.proofs.lemmas.List.Filters.{dedup_is}
use Rattle.bpf_object.proofs.TakenLemmas.{each_once}
use Rattle.bpf_object.proofs.taken_names.distinct_offsets.Goals as goal

pub returns : goal.returns
returns g c = λ off.
    let once =
    each_once c.in_ok-offsets.offsets.items c.sort_unstable.new.self.items c.dedup.new.self.items c.sort_unstable.ensures.permutation (dedup_is _ _ _ c.dedup.ensures.filtered) off in
    subst (λ (own : List ℕ). Contains c.dedup.new.self.items off ↔ Contains own off) c.in_ok-offsets.ensures once
