use Rattle.std.proofs.Common.{◌≡◌, length, subst, ap, rules, arith}
use Rattle.std.specs.Ordering.{is_lt}
use Rattle.std.proofs.lemmas.List.Sorted.{answers_always, ranks_by}
use Rattle.btf_types.specs.strings.SharedNames.{suffix_cmp}
use Rattle.btf_types.proofs.StringLemmas.Hosts.{suffix_lt, suffix_total}
use Rattle.bpf_canon.proofs.BtfLemmas.Names.{HostIndices.Named, IndexedNames.IndexedTo, IndexedNames.indexed_sorted}
use Rattle.bpf_canon.proofs.btf.names.sorted_from_end.Goals as goal

pub returns : goal.returns
returns g c =
    let all : c.loop-index.index ≡ length c.args.names.now = omega arith in
    indexed_sorted c.args.names.now c.loop-index.sorted.items c.sort_by.new.self.items (subst (IndexedTo c.args.names.now c.loop-index.sorted.items) all c.loop-index.invariant)
    c.in_ok-sort_by.ensures.permutation
    (c.in_ok-sort_by.ensures.sorted (λ x y. suffix_lt x.0.now y.0.now) (ranks_by suffix_total (λ (n : Named). n.0.now))
    (answers_always _ (λ a r. is_lt r ≡ suffix_lt a.0.now.0.now a.1.0.now.0.now) _ (λ f a r g call. let e : r ≡ suffix_cmp a.0.now.0.now a.1.0.now.0.now = search rules in ap is_lt e)))
