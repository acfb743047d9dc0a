use Rattle.std.proofs.Common.{ℕ, inl, inr, subst, List, [], length, sym, ap, ◌∙◌, refl, arith}
use Rattle.std.specs.List.{Contains}
use Rattle.std.proofs.lemmas.Bool.{eqb-false}
use Rattle.btf_types.specs.strings.SharedNames.{shared_among}
use Rattle.bpf_canon.specs.btf.names.Interned.{borrowed_texts}
use Rattle.bpf_canon.proofs.BtfLemmas.Names.{HostSearch.no_name, HostSteps.index_found, HostSteps.index_text, HostSteps.kept_apart, HostTable.ReadsOffset, HostTable.reads_offset}
use Rattle.bpf_canon.proofs.btf.names.SharedNames.new_offset.Given.{Over}
use Rattle.bpf_canon.proofs.btf.names.SharedNames.new_offset.Goals.{After-as_slice}
use Rattle.bpf_canon.proofs.btf.names.SharedNames.new_offset.Goals as goal

pub unwrap-index-requires : goal.unwrap-index-requires
unwrap-index-requires g c =
    let some = eqb-false (length c.args.name.now) 0 (sym c.if-is_empty.ensures) in
    let has : Contains c.args.self.now c.args.name.now = elim c.requires [
      | inl e ↦ absurd (some (ap (λ (t : List ℕ). length t) e))
      | inr h ↦ h
    ] in
    index_found c.self.inside.names.keys c.args.name c.get_index_of.result (subst (λ (l : List (List ℕ)). Contains l c.args.name.now) (sym c.self.view_is) has) c.get_index_of.ensures.found

-- what was read of the hosts and of their offsets
read : (g : Over) (c : After-as_slice g) → ReadsOffset (borrowed_texts c.self.inside.names.keys) c.as_slice.result.now c.args.name.now c.index-host.result.now c.index.result.now no_name
read g c =
    let keys = c.self.inside.names.keys in
    let x = c.args.name.now in
    let empty = eqb-false (length x) 0 (sym c.if-is_empty.ensures) in
    let at = index_text keys c.args.name c.unwrap-index.result [] (sym c.get_index_of.ensures.index ∙ c.unwrap-index.ensures) in
    reads_offset (borrowed_texts keys) c.as_slice.result.now c.self.inside.host_indices.items c.self.inside.text_offsets.items c.self.inside.table_len c.unwrap-index.result c.index-host.result.now c.index.result.now x no_name refl
    (ap borrowed_texts c.as_slice.ensures.keys) (kept_apart (borrowed_texts keys) c.self.invariant.own) c.self.invariant at.0 at.1 (omega (arith, empty)) c.index-host.ensures c.index.ensures

pub overflow_sub-result : goal.overflow_sub-result
overflow_sub-result g c = omega (arith, (read g (goal.at.overflow_sub-result g c).After-as_slice).shorter)

pub overflow_cast-result : goal.overflow_cast-result
overflow_cast-result g c = omega (arith, (read g (goal.at.overflow_cast-result g c).After-as_slice).fits)

pub overflow_add-result : goal.overflow_add-result
overflow_add-result g c = omega (arith, (read g (goal.at.overflow_add-result g c).After-as_slice).fits)

pub returns : goal.returns
returns g c = (read g (goal.at.returns g c).After-as_slice).text_offset ∙ ap (λ (l : List (List ℕ)). shared_among l c.args.name.now) c.self.view_is
