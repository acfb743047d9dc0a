use Rattle.std.proofs.Common.{List, ℕ, sym, subst, ◌∙◌}
use Rattle.std.proofs.lemmas.Result.{IfOk-weaker}
use Rattle.bpf_object.specs.private.WrittenTypes.{AreGroups}
use Rattle.bpf_object.proofs.InsideLemmas.{some_checked, checked_groups}
use Rattle.bpf_object.proofs.types_writer.groups_in.Goals as goal

pub returns : goal.returns
returns g c =
    let checked = some_checked c.args.x c.requires (sym c.is_empty.ensures ∙ c.if-is_empty.false) in
    IfOk-weaker c.groups_of.result _ _
    (λ found is. subst (λ (gs : List ℕ). AreGroups c.args.x c.args.part gs) (sym is) (checked_groups c.args.x c.args.part checked)) c.groups_of.ensures
