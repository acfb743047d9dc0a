-- The layers are the steps of walks that have ended.
use Rattle.std.proofs.Common.{◌≡◌, sym, subst}
use Rattle.std.proofs.lemmas.Result.{IfOk-weaker}
use Rattle.bpf_object.specs.private.TypeSteps.{AreLayers, steps_of}
use Rattle.bpf_object.proofs.LayerLemmas.{layers_found}
use Rattle.bpf_object.proofs.type_layers.layers_of.Goals as goal

pub returns : goal.returns
returns g c =
    let s = c.args.sections.now in
    let walks = c.end_walks.new.walks in
    IfOk-weaker c.steps_of.result (λ steps. steps.items ≡ steps_of walks) (λ layers. AreLayers s layers.items)
    (λ layers is. subst (AreLayers s) (sym is) (layers_found s walks c.end_walks.ensures)) c.steps_of.ensures
