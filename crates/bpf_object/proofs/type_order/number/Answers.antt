-- One more record has its number.
use Rattle.std.proofs.Common.{◌≡◌, ◌≢◌, ℕ, ◌+◌, ◌<◌, length, get_or, below_more, sym, ap, ◌∙◌, arith}
use Rattle.std.specs.Prelude.{slice_index}
use Rattle.std.proofs.Math.ListN.{set}
use Rattle.std.proofs.lemmas.List.{get_or-set_same, get_or-set_other, length-map}
use Rattle.bpf_object.specs.declared.type_keys.RecordKey.{RecordKey}
use Rattle.bpf_object.specs.private.TypeSteps.{ids_in}
use Rattle.bpf_object.proofs.SortedKeys.{none, id_at}
use Rattle.bpf_object.proofs.type_order.number.Goals as goal

pub bounds-numbers-group : goal.bounds-numbers-group
bounds-numbers-group c =
    let group = c.args.group.now in
    let k = c.loop-k.k in
    let lt : k < length group = c.loop-k-test.true in
    let size = length-map group (λ (key : RecordKey). key.id) in
    omega (arith, id_at group k none lt, c.requires.there k 0 (omega (arith, lt, size)), c.loop-k.auto.numbers)

pub loop-k-preserved : goal.loop-k-preserved
loop-k-preserved c =
    let group = c.args.group.now in
    let k = c.loop-k.k in
    let lt : k < length group = c.loop-k-test.true in
    let id = (get_or group k none).id in
    let at = id_at group k none lt in
    let size = length-map group (λ (key : RecordKey). key.id) in
    let place = c.args.start + k + 1 in
    let before = c.loop-k.numbers in
    let there : id < length before = omega (arith, at, c.requires.there k 0 (omega (arith, lt, size)), c.loop-k.auto.numbers) in
    record {
      placed =
          below_more _ _
          (λ j less.
          let other : slice_index (ids_in group) j ≢ id = λ e. c.requires.apart j k less (omega (arith, lt, size)) (e ∙ sym at) in
          get_or-set_other before id (slice_index (ids_in group) j) place 0 other ∙ c.loop-k.invariant.placed j less)
          (ap (λ (i : ℕ). slice_index (set before id place) i) at ∙ get_or-set_same before id place 0 there);
      kept = λ t d out.
          let other : t ≢ id = λ e. out k (omega arith) (at ∙ sym e) in
          get_or-set_other before id t place d other ∙ c.loop-k.invariant.kept t d (λ j less. out j (omega (arith, less)));
    }
