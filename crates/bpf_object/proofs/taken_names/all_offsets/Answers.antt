use Rattle.std.proofs.Common.{refl, ◌∙◌}
use Rattle.bpf_object.proofs.{TypesLemmas.numbered_record, TakenLemmas.names_pushed, TakenLemmas.names_stay}
use Rattle.bpf_object.proofs.taken_names.all_offsets.Goals as goal
use Rattle.bpf_object.proofs.taken_names.all_offsets.Goals.{then-kind+in_ok-push, else-kind}

pub loop-index-preserved : goal.loop-index-preserved
loop-index-preserved g c =
    let fs = c.args.sections.now.frames in
    let at = numbered_record fs c.loop-index.index _ c.record-record.ensures.frame in
    elim c.if-kind.branch [
      | then-kind+in_ok-push w ↦
          names_pushed c.args.kind fs c.loop-index.index _ c.loop-index.offsets.items c.if-kind.offsets.items w.word.result at.there at.is (cc) w.word.ensures c.loop-index.invariant
          (rw w.offsets-is w.in_ok-push.ensures.items)
      | else-kind w ↦
          names_stay c.args.kind fs c.loop-index.index _ c.loop-index.offsets.items c.if-kind.offsets.items at.there at.is (λ e. w.if-kind.false (c.kind.ensures ∙ e)) c.loop-index.invariant
          (rw w.offsets-is refl)
    ]
