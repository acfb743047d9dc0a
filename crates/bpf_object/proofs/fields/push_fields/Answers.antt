use Rattle.bpf_object.proofs.FieldLemmas.{encode_next}
use Rattle.bpf_object.proofs.fields.push_fields.Goals as goal

pub loop-field-preserved : goal.loop-field-preserved
loop-field-preserved g c =
    encode_next c.args.order c.args.fields.now c.loop-field.field-index _ _ _ _ c.loop-field-test.true c.loop-field.invariant c.in_ok-push_field.ensures
