use Rattle.bpf_object.proofs.NamesLemmas.{bytes_next}
use Rattle.bpf_object.proofs.names.push_all.Goals as goal

pub loop-text-preserved : goal.loop-text-preserved
loop-text-preserved g c =
    bytes_next c.args.texts.now c.loop-text.text-index _ _ _ _ c.loop-text-test.true c.loop-text.invariant c.in_ok-push_with_nul.ensures
