use Rattle.bpfcanon.proofs.LineLemmas.OptionsLemmas.{adds_one}
use Rattle.bpfcanon.proofs.line.options.program_command.Goals as goal

pub loop-verb-preserved : goal.loop-verb-preserved
loop-verb-preserved c =
    adds_one _ c.loop-verb.verb-index _ _ _ _ c.loop-verb-test.true c.loop-verb.invariant c.in_ok-program.ensures c.in_ok-verb_command.ensures.local c.in_ok-verb_command.ensures.shape
