use Rattle.std.proofs.Common.{◌≡◌, take}
use Rattle.clap.specs.Words.{app_of}
use Rattle.bpfcanon.specs.Verbs.{all_verbs}
use Rattle.bpfcanon.proofs.LineLemmas.OptionsLemmas.{program_with}
use Rattle.bpfcanon.proofs.line.options.program_command.Given as goal

abbrev pub invariant-loop-verb : goal.invariant-loop-verb
invariant-loop-verb l = app_of l.program ≡ program_with l.orders.words (take l.verb-index all_verbs)
