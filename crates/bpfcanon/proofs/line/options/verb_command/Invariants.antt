use Rattle.std.proofs.Common.{◌≡◌, false}
use Rattle.clap.specs.{Words.app_of, declared.builder.command.Command.TheViews.out-Command}
use Rattle.bpfcanon.proofs.LineLemmas.OptionsLemmas.{app_up_to}
use Rattle.bpfcanon.proofs.line.options.verb_command.Given as goal

abbrev pub invariant-loop-setting : goal.invariant-loop-setting
invariant-loop-setting l = record {
  shape : app_of l.command ≡ app_up_to l.orders.words l.verb l.setting-index;
  local : (out-Command l.command).has_globals ≡ false;
}
