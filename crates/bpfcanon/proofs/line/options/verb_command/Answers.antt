use Rattle.std.proofs.Common.{◌∙◌, sym, refl}
use Rattle.bpfcanon.proofs.LineLemmas.OptionsLemmas.{skips_one, takes_one}
use Rattle.bpfcanon.proofs.line.options.verb_command.Goals.{then-takes+in_ok-command, else-takes}
use Rattle.bpfcanon.proofs.line.options.verb_command.Goals as goal

pub loop-setting-preserved : goal.loop-setting-preserved
loop-setting-preserved c = elim c.if-takes.branch [
  | then-takes+in_ok-command w ↦
      let taken = sym c.takes.ensures ∙ w.if-takes.true in
      let adds = w.in_ok-command.ensures in
      record {
        shape = rw w.command-is (takes_one _ c.args.verb c.loop-setting.setting-index _ _ _ _ c.loop-setting-test.true taken c.loop-setting.invariant.shape adds w.setting_arg.ensures.local w.setting_arg.ensures.rule);
        local = rw (w.command-is, adds.globals, c.loop-setting.invariant.local, w.setting_arg.ensures.local) refl;
      }
  | else-takes w ↦
      let skipped = sym c.takes.ensures ∙ w.if-takes.false in
      record {
        shape = rw w.command-is (skips_one _ c.args.verb c.loop-setting.setting-index _ _ c.loop-setting-test.true skipped c.loop-setting.invariant.shape);
        local = rw w.command-is c.loop-setting.invariant.local;
      }
]
