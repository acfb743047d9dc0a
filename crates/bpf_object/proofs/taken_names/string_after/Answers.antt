use Rattle.std.proofs.Common.{◌-◌, ◌∙◌}
use Rattle.std.proofs.lemmas.List.{take_rest}
use Rattle.bpf_object.proofs.TakenLemmas.{string_inside}
use Rattle.bpf_object.proofs.taken_names.string_after.Goals as goal

pub returns-then-off-last : goal.returns-then-off-last
returns-then-off-last c =
    take_rest c.args.known.now (c.args.off - c.args.last)
    ∙ string_inside c.args.strings.now c.args.off c.args.last c.args.known.now c.requires.known c.if-last-off.true c.if-off-last.true
