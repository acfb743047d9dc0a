use Rattle.btf_types.proofs.FaultlessLemmas.Faultless.{fields_are_right}
use Rattle.btf_types.proofs.checks.fields.check_fields.Goals as goal

pub returns-clause-cases : goal.returns-clause-cases
returns-clause-cases g c =
    fields_are_right c.args.order c.args.types.now c.args.strings.now c.args.offsets.now c.requires.framed c.requires.ends c.requires.short c.requires.few c.in-None.ensures.cases
