use Rattle.std.proofs.Common.{◌∙◌, sym}
use Rattle.std.proofs.lemmas.Bool.{eqb-true, eqb-false}
use Rattle.bpf_canon.proofs.BtfLemmas.Strings.UsedSteps.{unused_between, number_kept}
use Rattle.bpf_canon.proofs.btf.strings.used_offsets.UsedOffsets.are_unused.Goals as goal

pub returns-clause-yes : goal.returns-clause-yes
returns-clause-yes g c same off low high =
    unused_between c.args.self.now.slots c.args.start c.args.end off (sym c.used_before.ensures ∙ eqb-true c.used_before.result c.used_before-2.result same ∙ c.used_before-2.ensures) low high

pub returns-clause-no : goal.returns-clause-no
returns-clause-no g c other unused =
    eqb-false c.used_before.result c.used_before-2.result other (c.used_before.ensures ∙ number_kept c.args.self.now.slots c.args.start c.args.end c.requires.order unused ∙ sym c.used_before-2.ensures)
