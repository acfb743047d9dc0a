use Rattle.std.proofs.Common.{◌∙◌, arith}
use Rattle.bpf_object.specs.Sources.{section}
use Rattle.bpf_object.proofs.AcceptedLemmas.{part_groups, group_found}
use Rattle.bpf_object.proofs.accepted.AcceptedObject.group_in.Goals as goal

pub group_of-requires : goal.group_of-requires
group_of-requires c = part_groups c.in_ok-source.source c.args.part c.in_ok-source.ensures.1

pub returns-in_default : goal.returns-in_default
returns-in_default c =
    group_found _ _ c.args.part c.args.section _ (section c.in_ok-source.source) c.name.result.now c.group_of.result c.self.view_is c.section_count.ensures.value
    (omega (arith, c.if-section-section_count.false)) c.in_ok-source.ensures.0 c.name.ensures c.group_of.ensures.is
    ∙ c.in_default.is

pub returns : goal.returns
returns c =
    let is = group_found _ _ c.args.part c.args.section _ (section c.in_ok-source.source) c.name.result.now c.group_of.result c.self.view_is c.section_count.ensures.value
    (omega (arith, c.if-section-section_count.false)) c.in_ok-source.ensures.0 c.name.ensures c.group_of.ensures.is in
    record { source = c.in_ok-source.ensures.0; is = is ∙ c.in-Some.is; has = rw c.in-Some.is at c.group_of.ensures.there }
