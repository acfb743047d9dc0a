use Rattle.std.proofs.Common.{rules, of_calls, None, ◌∙◌}
use Rattle.btf_raw.specs.declared.info.Naming.TheVariants.{Free, Needed, Unnamed}
use Rattle.btf_types.proofs.CheckLemmas.NameSteps.{name_checked, in_range}
use Rattle.btf_types.proofs.checks.references.name_fault.Goals as goal

pub bounds-section-inside-off : goal.bounds-section-inside-off
bounds-section-inside-off c = in_range c.section.inside.strings.now c.args.off (rw (← c.section.view_is) at c.in_default.ensures)

pub returns-in-Needed : goal.returns-in-Needed
returns-in-Needed c kind row =
    rw (← c.section.view_is)
    (name_checked c.section.inside.strings.now kind Needed c.args.off c.then_some.result (row ∙ c.in-Needed.is) c.section.invariant.ends
    (rw (← c.section.view_is) at c.in_default.ensures) (search (rules, of_calls)))

pub returns-in-Unnamed : goal.returns-in-Unnamed
returns-in-Unnamed c kind row =
    rw (← c.section.view_is)
    (name_checked c.section.inside.strings.now kind Unnamed c.args.off c.then_some-in-Unnamed.result (row ∙ c.in-Unnamed.is) c.section.invariant.ends
    (rw (← c.section.view_is) at c.in_default.ensures) (search (rules, of_calls)))

pub returns-in-Free : goal.returns-in-Free
returns-in-Free c kind row =
    rw (← c.section.view_is)
    (name_checked c.section.inside.strings.now kind Free c.args.off None (row ∙ c.in-Free.is) c.section.invariant.ends
    (rw (← c.section.view_is) at c.in_default.ensures) (search (rules, of_calls)))
