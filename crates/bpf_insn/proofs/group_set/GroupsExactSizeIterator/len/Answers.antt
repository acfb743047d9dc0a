use Rattle.std.proofs.Common.{length, ap, rules, tests, ◌∙◌}
use Rattle.std.proofs.lemmas.Iterator.{YieldsList-from_slice, Consumers.YieldsList-from_filter, Consumers.count_from_yields_List}
use Rattle.bpf_insn.specs.Groups.{holds}
use Rattle.bpf_insn.proofs.group_set.GroupsExactSizeIterator.len.Goals as goal

pub returns-clause-value : goal.returns-clause-value
returns-clause-value c =
    count_from_yields_List _ _ c.count.ensures.ran (YieldsList-from_filter _ (holds c.self.inside.set) (YieldsList-from_slice c.self.inside.rest.now cc) c.filter.ensures.closure (λ x r q k. search (rules, tests)))
    ∙ ap length c.self.view_is
