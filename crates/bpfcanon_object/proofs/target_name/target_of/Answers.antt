use Rattle.std.proofs.Common.{◌∙◌, sym}
use Rattle.bpfcanon_object.proofs.target_name.target_of.Goals as goal

pub returns-then-are_groups : goal.returns-then-are_groups
returns-then-are_groups g c = (c.in_ok-groups.ensures, sym c.are_groups.ensures ∙ c.if-are_groups.true)
