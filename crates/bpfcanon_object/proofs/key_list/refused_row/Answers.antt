use Rattle.std.proofs.Common.{rules}
use Rattle.bpfcanon_object.proofs.key_list.refused_row.Goals as goal

pub returns : goal.returns
returns g c =
    let refused = c.in_ok-answer.ensures in
    (refused.0, (refused.1.0, search rules))
