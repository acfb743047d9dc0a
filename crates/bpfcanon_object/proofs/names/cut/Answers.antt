use Rattle.bpfcanon_object.specs.Formats.{cut_name}
use Rattle.bpfcanon_object.proofs.names.cut.Goals as goal

pub returns : goal.returns
unfolding cut_name
returns c = c.front.ensures
