use Rattle.std.proofs.Common.{arith}
use Rattle.std.proofs.lemmas.Grind.{common_steps}
use Rattle.bpfcanon_object.specs.Json.{json_unit}
use Rattle.bpfcanon_object.proofs.json.push_unit.Goals as goal

pub returns : goal.returns
unfolding json_unit
returns g c = grind (arith, common_steps)
