use Rattle.std.proofs.Common.{◌≤◌, arith}
use Rattle.bpfcanon_object.proofs.EscapeLemmas.{json_numbered-large}
use Rattle.bpfcanon_object.proofs.json.push_numbered.Goals as goal

pub returns : goal.returns
returns g c =
    let large : 65536 ≤ c.args.c = omega arith in
    rw (json_numbered-large c.args.c large) c.push_pair.ensures
