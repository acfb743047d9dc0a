use Rattle.std.proofs.Common.{◌≡◌, None, rules}
use Rattle.bpfcanon_object.proofs.TargetLemmas.{found_in_file}
use Rattle.bpfcanon_object.proofs.code.found.Goals as goal

pub returns-then-is_none-2 : goal.returns-then-is_none-2
returns-then-is_none-2 c =
    let no_target : c.args.target ≡ None = search rules in
    let no_fault : c.first_fault.result ≡ None = search rules in
    let file = c.first_fault.ensures.file no_fault in
    rw no_target (found_in_file c.args.order c.args.bytes.now file.0 file.1)
