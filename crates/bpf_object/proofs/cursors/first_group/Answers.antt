use Rattle.std.proofs.Common.{◌<◌, arith}
use Rattle.bpf_object.specs.Extension.{part_len}
use Rattle.bpf_object.specs.Sources.{section}
use Rattle.bpf_object.proofs.CursorLemmas.{all_groups}
use Rattle.bpf_object.proofs.cursors.first_group.Goals as goal

pub returns : goal.returns
returns c =
    let other = rw c.part_len.ensures.value at c.if-part_len-eq0.false in
    let some : 0 < part_len (section c.args.x) c.args.part = omega (arith, other) in
    rw c.part_start.ensures.value (all_groups (section c.args.x) c.args.part some)
