use Rattle.std.proofs.Common.{◌<◌}
use Rattle.bpf_object.specs.Extension.{next_group, part_end}
use Rattle.bpf_object.specs.Sources.{section}
use Rattle.bpf_object.proofs.CursorLemmas.{rest_more}
use Rattle.bpf_object.proofs.cursors.next_in.Goals as goal

pub returns-then-next-part_end : goal.returns-then-next-part_end
returns-then-next-part_end c =
    let below = rw c.part_end.ensures.value at c.if-next-part_end.true in
    let next : next_group (section c.args.x) c.args.part c.args.group < part_end (section c.args.x) c.args.part = rw c.next_group-next.ensures at below in
    rw c.next_group-next.ensures (rest_more (section c.args.x) c.args.part c.args.group next)
