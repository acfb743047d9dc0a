use Rattle.std.proofs.Common.{refl, sym}
use Rattle.bpf_words.proofs.SlotLemmas.{slot_length}
use Rattle.bpfcanon_object.specs.Items.Item.{standard, newer}
use Rattle.bpfcanon_object.proofs.items.read_item.Goals as goal

pub returns-in-Ok-clause-found : goal.returns-in-Ok-clause-found
returns-in-Ok-clause-found c =
    let found = c.in-Ok.ensures.found in
    (standard c.in-Ok.read.0, (found.0, (rw (c.group_of.ensures, c.addition_of.ensures) refl, found.1)))

pub returns-in-Some-clause-found : goal.returns-in-Some-clause-found
returns-in-Some-clause-found c =
    let found = c.in-Some.ensures.found in
    (newer c.in-Some.addition found.0, (found.1, (refl, sym (slot_length c.args.order found.0))))
