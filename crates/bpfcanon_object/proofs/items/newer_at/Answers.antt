use Rattle.std.proofs.Common.{◌≡◌, IfSome}
use Rattle.std.proofs.lemmas.Option.{IfSome_then}
use Rattle.bpf_words.specs.Slots.{Fields}
use Rattle.bpf_words.proofs.SwappedSlots.{slot_first}
use Rattle.bpfcanon_object.proofs.ItemLemmas.{newer_is, short_begins_none}
use Rattle.bpfcanon_object.specs.Items.{Begins, IsNewer}
use Rattle.bpfcanon_object.specs.Items.Item.{newer}
use Rattle.bpfcanon_object.proofs.items.newer_at.Goals as goal

pub returns-in-Some-clause-found : goal.returns-in-Some-clause-found
returns-in-Some-clause-found c =
    let e = slot_first _ _ _ _ c.slot_of.result c.in-Some.ensures.cases.0 c.in-Some.ensures.cases.1 c.slot_of.ensures.encoded in
    IfSome_then c.newer_of.result {P = λ a. IsNewer a c.slot_of.result} {Q = λ a. (f : Fields) × Begins c.args.order (newer a f) c.args.bytes.now} c.newer_of.ensures.found
    (λ a is. (c.slot_of.result, ((c.slot_of.ensures.in_range, is), (_, e))))

pub returns-in-Some-clause-none : goal.returns-in-Some-clause-none
returns-in-Some-clause-none c = λ none a f b.
    let e = slot_first _ _ _ _ c.slot_of.result c.in-Some.ensures.cases.0 c.in-Some.ensures.cases.1 c.slot_of.ensures.encoded in
    c.newer_of.ensures.none none a (newer_is _ _ _ c.slot_of.result f a c.slot_of.ensures.in_range e b)

pub returns-in-None-clause-none : goal.returns-in-None-clause-none
returns-in-None-clause-none c = λ none a f b. short_begins_none _ (newer a f) _ c.in-None.ensures.cases b
