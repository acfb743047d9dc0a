-- There are few records, and the order is theirs.
use Rattle.std.proofs.Common.{List, ℕ, sym, subst, ◌∙◌}
use Rattle.bpf_object.specs.private.TypeSteps.{AreNumbered}
use Rattle.bpf_object.specs.Denotes.{types_of}
use Rattle.bpf_object.proofs.TypesLemmas.{few_records}
use Rattle.bpf_object.proofs.canon.write_ordered.Goals as goal

pub type_order-requires-clause-few : goal.type_order-requires-clause-few
type_order-requires-clause-few g c = few_records (types_of c.args.elf.now).bytes c.args.sections.now c.requires.keeps.types.sections

pub write_typed-requires-clause-order : goal.write_typed-requires-clause-order
write_typed-requires-clause-order g c =
    let s = c.args.sections.now in
    let order = c.in_ok-order.order in
    subst (λ (ids : List ℕ). AreNumbered s ids c.renumbered-x.result.numbers.now) (sym c.deref-2.ensures.value)
    (subst (λ (numbers : List ℕ). AreNumbered s order.ids.items numbers) (sym (c.renumbered-x.ensures.numbers ∙ c.deref.ensures.value)) c.in_ok-order.ensures)
