-- What is reported of code that is read instruction by instruction.
use Rattle.std.proofs.Common.{◌≡◌, ℕ, ◌+◌, ◌-◌, ◌<◌, ◌≤◌, List, [], ◌∷◌, ◌++◌, length, take, drop, All, Option, Some, None, refl, sym, ap, subst, ◌∙◌, arith, length-append, length-drop}
use Rattle.std.proofs.lemmas.List.{append-nil, Elements.All-map, Folds.flat_map-map}
use Rattle.std.specs.Prelude.{map}
use Rattle.bpf_words.specs.declared.Order.{Order}
use Rattle.bpf_insn.specs.declared.{insn.Insn.Insn, fault.SlotFault.SlotFault}
use Rattle.bpf_insn.specs.{Encoding.InsnFile, Faults.IsSlotFault}
use Rattle.bpfcanon_object.specs.Code.{IsEnd, IsFound}
use Rattle.bpfcanon_object.specs.Items.{Begins, IsFront, IsItem, Item, code_of, item_bytes, need_of}
use Rattle.bpfcanon_object.specs.Items.Item.{standard}
use Rattle.bpfcanon_object.specs.Target.{first_of, first_outside, outside_at}
use Rattle.bpfcanon_object.specs.declared.{finding.Finding.Finding, finding.Reason.TheVariants.Fault, target.Target.Target}
use Rattle.bpfcanon_object.proofs.ItemLemmas.{AreBefore, ends, ends_at, rest_is, short_begins_none}

first_of-assoc : (a b c : Option Finding) → first_of (first_of a b) c ≡ first_of a (first_of b c)
first_of-assoc None b c = refl
first_of-assoc (Some x) b c = refl

first_of-none : (a : Option Finding) → first_of a None ≡ a
first_of-none None = refl
first_of-none (Some x) = refl

-- one item more
pub outside-push : (order : Order) (target : Option Target) (at : ℕ) (items : List Item) (x : Item)
    → first_outside order target at (items ++ x ∷ []) ≡ first_of (first_outside order target at items) (outside_at target (at + length (code_of order items)) (need_of x))
outside-push order target at [] x =
    first_of-none (outside_at target at (need_of x)) ∙ ap (λ n. outside_at target n (need_of x)) (omega arith)
outside-push order target at (item ∷ items) x =
    let next : ℕ = at + length (item_bytes order item) in
    let here : Option Finding = outside_at target at (need_of item) in
    let later : Option Finding = first_outside order target next items in
    ap (first_of here) (outside-push order target next items x)
    ∙ sym (first_of-assoc here later (outside_at target (next + length (code_of order items)) (need_of x)))
    ∙ ap (λ n. first_of (first_of here later) (outside_at target n (need_of x)))
    (omega (arith, length-append (item_bytes order item) (code_of order items)))

module _ (order : Order) (target : Option Target) (bytes : List ℕ) (at : ℕ) (items : List Item) (h : AreBefore order bytes at items) where
  pub found_at_end : (found : Option Finding) → length bytes ≤ at → found ≡ first_outside order target 0 items → IsFound order target bytes found
  found_at_end found end e = (items, ([], (ends order bytes at items h end, e)))

  fault_of_rest : (rest : List ℕ) (slot : SlotFault) → 0 < length rest → IsSlotFault order rest slot
      → IsEnd order target items rest (Some (record { pos = length (code_of order items) + slot.pos; reason = Fault slot.cause }))
  fault_of_rest [] slot some f = absurd (omega (arith, some))
  fault_of_rest (x ∷ rest) slot some f = (slot, (f, refl))

  pub found_at_fault : (slot : SlotFault) → at < length bytes → IsSlotFault order (take (length bytes - at) (drop at bytes)) slot
      → ((item : Item) → ¬ Begins order item (take (length bytes - at) (drop at bytes)))
      → IsFound order target bytes (Some (record { pos = at + slot.pos; reason = Fault slot.cause }))
  found_at_fault slot before f none =
      let here : IsSlotFault order h.rest slot = subst (λ s. IsSlotFault order s slot) (rest_is order bytes at items h) f in
      let some : 0 < length h.rest = omega (arith, before, h.at_offset, ap length h.front, length-append (code_of order items) h.rest) in
      let found : Option Finding = Some (record { pos = at + slot.pos; reason = Fault slot.cause }) in
      let e : Some (record { pos = length (code_of order items) + slot.pos; reason = Fault slot.cause }) ≡ found =
      ap (λ n. Some (record { pos = n + slot.pos; reason = Fault slot.cause })) (sym h.at_offset) in
      (items, (h.rest, (ends_at order bytes at items h none, subst (IsEnd order target items h.rest) e (fault_of_rest h.rest slot some here))))

-- instructions of RFC 9669 without a target
none_outside : (order : Order) (at : ℕ) (items : List Item) → first_outside order None at items ≡ None
none_outside order at [] = refl
none_outside order at (item ∷ items) = none_outside order (at + length (item_bytes order item)) items

pub found_in_file : (order : Order) (bytes : List ℕ) (insns : List Insn) → InsnFile order bytes insns → IsFound order None bytes None
found_in_file order bytes insns file =
    let items : List Item = map standard insns in
    let same : bytes ≡ code_of order items ++ [] = file.1 ∙ sym (flat_map-map (item_bytes order) standard insns) ∙ sym (append-nil (code_of order items)) in (
      items,
      (
        [],
        (
          record { each = All-map IsItem standard insns file.0; front = same; none = λ item. short_begins_none order item [] (omega arith) },
          sym (none_outside order 0 items),
        ),
      ),
    )
