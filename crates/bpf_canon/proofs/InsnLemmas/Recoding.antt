-- A file in either order has the same slots, and what follows some bytes is rewritten in place.
use Rattle.std.proofs.Common.{◌≡◌, ℕ, ◌-◌, ◌+◌, ℤ, pos, List, [], ◌∷◌, ◌++◌, Option, Some, None, length, take, All, refl, sym, ap, ◌∙◌, append-nil, arith, length-append, rules}
use Rattle.std.specs.List.{flat_map}
use Rattle.std.proofs.lemmas.List.{take_all, Elements.All-head, Elements.All-nil, Elements.All-tail, Elements.All-cons, Elements.All-append}
use Rattle.std.proofs.Math.Seq.{drop-append_seam, drop-length, take-append_seam}
use borrow.Rule.Slice.PartMut.{Post-is, mid_of, post_of, put_mid}
use Rattle.bpf_words.specs.declared.Order.{Order}
use Rattle.bpf_words.specs.Slots.{Fields, AreFields, AreSlots, fields, encoded}
use Rattle.bpf_insn.specs.declared.insn.Insn.{Insn}
use Rattle.bpf_insn.specs.Table.{IsInsn, fields_of, next_imm_of}
use Rattle.bpf_insn.specs.Encoding.{encoding, second_slot, file_of, InsnFile}
use Rattle.bpf_insn.proofs.FieldLemmas.{fields_in_range}

-- a second slot is one whose fields are 0, except the immediate
abbrev pub second_fields : Option ℤ → List Fields
second_fields None = []
second_fields (Some k) = fields 0 0 0 (pos 0) k ∷ []

abbrev pub slots_of_insn : Insn → List Fields
slots_of_insn i = fields_of i ∷ second_fields (next_imm_of i)

second_encoded : (order : Order) (k : Option ℤ) → second_slot order k ≡ flat_map (encoded order) (second_fields k)
second_encoded order k = grind arith

insn_encoded : (order : Order) (i : Insn) → encoding order i ≡ flat_map (encoded order) (slots_of_insn i)
unfolding encoding
insn_encoded order i = ap (λ xs. encoded order (fields_of i) ++ xs) (second_encoded order (next_imm_of i))

abbrev pub slots_of_file : List Insn → List Fields
slots_of_file insns = flat_map slots_of_insn insns

pub file_encoded : (order : Order) (insns : List Insn) → file_of order insns ≡ flat_map (encoded order) (slots_of_file insns)
file_encoded order [] = refl
file_encoded order (i ∷ insns) = grind (arith, insn_encoded, (file_encoded order insns))

-- every field of a slot of an instruction is in its range
second_in_range : (i : Insn) → IsInsn i → All AreFields (second_fields (next_imm_of i))
second_in_range _ h = grind arith

insn_in_range : (i : Insn) → IsInsn i → All AreFields (slots_of_insn i)
insn_in_range i h = All-cons AreFields (fields_of i) (second_fields (next_imm_of i)) (fields_in_range i h) (second_in_range i h)

file_in_range : (insns : List Insn) → All IsInsn insns → All AreFields (slots_of_file insns)
file_in_range [] h = All-nil AreFields
file_in_range (i ∷ insns) h = search (rules, All-append, insn_in_range, All-head, (file_in_range insns (All-tail IsInsn i insns h)))

-- a file in an order has these slots in that order
pub file_slots : (order : Order) (bytes : List ℕ) (insns : List Insn) → InsnFile order bytes insns → AreSlots order bytes (slots_of_file insns) []
file_slots order bytes insns file =
    (file_in_range insns file.0, omega arith, file.1 ∙ file_encoded order insns ∙ sym (append-nil (flat_map (encoded order) (slots_of_file insns))))

-- bytes that have the slots of some instructions are their file
pub slots_file : (order : Order) (bytes : List ℕ) (insns : List Insn) → AreSlots order bytes (slots_of_file insns) [] → bytes ≡ file_of order insns
slots_file order bytes insns h = h.2 ∙ append-nil (flat_map (encoded order) (slots_of_file insns)) ∙ sym (file_encoded order insns)

-- the bytes that follow some others
pub appended_part : (old bytes all : List ℕ) (start : ℕ) → all ≡ old ++ bytes → start ≡ length old → mid_of start (length all - start) all ≡ bytes
appended_part old bytes all start is at = grind (arith, drop-append_seam, take_all, length-append)

-- the bytes that follow some others, overwritten by as many
pub appended_in_place : (old bytes all written rest : List ℕ) (start n : ℕ) → all ≡ old ++ bytes → start ≡ length old → n ≡ length all → length written ≡ length bytes
    → take n (put_mid start (length all - start) all written ++ rest) ≡ old ++ written
appended_in_place old bytes all written rest start n is at count same =
    let long : length all ≡ length old + length bytes = ap length is ∙ length-append old bytes in
    let front : take start all ≡ old = ap (take start) is ∙ ap (λ (m : ℕ). take m (old ++ bytes)) at ∙ take-append_seam old bytes in
    let none : post_of start (length all - start) all ≡ [] = Post-is start (length all) all (omega (arith, long, at)) ∙ drop-length all in
    let whole : put_mid start (length all - start) all written ≡ old ++ written = grind (arith, append-nil) in
    let end : n ≡ length (old ++ written) = omega (arith, count, same, long, length-append old written) in
    ap (λ (x : List ℕ). take n (x ++ rest)) whole ∙ ap (λ (m : ℕ). take m ((old ++ written) ++ rest)) end ∙ take-append_seam (old ++ written) rest
