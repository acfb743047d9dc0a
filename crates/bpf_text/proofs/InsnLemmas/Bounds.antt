-- The largest numbers of tokens and operands of a line.
use Rattle.std.proofs.Common.{◌≡◌, ℕ, ◌+◌, ◌*◌, ◌<◌, ◌≤◌, Bool, true, false, cond, List, [], ◌∷◌, length, refl, sym, ap, ◌∙◌, arith}
use Rattle.std.proofs.lemmas.{List.length-map, Slice.Zip.AllZip-long}
use Rattle.std.specs.List.{AllZip, slice_split, onto_first}
use Rattle.bpf_insn.specs.declared.insn.{WideOf.TheVariants.Number, Insn.Insn, Insn.TheVariants.Wide}
use Rattle.bpf_text.specs.insn.Operands.{LineOperand, register, operand_kind, SpellsOperand, SpellsOperands, is_comma}
use Rattle.bpf_text.specs.insn.{Table.operands_of, Listing.IsForm}

-- the number of elements of all parts
abbrev total : {X : Type 0} → List (List X) → ℕ
total [] = 0
total (x ∷ xs) = length x + total xs

-- a part has at most five tokens
part_bound : (ts : List (List ℕ)) (a : LineOperand) → SpellsOperand ts a → length ts ≤ 5
part_bound (t ∷ u ∷ v ∷ w ∷ x ∷ y ∷ more) (register r) h = absurd h
part_bound (t ∷ u ∷ v ∷ w ∷ x ∷ y ∷ more) _ h = absurd h
part_bound _ a h = omega arith

parts_bound : (parts : List (List (List ℕ))) (xs : List LineOperand) → AllZip SpellsOperand parts xs → total parts ≤ 5 * length xs
parts_bound [] [] h = omega arith
parts_bound (p ∷ parts) (x ∷ xs) h = omega (arith, part_bound p x h.0, parts_bound parts xs h.1)
parts_bound _ _ h = absurd h

-- splitting at commas drops only the commas
onto_total : {X : Type 0} (x : X) (parts : List (List X)) → 0 < length parts → (total (onto_first x parts) ≡ total parts + 1) × (length (onto_first x parts) ≡ length parts)
onto_total x [] h = absurd (omega arith)
onto_total x (p ∷ parts) h = (omega arith, refl)

abbrev Counts : {X : Type 0} → List X → List (List X) → Type 0
Counts xs parts = (length xs + 1 ≡ total parts + length parts) × (0 < length parts)

by_test : {X : Type 0} (x : X) (xs : List X) (parts : List (List X)) → Counts xs parts → (b : Bool) → Counts (x ∷ xs) (cond b ([] ∷ parts) (onto_first x parts))
by_test x xs parts more true = (omega (arith, more.0), omega arith)
by_test x xs parts more false =
    let onto = onto_total x parts more.1 in
    (omega (arith, more.0, onto.0, onto.1), omega (arith, more.1, onto.1))

split_total : {X : Type 0} (p : X → Bool) (xs : List X) → Counts xs (slice_split p xs)
split_total p [] = (omega arith, omega arith)
split_total p (x ∷ xs) = by_test x xs (slice_split p xs) (split_total p xs) (p x)

-- three operands have at most 17 tokens
pub tokens_bound : (ts : List (List ℕ)) (xs : List LineOperand) → length xs ≤ 3 → SpellsOperands ts xs → length ts ≤ 17
tokens_bound ts [] l h = omega (arith, ap length h)
tokens_bound ts (x ∷ xs) l h =
    omega (arith, (split_total is_comma ts).0, parts_bound (slice_split is_comma ts) (x ∷ xs) h, AllZip-long SpellsOperand (slice_split is_comma ts) (x ∷ xs) h)

-- an instruction has at most three operands
operands_bound : (i : Insn) → length (operands_of i) ≤ 3
operands_bound (Wide d (Number n)) = omega arith
operands_bound _ = omega arith

-- likewise for tokens that match a mnemonic
pub form_bound : (word : List ℕ) (ts : List (List ℕ)) (form : IsForm word ts) → length form.3.0 ≤ 3
form_bound word ts form =
    omega (arith, operands_bound form.0, sym (length-map form.3.0 operand_kind) ∙ ap length form.3.1 ∙ length-map (operands_of form.0) operand_kind)
