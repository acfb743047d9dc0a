-- The tokens of a written line spell its operands.
use Rattle.std.proofs.Common.{◌≡◌, ◌≢◌, ℕ, suc, ◌^◌, ◌<◌, ℤ, pos, negsuc, false, List, [], ◌∷◌, ◌++◌, inl, inr, map, refl, sym, ap, ◌∙◌, subst, arith, codes}
use Rattle.std.specs.{Fmt.decimal, Char.digit_value, Str.Parse.IsNumeral, List.AllZip, List.list_any, List.slice_split}
use Rattle.std.proofs.lemmas.{Bool.or_from, Bool.Decides.nat_tests, Fmt.decimal_is_IsNumeral}
use Rattle.std.proofs.lemmas.List.{Folds.list_any-append, Splits.slice_split_none, Splits.slice_split_at}
use Rattle.bpf_insn.specs.declared.insn.Reg.{Reg}
use Rattle.bpf_text.specs.insn.Operands.{LineOperand, register, number, signed, memory, register_text, SpellsMagnitude, SpellsOperand, SpellsOperands, is_comma}
use Rattle.bpf_text.proofs.InsnLemmas.TokenLemmas.{none_passes}
use Rattle.bpf_text.proofs.InsnLemmas.WrittenTokens.{IsNear, numeral, number_tokens, signed_tokens, IsWritable, AreWritable, operand_tokens, operands_tokens}

-- ---- one operand

magnitude : (n : ℕ) → n < 2 ^ 64 → SpellsMagnitude (decimal n) n
magnitude n near = let d = decimal_is_IsNumeral n near in inl (d.0, sym d.1)

signed_spells : (z : ℤ) → IsNear z → SpellsOperand (signed_tokens z) (signed z)
signed_spells (pos n) near = (n, magnitude n near, inl (refl, refl))
signed_spells (negsuc n) near = (suc n, magnitude (suc n) near, inr (refl, refl))

number_spells : (z : ℤ) → IsNear z → SpellsOperand (number_tokens z) (number z)
number_spells (pos n) near = (n, magnitude n near, refl)
number_spells (negsuc n) near = (suc n, magnitude (suc n) near, inr (refl, refl))

memory_spells : (r : Reg) (z : ℤ) → IsNear z → SpellsOperand (operand_tokens (memory r z)) (memory r z)
memory_spells r (pos n) near = (refl, refl, (n, magnitude n near, inl (refl, refl)), refl)
memory_spells r (negsuc n) near = (refl, refl, (suc n, magnitude (suc n) near, inr (refl, refl)), refl)

operand_spells : (a : LineOperand) → IsWritable a → SpellsOperand (operand_tokens a) a
operand_spells (register r) near = refl
operand_spells (number z) near = number_spells z near
operand_spells (signed z) near = signed_spells z near
operand_spells (memory r z) near = memory_spells r z near

-- ---- commas

numeral_no_comma : (ds : List ℕ) → IsNumeral 10 ds → is_comma ds ≡ false
numeral_no_comma [] h = refl
numeral_no_comma (d ∷ ds) h = let digit : digit_value d < 10 = h.1.0 in grind (arith, nat_tests)

word_no_comma : (b : ℕ) (ds : List ℕ) → b ≢ 44 → is_comma (b ∷ ds) ≡ false
word_no_comma b ds h = grind (arith, nat_tests)

none_then : (t : List ℕ) (ts : List (List ℕ)) → is_comma t ≡ false → list_any is_comma ts ≡ false → list_any is_comma (t ∷ ts) ≡ false
none_then t ts e f = or_from (is_comma t) (list_any is_comma ts) e f

signed_no_comma : (z : ℤ) → IsNear z → list_any is_comma (signed_tokens z) ≡ false
signed_no_comma (pos n) near = none_then (codes "+") (decimal n ∷ []) refl (none_then (decimal n) [] (numeral_no_comma (decimal n) (numeral n near)) refl)
signed_no_comma (negsuc n) near = none_then (codes "-") (decimal (suc n) ∷ []) refl (none_then (decimal (suc n)) [] (numeral_no_comma (decimal (suc n)) (numeral (suc n) near)) refl)

number_no_comma : (z : ℤ) → IsNear z → list_any is_comma (number_tokens z) ≡ false
number_no_comma (pos n) near = none_then (decimal n) [] (numeral_no_comma (decimal n) (numeral n near)) refl
number_no_comma (negsuc n) near = signed_no_comma (negsuc n) near

operand_no_comma : (a : LineOperand) → IsWritable a → list_any is_comma (operand_tokens a) ≡ false
operand_no_comma (register r) near = none_then (register_text r) [] (word_no_comma 114 (decimal r.number) (λ e. omega arith)) refl
operand_no_comma (number z) near = number_no_comma z near
operand_no_comma (signed z) near = signed_no_comma z near
operand_no_comma (memory r z) near =
    none_then (codes "[") (register_text r ∷ (signed_tokens z ++ codes "]" ∷ [])) refl
    (none_then (register_text r) (signed_tokens z ++ codes "]" ∷ []) (word_no_comma 114 (decimal r.number) (λ e. omega arith))
    (list_any-append is_comma (signed_tokens z) (codes "]" ∷ []) ∙ or_from (list_any is_comma (signed_tokens z)) (list_any is_comma (codes "]" ∷ [])) (signed_no_comma z near) refl))

-- ---- several operands

split : (a : LineOperand) (more : List LineOperand) → AreWritable (a ∷ more) → slice_split is_comma (operands_tokens (a ∷ more)) ≡ map operand_tokens (a ∷ more)
split a [] near = slice_split_none is_comma (operand_tokens a) (none_passes is_comma (operand_tokens a) (operand_no_comma a near.0))
split a (b ∷ more) near =
    slice_split_at is_comma (operand_tokens a) (codes ",") (operands_tokens (b ∷ more)) (none_passes is_comma (operand_tokens a) (operand_no_comma a near.0)) refl
    ∙ ap (λ parts. operand_tokens a ∷ parts) (split b more near.1)

each_spells : (xs : List LineOperand) → AreWritable xs → AllZip SpellsOperand (map operand_tokens xs) xs
each_spells [] near = tt
each_spells (a ∷ more) near = (operand_spells a near.0, each_spells more near.1)

pub operands_spell : (xs : List LineOperand) → AreWritable xs → SpellsOperands (operands_tokens xs) xs
operands_spell [] near = refl
operands_spell (a ∷ more) near = subst (λ (parts : List (List (List ℕ))). AllZip SpellsOperand parts (a ∷ more)) (sym (split a more near)) (each_spells (a ∷ more) near)
