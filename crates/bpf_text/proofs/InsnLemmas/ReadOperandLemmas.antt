-- Which operands tokens spell, by the number of tokens.
use Rattle.std.proofs.Common.{◌≡◌, ℕ, ◌<◌, ◌≤◌, List, [], ◌∷◌, ℤ, length, get_or, map, refl, arith, to_z, of_z}
use Rattle.std.specs.{Borrow.Bor, Int.w128}
use Rattle.std.proofs.lemmas.Int.{to_z-of_z}
use Rattle.bpf_insn.specs.declared.insn.Reg.{Reg}
use Rattle.bpf_text.specs.insn.Operands.{LineOperand, register, number, signed, memory, SpellsMagnitude, SpellsSigned, SpellsRegister, SpellsOperand}
use Rattle.bpf_text.specs.insn.Numbers.{IsNumber}

-- a number as it is passed on
pub passed : (n z : ℤ) → IsNumber n z → IsNumber (to_z w128 (of_z w128 n)) z
passed n z h = rw (to_z-of_z w128 n h.0) h

pub none_of_one : (token : List ℕ) → ((r : Reg) → ¬ SpellsRegister token r) → ((n : ℕ) → ¬ SpellsMagnitude token n) → (a : LineOperand) → ¬ SpellsOperand (token ∷ []) a
none_of_one token registers magnitudes (register r) = λ h. registers r h
none_of_one token registers magnitudes (number z) = λ h. magnitudes h.0 h.1
none_of_one token registers magnitudes (signed z) = λ h. magnitudes h.0 h.1
none_of_one token registers magnitudes (memory r z) = λ h. h

pub none_of_two : (sign token : List ℕ) → ((z : ℤ) → ¬ SpellsSigned sign token z) → (a : LineOperand) → ¬ SpellsOperand (sign ∷ token ∷ []) a
none_of_two sign token numbers (number z) = λ h. numbers z h
none_of_two sign token numbers (signed z) = λ h. numbers z h
none_of_two sign token numbers _ = λ h. h

pub none_of_five : (opening base sign token closing : List ℕ) → ((z : ℤ) → ¬ SpellsSigned sign token z) → (a : LineOperand) → ¬ SpellsOperand (opening ∷ base ∷ sign ∷ token ∷ closing ∷ []) a
none_of_five opening base sign token closing numbers (memory r z) = λ h. numbers z h.2
none_of_five opening base sign token closing numbers _ = λ h. h

-- the bytes of a token
abbrev pub token_at : List (Bor (List ℕ)) → ℕ → List ℕ
token_at xs i = (get_or xs i (record { ref_ptr = (0, 0); now = [] })).now

abbrev pub tokens_of : List (Bor (List ℕ)) → List (List ℕ)
tokens_of xs = map (λ t. t.now) xs

-- two, three or five tokens, one by one
pub two_cells : (xs : List (Bor (List ℕ))) → 2 ≤ length xs → length xs < 3 → tokens_of xs ≡ token_at xs 0 ∷ token_at xs 1 ∷ []
two_cells (a ∷ b ∷ []) l h = refl
two_cells _ l h = absurd (omega arith)

pub three_cells : (xs : List (Bor (List ℕ))) → 3 ≤ length xs → length xs < 4 → tokens_of xs ≡ token_at xs 0 ∷ token_at xs 1 ∷ token_at xs 2 ∷ []
three_cells (a ∷ b ∷ c ∷ []) l h = refl
three_cells _ l h = absurd (omega arith)

pub five_cells : (xs : List (Bor (List ℕ))) → 5 ≤ length xs → length xs < 6 → tokens_of xs ≡ token_at xs 0 ∷ token_at xs 1 ∷ token_at xs 2 ∷ token_at xs 3 ∷ token_at xs 4 ∷ []
five_cells (a ∷ b ∷ c ∷ d ∷ e ∷ []) l h = refl
five_cells _ l h = absurd (omega arith)

pub one_byte : (xs : List ℕ) (b : ℕ) → 1 ≤ length xs → length xs < 2 → get_or xs 0 0 ≡ b → xs ≡ b ∷ []
one_byte (x ∷ []) b l h e = cc
one_byte _ b l h e = absurd (omega arith)
