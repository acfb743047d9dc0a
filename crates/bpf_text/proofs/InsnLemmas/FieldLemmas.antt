-- The result of reading one field.
use Rattle.std.proofs.Common.{◌≡◌, ◌≢◌, ◌^◌, ◌<◌, ℕ, ℤ, pos, negsuc, ◌⊎◌, inl, inr, refl, sym, ap, ◌∙◌, Result, Ok, Err, FitsSigned, OkIff, MatchResult, unsigned_abs, arith}
use Rattle.std.specs.{Result.result_or, Int.FitsUnsigned, Int.Width, Int.w16, Int.w32, Int.w64, Int.w128}
use Rattle.std.proofs.lemmas.Int.{ints}
use Rattle.bpf_insn.specs.declared.insn.{Reg.Reg as Register, Operand.Operand, Operand.TheVariants.Imm, Operand.TheVariants.Reg}
use Rattle.bpf_insn.specs.Table.{IsImm, IsOperand}
use Rattle.bpf_text.specs.declared.insn.fault.LineCause.{LineCause, TheVariants.Range, TheVariants.Shape}
use Rattle.bpf_text.specs.declared.insn.read_operand.ReadOperand.TheVariants.{Literal, Memory}
use Rattle.bpf_text.specs.insn.Operands.{LineOperand, number, signed, memory, operand_kind, a_number}
use Rattle.bpf_text.specs.insn.{Table.source_operand, Numbers.IsNumber, Numbers.IsFar, Numbers.IsReadAs}
use Rattle.bpf_text.specs.insn.OperandFields.{Field, address_field, source_field, imm_field, offset_field, imm64_field, ReadsField, FieldIsRead}

-- a number is represented by itself, unless both are far
itself : (n z : ℤ) → IsNumber n z → ¬ IsFar n ⊎ ¬ IsFar z → n ≡ z
itself n z (f, inl same) near = same
itself n z (f, inr far) (inl near) = absurd (near far.0)
itself n z (f, inr far) (inr near) = absurd (near far.1)

-- the number is in the range of the field
abbrev Holds : {X : Type 0} → Field X → ℤ → Type 0
Holds {X} field z = (x : X) × field.valid x × (number z ≡ field.written x)

-- a number that is converted to the type of the field
number_read : {X E : Type 0} (field : Field X) (x : X) → operand_kind (field.written x) ≡ a_number → ((z : ℤ) → Holds field z → ¬ IsFar z) → (n : ℤ) (r : Result X E)
    → (FitsSigned w128 n → MatchResult r (λ y. field.valid y × (number n ≡ field.written y)) (λ e. ¬ Holds field n))
    → (a : LineOperand) → IsReadAs (Literal n) a → ReadsField field a (result_or r (Err Range))
number_read field x kind near n (Ok y) is (number z) h =
    let k = is h.0 in (k.0, ap number (sym (itself n z h (inl (near n (y, k.0, k.1))))) ∙ k.1)
number_read field x kind near n (Ok y) is (signed z) h =
    let k = is h.0 in (k.0, ap number (sym (itself n z h (inl (near n (y, k.0, k.1))))) ∙ k.1)
number_read field x kind near n (Err e) is (number z) h =
    ((x, sym kind), (λ y v same. is h.0 (y, v, ap number (itself n z h (inr (near z (y, v, same)))) ∙ same)))
number_read field x kind near n (Err e) is (signed z) h =
    ((x, sym kind), (λ y v same. is h.0 (y, v, ap number (itself n z h (inr (near z (y, v, same)))) ∙ same)))
number_read field x kind near n r is _ h = absurd h

-- a field of this width
abbrev pub signed_field : Width → Field ℤ
signed_field w = record { valid = FitsSigned w; written = number }

same_number : (y z : ℤ) → number y ≡ number z → y ≡ z
same_number y z e = cc

converted : {E : Type 0} (w : Width) (n u : ℤ) (r : Result ℤ E) → u ≡ n → OkIff r (FitsSigned w u) u
    → MatchResult r (λ y. FitsSigned w y × (number n ≡ number y)) (λ e. ¬ Holds (signed_field w) n)
converted w n u (Ok y) e h = (rw h.1 h.0, ap number (sym (h.1 ∙ e)))
converted w n u (Err c) e h = λ k. h (rw (e, same_number n k.0 k.2) k.1)

near_32 : (z : ℤ) → Holds (signed_field w32) z → ¬ IsFar z
near_32 z h (inl far) = let same : z ≡ h.0 = same_number z h.0 h.2 in omega (arith, ints)
near_32 z h (inr far) = let same : z ≡ h.0 = same_number z h.0 h.2 in omega (arith, ints)

near_16 : (z : ℤ) → Holds (signed_field w16) z → ¬ IsFar z
near_16 z h (inl far) = let same : z ≡ h.0 = same_number z h.0 h.2 in omega (arith, ints)
near_16 z h (inr far) = let same : z ≡ h.0 = same_number z h.0 h.2 in omega (arith, ints)

near_64 : (z : ℤ) → Holds imm64_field z → ¬ IsFar z
near_64 z h (inl far) = let same : z ≡ pos h.0 = same_number z (pos h.0) h.2 in omega (arith, ints)
near_64 z h (inr far) = let same : z ≡ pos h.0 = same_number z (pos h.0) h.2 in omega (arith, ints)

converted_64 : {E : Type 0} (n u : ℤ) (r : Result ℕ E) → u ≡ n → OkIff r (FitsUnsigned w64 u) (unsigned_abs u)
    → MatchResult r (λ y. (y < 2 ^ 64) × (number n ≡ number (pos y))) (λ e. ¬ Holds imm64_field n)
converted_64 n (pos k) (Ok y) e h = (rw h.1 (omega (arith, ints)), ap number (sym e ∙ ap pos (sym h.1)))
converted_64 n (negsuc k) (Ok y) e h = absurd (omega (arith, ints))
converted_64 n u (Err c) e h = λ k. h (rw (e, same_number n (pos k.0) k.2) (omega (arith, ints), omega (arith, ints)))

pub imm_read : {E : Type 0} (n u : ℤ) (r : Result ℤ E) → (FitsSigned w128 n → u ≡ n) → OkIff r (FitsSigned w32 u) u
    → (a : LineOperand) → IsReadAs (Literal n) a → ReadsField imm_field a (result_or r (Err Range))
imm_read n u r e h = number_read imm_field (pos 0) refl near_32 n r (λ f. converted w32 n u r (e f) h)

pub offset_read : {E : Type 0} (n u : ℤ) (r : Result ℤ E) → (FitsSigned w128 n → u ≡ n) → OkIff r (FitsSigned w16 u) u
    → (a : LineOperand) → IsReadAs (Literal n) a → ReadsField offset_field a (result_or r (Err Range))
offset_read n u r e h = number_read offset_field (pos 0) refl near_16 n r (λ f. converted w16 n u r (e f) h)

pub imm64_read : {E : Type 0} (n u : ℤ) (r : Result ℕ E) → (FitsSigned w128 n → u ≡ n) → OkIff r (FitsUnsigned w64 u) (unsigned_abs u)
    → (a : LineOperand) → IsReadAs (Literal n) a → ReadsField imm64_field a (result_or r (Err Range))
imm64_read n u r e h = number_read imm64_field 0 refl near_64 n r (λ f. converted_64 n u r (e f) h)

-- an immediate as the second operand
no_operand : (z : ℤ) → ((x : ℤ) → IsImm x → number z ≢ number x) → (y : Operand) → IsOperand y → number z ≢ source_operand y
no_operand z none (Imm x) v e = none x v e
no_operand z none (Reg r) v e = cc

pub source_none : (n : ℤ) (e : LineCause) → FieldIsRead imm_field (Literal n) (Err e) → FieldIsRead source_field (Literal n) (Err e)
source_none n Range reads (number z) h = ((Imm (pos 0), refl), no_operand z (reads (number z) h).1)
source_none n Range reads (signed z) h = ((Imm (pos 0), refl), no_operand z (reads (signed z) h).1)
source_none n Shape reads (number z) h = absurd (reads (number z) h (pos 0) refl)
source_none n Shape reads (signed z) h = absurd (reads (signed z) h (pos 0) refl)
source_none n _ reads (number z) h = absurd (reads (number z) h)
source_none n _ reads (signed z) h = absurd (reads (signed z) h)
source_none n _ reads _ h = absurd h

-- the offset of an address; u and v are the numbers as they are passed and returned
pub address_some : (base : Register) (n u x v : ℤ) → (FitsSigned w128 n → u ≡ n) → (FitsSigned w16 x → v ≡ x) → FieldIsRead offset_field (Literal u) (Ok x)
    → FieldIsRead address_field (Memory base n) (Ok (base, v))
address_some base n u x v e f reads (memory s z) h =
    let k = reads (number z) (rw (e h.1.0) h.1) in
    (rw (f k.0) k.0, (let b : base ≡ s = h.0 in let o : v ≡ z = f k.0 ∙ sym (same_number z x k.1) in cc))
address_some base n u x v e f reads _ h = absurd h

pub address_none : (base : Register) (n u : ℤ) (c : LineCause) → (FitsSigned w128 n → u ≡ n) → FieldIsRead offset_field (Literal u) (Err c)
    → FieldIsRead address_field (Memory base n) (Err c)
address_none base n u Range e reads (memory s z) h =
    let k = reads (number z) (rw (e h.1.0) h.1) in
    (((base, pos 0), refl), (λ y v same. k.1 y.1 v (let o : z ≡ y.1 = cc in ap number o)))
address_none base n u Shape e reads (memory s z) h = absurd (reads (number z) (rw (e h.1.0) h.1) (pos 0) refl)
address_none base n u _ e reads (memory s z) h = absurd (reads (number z) (rw (e h.1.0) h.1))
address_none base n u _ e reads _ h = absurd h
