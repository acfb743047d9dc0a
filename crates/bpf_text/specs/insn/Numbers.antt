-- The values that numbers and operands of the reader represent.
use Rattle.std.specs.Prelude.{◌≡◌, ℕ, ◌^◌, ◌≤◌, ℤ, pos, neg_ℤ, ◌≤ℤ◌, ◌⊎◌, List, Option, Some, None, FitsSigned}
use Rattle.std.specs.Int.{w128}
use Rattle.bpf_text.specs.declared.insn.read_operand.ReadOperand.{ReadOperand, TheVariants.Register, TheVariants.Literal, TheVariants.Memory}
use Rattle.bpf_text.specs.insn.Operands.{LineOperand, register, number, signed, memory, SpellsOperand}

-- a magnitude below 2^64, or `None` for all larger ones
abbrev pub IsMagnitude : Option ℕ → ℕ → Type 0
IsMagnitude (Some n) m = n ≡ m
IsMagnitude None m = 2 ^ 64 ≤ m

-- 2^64 or more, with either sign
abbrev pub IsFar : ℤ → Type 0
IsFar z = (pos (2 ^ 64) ≤ℤ z) ⊎ (z ≤ℤ neg_ℤ (pos (2 ^ 64)))

-- a number that was read: it is represented by itself, or if it is far, by any far number
abbrev pub IsNumber : ℤ → ℤ → Type 0
IsNumber n z = FitsSigned w128 n × ((n ≡ z) ⊎ (IsFar n × IsFar z))

-- the operand that was read
abbrev pub IsReadAs : ReadOperand → LineOperand → Type 0
IsReadAs (Register r) (register s) = r ≡ s
IsReadAs (Literal n) (number z) = IsNumber n z
IsReadAs (Literal n) (signed z) = IsNumber n z
IsReadAs (Memory r n) (memory s z) = (r ≡ s) × IsNumber n z
IsReadAs _ _ = ⊥

-- the operand that the tokens spell, or `None` if they don't spell an operand
abbrev pub ReadsOperand : List (List ℕ) → Option ReadOperand → Type 0
ReadsOperand tokens None = (a : LineOperand) → ¬ SpellsOperand tokens a
ReadsOperand tokens (Some s) = (a : LineOperand) × SpellsOperand tokens a × IsReadAs s a
