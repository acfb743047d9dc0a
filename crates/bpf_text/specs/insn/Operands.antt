-- The operands of a line: how they are written, and the tokens that spell them.
use Rattle.std.specs.Prelude.{◌≡◌, ℕ, ℤ, pos, negsuc, suc, Bool, List, [], ◌∷◌, ◌++◌, ◌⊎◌, codes, decimal, neg_ℤ}
use Rattle.std.specs.{Fmt.signed_decimal, List.slice_split, List.AllZip, Str.bytes_eq, Str.Parse.IsNumeral, Str.Parse.digits_value}
use Rattle.bpf_insn.specs.{declared.insn.Reg.Reg, Table.register_number}

-- a register; a number; a number that is written with its sign; a register with an offset, in brackets
pub data LineOperand : Type 0 where
  register : Reg → LineOperand
  number : ℤ → LineOperand
  signed : ℤ → LineOperand
  memory : Reg → ℤ → LineOperand

-- ---- writing

-- r0 to r10
abbrev pub register_text : Reg → List ℕ
register_text r = codes "r" ++ decimal (register_number r)

-- a sign, which is never omitted, and the magnitude
abbrev pub signed_text : ℤ → List ℕ
signed_text (pos n) = codes "+" ++ decimal n
signed_text (negsuc n) = codes "-" ++ decimal (suc n)

-- an operand as it is written
abbrev pub operand_text : LineOperand → List ℕ
operand_text (register r) = register_text r
operand_text (number z) = signed_decimal z
operand_text (signed z) = signed_text z
operand_text (memory r z) = codes "[" ++ register_text r ++ signed_text z ++ codes "]"

-- the operands, separated by a comma and a space
abbrev pub operands_text : List LineOperand → List ℕ
operands_text [] = []
operands_text (a ∷ []) = operand_text a
operands_text (a ∷ b ∷ more) = operand_text a ++ codes ", " ++ operands_text (b ∷ more)

-- ---- spellings; a token is its bytes

-- decimal digits, or hexadecimal digits after 0x; a token has no capital letters
abbrev pub SpellsMagnitude : List ℕ → ℕ → Type 0
SpellsMagnitude token n =
    (IsNumeral 10 token × (n ≡ digits_value 10 token))
    ⊎ ((digits : List ℕ) × (token ≡ codes "0x" ++ digits) × IsNumeral 16 digits × (n ≡ digits_value 16 digits))

-- a sign and a token make a number
abbrev pub SpellsSigned : List ℕ → List ℕ → ℤ → Type 0
SpellsSigned sign token z =
    (n : ℕ) × SpellsMagnitude token n × (((sign ≡ codes "+") × (z ≡ pos n)) ⊎ ((sign ≡ codes "-") × (z ≡ neg_ℤ (pos n))))

-- a token, or a sign and a token
abbrev pub SpellsNumber : List (List ℕ) → ℤ → Type 0
SpellsNumber (token ∷ []) z = (n : ℕ) × SpellsMagnitude token n × (z ≡ pos n)
SpellsNumber (sign ∷ token ∷ []) z = SpellsSigned sign token z
SpellsNumber _ z = ⊥

-- a token that is the register as it is written
abbrev pub SpellsRegister : List ℕ → Reg → Type 0
SpellsRegister token r = token ≡ register_text r

-- in brackets, a register and an offset: a sign and a token, or 0 if omitted
abbrev pub SpellsMemory : List (List ℕ) → Reg → ℤ → Type 0
SpellsMemory (open_bracket ∷ base ∷ close_bracket ∷ []) r z =
    (open_bracket ≡ codes "[") × SpellsRegister base r × (close_bracket ≡ codes "]") × (z ≡ pos 0)
SpellsMemory (open_bracket ∷ base ∷ sign ∷ token ∷ close_bracket ∷ []) r z =
    (open_bracket ≡ codes "[") × SpellsRegister base r × SpellsSigned sign token z × (close_bracket ≡ codes "]")
SpellsMemory _ r z = ⊥

-- the tokens between two commas
abbrev pub SpellsOperand : List (List ℕ) → LineOperand → Type 0
SpellsOperand (token ∷ []) (register r) = SpellsRegister token r
SpellsOperand _ (register r) = ⊥
SpellsOperand tokens (number z) = SpellsNumber tokens z
SpellsOperand tokens (signed z) = SpellsNumber tokens z
SpellsOperand tokens (memory r z) = SpellsMemory tokens r z

-- the token between two operands
abbrev pub is_comma : List ℕ → Bool
is_comma token = bytes_eq token (codes ",")

-- no tokens for no operands; otherwise the parts between the commas, one for each operand
abbrev pub SpellsOperands : List (List ℕ) → List LineOperand → Type 0
SpellsOperands tokens [] = tokens ≡ []
SpellsOperands tokens (a ∷ more) = AllZip SpellsOperand (slice_split is_comma tokens) (a ∷ more)

-- ---- kinds: a form is the kinds of its operands

pub data Kind : Type 0 where
  a_register : Kind
  a_number : Kind
  a_memory : Kind

-- a number has one kind, however its sign is written
abbrev pub operand_kind : LineOperand → Kind
operand_kind (register r) = a_register
operand_kind (number z) = a_number
operand_kind (signed z) = a_number
operand_kind (memory r z) = a_memory
