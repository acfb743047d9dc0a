-- Which instructions a listing lists, and the fault of an input that isn't a listing.
use Rattle.std.specs.Prelude.{◌≡◌, ℕ, ◌+◌, List, [], ◌∷◌, ◌++◌, length, map, IsTrue}
use Rattle.std.specs.List.{slice_split, AllZip, flat_map, list_any}
use Rattle.bpf_insn.specs.{declared.insn.Insn.Insn, Table.IsInsn}
use Rattle.bpf_text.specs.declared.insn.fault.LineCause.{LineCause, TheVariants.Char, TheVariants.Word, TheVariants.Shape, TheVariants.Range}
use Rattle.bpf_text.specs.declared.insn.fault.LineFault.{LineFault}
use Rattle.bpf_text.specs.insn.{Operands.LineOperand, Operands.operand_kind, Operands.SpellsOperands, Table.mnemonic_text, Table.operands_of}
use Rattle.bpf_text.specs.insn.Tokens.{is_newline, code_of, AreTokens, is_stray}

-- the lines: the bytes before, between and after the newlines
abbrev pub lines_of : List ℕ → List (List ℕ)
lines_of text = slice_split is_newline text

-- ---- one line

-- the instruction's mnemonic, and its operands in any spelling
abbrev pub IsTokenForm : List (List ℕ) → Insn → Type 0
IsTokenForm [] i = ⊥
IsTokenForm (first_token ∷ tokens) i = (first_token ≡ mnemonic_text i) × SpellsOperands tokens (operands_of i)

-- the line, without its comment, is a token form of an instruction whose fields are in range
abbrev pub ListsInsn : List ℕ → Insn → Type 0
ListsInsn line i = IsInsn i × ((tokens : List (List ℕ)) × AreTokens (code_of line) tokens × IsTokenForm tokens i)

-- what a line lists: nothing, or one instruction
abbrev pub ListsLine : List ℕ → List Insn → Type 0
ListsLine line [] = AreTokens (code_of line) []
ListsLine line (i ∷ []) = ListsInsn line i
ListsLine line _ = ⊥

-- ---- the fault of one line

-- some instruction has this mnemonic
abbrev pub IsMnemonic : List ℕ → Type 0
IsMnemonic first_token = (i : Insn) × IsInsn i × (first_token ≡ mnemonic_text i)

-- the tokens spell operands of the same kinds as those of some instruction with this mnemonic; numbers may have any size
abbrev pub IsForm : List ℕ → List (List ℕ) → Type 0
IsForm first_token tokens =
    (i : Insn) × IsInsn i × (first_token ≡ mnemonic_text i)
    × ((operands : List LineOperand) × (map operand_kind operands ≡ map operand_kind (operands_of i)) × SpellsOperands tokens operands)

-- the first of the four causes that applies
abbrev pub IsCause : List ℕ → LineCause → Type 0
IsCause line Char = IsTrue (list_any is_stray (code_of line))
IsCause line Word =
    (first_token : List ℕ) × (tokens : List (List ℕ)) × AreTokens (code_of line) (first_token ∷ tokens) × ¬ IsMnemonic first_token
IsCause line Shape =
    (first_token : List ℕ) × (tokens : List (List ℕ)) × AreTokens (code_of line) (first_token ∷ tokens) × IsMnemonic first_token × ¬ IsForm first_token tokens
IsCause line Range =
    (first_token : List ℕ) × (tokens : List (List ℕ)) × AreTokens (code_of line) (first_token ∷ tokens) × IsForm first_token tokens
    × ((i : Insn) → IsInsn i → ¬ IsTokenForm (first_token ∷ tokens) i)

-- ---- a listing

-- the lines list these instructions, in order
pub record Lists (text : List ℕ) (insns : List Insn) : Type 0 where
  pub listed : List (List Insn)
  pub each : AllZip ListsLine (lines_of text) listed
  pub whole : insns ≡ flat_map (λ found. found) listed

-- the first line that lists neither nothing nor one instruction, with its cause
pub record IsListFault (text : List ℕ) (fault : LineFault) : Type 0 where
  pub front : List (List ℕ)
  pub line : List ℕ
  pub back : List (List ℕ)
  pub lines : lines_of text ≡ front ++ line ∷ back
  pub before : (listed : List (List Insn)) × AllZip ListsLine front listed
  pub line_number : fault.line ≡ length front + 1
  pub cause : IsCause line fault.cause
