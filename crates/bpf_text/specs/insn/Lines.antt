-- The line of an instruction, and the listing of several. They are meant for instructions whose fields are in the range of
-- their types: std writes numbers of up to 64 digits.
use Rattle.std.specs.Prelude.{ℕ, List, [], ◌∷◌, ◌++◌, codes}
use Rattle.std.specs.List.{flat_map}
use Rattle.bpf_insn.specs.declared.insn.Insn.{Insn}
use Rattle.bpf_text.specs.insn.{Operands.LineOperand, Operands.operands_text, Table.mnemonic_text, Table.operands_of}

-- a space before the operands, if there are any
abbrev pub spaced : List LineOperand → List ℕ
spaced [] = []
spaced (a ∷ more) = codes " " ++ operands_text (a ∷ more)

-- the line of an instruction: its mnemonic, then its operands
abbrev pub line_of : Insn → List ℕ
line_of i = mnemonic_text i ++ spaced (operands_of i)

-- a line for each instruction, with a newline
abbrev pub listing_of : List Insn → List ℕ
listing_of insns = flat_map (λ i. line_of i ++ codes "\n") insns
