-- The causes of a listing's faults: their numbers and names, and a sentence for each.
use Rattle.std.specs.Prelude.{ℕ, List, codes}
use Rattle.bpf_text.specs.declared.insn.fault.LineCause.{LineCause}
use Rattle.bpf_text.specs.declared.insn.fault.LineCause.TheVariants as line_cause

-- the number of each cause of listings, in the order in which they apply
abbrev pub line_cause_number : LineCause → ℕ
line_cause_number line_cause.Char = 1
line_cause_number line_cause.Word = 2
line_cause_number line_cause.Shape = 3
line_cause_number line_cause.Range = 4

-- the name of each cause of listings
abbrev pub line_cause_name : LineCause → List ℕ
line_cause_name line_cause.Char = codes "Char"
line_cause_name line_cause.Word = codes "Word"
line_cause_name line_cause.Shape = codes "Shape"
line_cause_name line_cause.Range = codes "Range"

-- one sentence for each cause of listings
abbrev pub line_cause_sentence : LineCause → List ℕ
line_cause_sentence line_cause.Char = codes "a character that is neither blank nor part of a token"
line_cause_sentence line_cause.Word = codes "no instruction has this mnemonic"
line_cause_sentence line_cause.Shape = codes "the operands are not those of the mnemonic"
line_cause_sentence line_cause.Range = codes "a number is out of the range of its field"
