-- The results of reading the tokens of a line, and of reading a listing.
use Rattle.std.specs.Prelude.{◌≡◌, ℕ, List, ◌∷◌, Result, Ok, Err}
use Rattle.std.specs.{Borrow.MutBor, List.FoldsTo, declared.alloc.AllocError.AllocError}
use Rattle.bpf_insn.specs.{declared.insn.Insn.Insn, Table.IsInsn}
use Rattle.bpf_text.specs.declared.insn.fault.LineCause.{LineCause, TheVariants.Char, TheVariants.Word, TheVariants.Shape, TheVariants.Range}
use Rattle.bpf_text.specs.declared.insn.fault.ListError.{ListError, TheVariants.Fault, TheVariants.Memory}
use Rattle.bpf_text.specs.insn.Listing.{IsMnemonic, IsForm, IsTokenForm, IsListFault, IsCause}

-- for the first token and the others: an instruction, or the cause that applies
abbrev pub ReadsTokens : List ℕ → List (List ℕ) → Result Insn LineCause → Type 0
ReadsTokens first_token tokens (Ok i) = IsInsn i × IsTokenForm (first_token ∷ tokens) i
ReadsTokens first_token tokens (Err Char) = ⊥
ReadsTokens first_token tokens (Err Word) = ¬ IsMnemonic first_token
ReadsTokens first_token tokens (Err Shape) = IsMnemonic first_token × ¬ IsForm first_token tokens
ReadsTokens first_token tokens (Err Range) = IsForm first_token tokens × ((i : Insn) → IsInsn i → ¬ IsTokenForm (first_token ∷ tokens) i)

-- what an error says about the line with this number
abbrev pub RefusesLine : List ℕ → ℕ → ListError → Type 0
RefusesLine line number (Fault fault) = (fault.line ≡ number) × IsCause line fault.cause
RefusesLine line number Memory = ⊥

-- what an error says about the input; `Memory` says nothing
abbrev pub RefusesText : List ℕ → ListError → Type 0
RefusesText text (Fault fault) = IsListFault text fault
RefusesText text Memory = Unit {0}

-- a call took the instruction, and the sink from s to t
abbrev pub TakesOne : {S : Type 0} → (MutBor S → Insn → Result (Unit {0}) AllocError → MutBor S → Type 0) → S → Insn → S → Type 0
TakesOne {S} call s i t = IsInsn i × ((v w : MutBor S) × (v.now ≡ s) × (w.now ≡ t) × call v i (Ok tt) w)

-- a call at each instruction, in order
pub record TakesAll {S : Type 0} (call : MutBor S → Insn → Result (Unit {0}) AllocError → MutBor S → Type 0) (s : S) (insns : List Insn) (t : S) : Type 0 where
  pub calls : FoldsTo (TakesOne call) s insns t
