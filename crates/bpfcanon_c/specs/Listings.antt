-- What the calls on listings return to C.
use Rattle.std.specs.Prelude.{◌≡◌, ◌≤◌, ◌*◌, ℕ, List, length}
use Rattle.bpf_words.specs.declared.Order.{Order}
use Rattle.bpf_insn.specs.{declared.insn.Insn.Insn, Encoding.InsnFile, Encoding.file_of}
use Rattle.bpf_text.specs.declared.insn.fault.ListError.{ListError}
use Rattle.bpf_text.specs.declared.insn.fault.ListError.TheVariants as list
use Rattle.bpf_text.specs.{declared.insn.fault.LineFault.LineFault, insn.LineCauseNames.line_cause_number}
use Rattle.bpf_text.specs.insn.{Lines.listing_of, Listing.Lists, Listing.IsListFault}
use Rattle.bpfcanon_c.specs.declared.answer.{Answer.Answer, Ending.Ending, FaultCode.FaultCode}
use Rattle.bpfcanon_c.specs.declared.answer.Ending.TheVariants.{First, Memory}
use Rattle.bpfcanon_c.specs.Outputs.{IsAnswerOf, IsInsnCode, EndsOutput, EndsInOrder}

-- the position of a fault in a listing is its line
abbrev pub code_of_line : LineFault → FaultCode
code_of_line f = record { cause = line_cause_number f.cause; pos = 0; line = f.line }

-- how the call that reads a listing ends with an error
abbrev pub listing_end : ListError → Ending
listing_end (list.Fault f) = First (code_of_line f)
listing_end list.Memory = Memory

-- the listing of the instructions of a file: a buffer of four times its length is long enough
pub record IsListing (o : Order) (bytes out : List ℕ) : Type 0 where
  pub insns : List Insn
  pub file : InsnFile o bytes insns
  pub form : out ≡ listing_of insns
  pub fits : length out ≤ 4 * length bytes

abbrev pub EndsListing : ℕ → List ℕ → List ℕ → List ℕ → Ending → Type 0
EndsListing n bytes old new = EndsInOrder n (λ o. EndsOutput (IsListing o bytes) (IsInsnCode o bytes) old new) old new

-- what the call that writes a listing returns: the answer of one of its endings
abbrev pub AnswersListing : ℕ → List ℕ → List ℕ → List ℕ → Answer → Type 0
AnswersListing n bytes old new = IsAnswerOf (EndsListing n bytes old new)

-- the instructions of a listing, in a byte order: a buffer of twice its length is long enough
pub record IsListed (to : Order) (text out : List ℕ) : Type 0 where
  pub insns : List Insn
  pub lists : Lists text insns
  pub form : out ≡ file_of to insns
  pub fits : length out ≤ 2 * length text

-- the numbers of the fault of an invalid listing
pub record IsLineCode (text : List ℕ) (code : FaultCode) : Type 0 where
  pub fault : LineFault
  pub first : IsListFault text fault
  pub numbers : code ≡ code_of_line fault

abbrev pub EndsListed : ℕ → List ℕ → List ℕ → List ℕ → Ending → Type 0
EndsListed n text old new = EndsInOrder n (λ to. EndsOutput (IsListed to text) (IsLineCode text) old new) old new

-- what the call that reads a listing returns: the answer of one of its endings
abbrev pub AnswersListed : ℕ → List ℕ → List ℕ → List ℕ → Answer → Type 0
AnswersListed n text old new = IsAnswerOf (EndsListed n text old new)
