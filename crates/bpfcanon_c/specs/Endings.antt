-- What the calls on BTF and on instruction files return to C.
use Rattle.std.specs.Prelude.{◌≡◌, ◌⊎◌, ◌≤◌, ⊤, ℕ, true, false, List, length}
use Rattle.bpf_words.specs.declared.Order.{Order}
use Rattle.bpf_insn.specs.{declared.insn.Insn.Insn, Encoding.InsnFile, Encoding.file_of}
use Rattle.bpf_canon.specs.{insn.Canonical.Compares, btf.CanonicalBtf.canonical, btf.SameBtf.ComparesBtf}
use Rattle.btf_types.specs.{Values.TypeRecord, Denotes.Denotes}
use Rattle.bpfcanon_c.specs.declared.answer.{Answer.Answer, Ending.Ending}
use Rattle.bpfcanon_c.specs.declared.answer.Ending.TheVariants.{Types, Same, Different, First, Second, Memory}
use Rattle.bpfcanon_c.specs.declared.answer.Ending.TheVariants as ending
use Rattle.bpfcanon_c.specs.Answers.{order_number}
use Rattle.bpfcanon_c.specs.Outputs.{IsAnswerOf, IsNoOrder, IsBtfCode, IsInsnCode, EndsOutput, EndsInOrder}

-- the canonical bytes of a BTF file in a byte order: they are no longer than the file, so a buffer of its length is long enough
pub record IsCanonicalBtf (to : Order) (bytes out : List ℕ) : Type 0 where
  pub types : List TypeRecord
  pub denotes : Denotes bytes types
  pub form : out ≡ canonical to types
  pub fits : length out ≤ length bytes

abbrev pub EndsBtf : ℕ → List ℕ → List ℕ → List ℕ → Ending → Type 0
EndsBtf n bytes old new = EndsInOrder n (λ to. EndsOutput (IsCanonicalBtf to bytes) (IsBtfCode bytes) old new) old new

-- what the call on BTF returns: the answer of one of its endings
abbrev pub AnswersBtf : ℕ → List ℕ → List ℕ → List ℕ → Answer → Type 0
AnswersBtf n bytes old new = IsAnswerOf (EndsBtf n bytes old new)

-- the number of types, or the first fault
abbrev pub EndsBtfCheck : List ℕ → Ending → Type 0
EndsBtfCheck bytes (Types n) = (v : List TypeRecord) × (Denotes bytes v × (n ≡ length v))
EndsBtfCheck bytes (First code) = IsBtfCode bytes code
EndsBtfCheck bytes Memory = ⊤
EndsBtfCheck bytes _ = ⊥

-- the answer to a check of BTF: the number of types, or the first fault
abbrev pub AnswersBtfCheck : List ℕ → Answer → Type 0
AnswersBtfCheck bytes = IsAnswerOf (EndsBtfCheck bytes)

abbrev pub EndsSameBtf : List ℕ → List ℕ → Ending → Type 0
EndsSameBtf a b Same = ComparesBtf a b true
EndsSameBtf a b Different = ComparesBtf a b false
EndsSameBtf a b (First code) = IsBtfCode a code
EndsSameBtf a b (Second code) = ((v : List TypeRecord) × Denotes a v) × IsBtfCode b code
EndsSameBtf a b Memory = ⊤
EndsSameBtf a b _ = ⊥

-- the answer to a comparison of BTF: its result, or the first fault of one input
abbrev pub AnswersSameBtf : List ℕ → List ℕ → Answer → Type 0
AnswersSameBtf a b = IsAnswerOf (EndsSameBtf a b)

-- the instructions of a file in a byte order: they are as long as the file, so a buffer of its length is long enough
pub record IsRecoded (o to : Order) (bytes out : List ℕ) : Type 0 where
  pub insns : List Insn
  pub file : InsnFile o bytes insns
  pub form : out ≡ file_of to insns
  pub fits : length out ≡ length bytes

abbrev pub EndsInsns : ℕ → ℕ → List ℕ → List ℕ → List ℕ → Ending → Type 0
EndsInsns n m bytes old new ending.Order = (IsNoOrder n ⊎ IsNoOrder m) × (new ≡ old)
EndsInsns n m bytes old new e =
    (o : Order) × (to : Order)
    × ((n ≡ order_number o) × ((m ≡ order_number to) × EndsOutput (IsRecoded o to bytes) (IsInsnCode o bytes) old new e))

-- what the call on instructions returns: the answer of one of its endings
abbrev pub AnswersInsns : ℕ → ℕ → List ℕ → List ℕ → List ℕ → Answer → Type 0
AnswersInsns n m bytes old new = IsAnswerOf (EndsInsns n m bytes old new)

abbrev pub EndsSameInsnsIn : Order → List ℕ → Order → List ℕ → Ending → Type 0
EndsSameInsnsIn o a p b Same = Compares o a p b true
EndsSameInsnsIn o a p b Different = Compares o a p b false
EndsSameInsnsIn o a p b (First code) = IsInsnCode o a code
EndsSameInsnsIn o a p b (Second code) = ((l : List Insn) × InsnFile o a l) × IsInsnCode p b code
EndsSameInsnsIn o a p b _ = ⊥

abbrev pub EndsSameInsns : ℕ → List ℕ → ℕ → List ℕ → Ending → Type 0
EndsSameInsns n a m b ending.Order = IsNoOrder n ⊎ IsNoOrder m
EndsSameInsns n a m b e = (o : Order) × (p : Order) × ((n ≡ order_number o) × ((m ≡ order_number p) × EndsSameInsnsIn o a p b e))

-- the answer to a comparison of instructions: its result, or the first fault of one input
abbrev pub AnswersSameInsns : ℕ → List ℕ → ℕ → List ℕ → Answer → Type 0
AnswersSameInsns n a m b = IsAnswerOf (EndsSameInsns n a m b)
