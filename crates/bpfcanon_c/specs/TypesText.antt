-- What the call on type listings returns to C.
use Rattle.std.specs.Prelude.{◌≡◌, ℕ, List}
use Rattle.btf_types.specs.{Values.TypeRecord, Denotes.Denotes}
use Rattle.bpf_text.specs.btf.BtfText.{text_of}
use Rattle.bpfcanon_c.specs.{declared.answer.Answer.Answer, Outputs.IsAnswerOf, Outputs.IsBtfCode, Outputs.EndsOutput}

-- the type listing of a file
pub record IsTypesText (bytes out : List ℕ) : Type 0 where
  pub types : List TypeRecord
  pub denotes : Denotes bytes types
  pub form : out ≡ text_of types

-- what the call that writes a type listing returns: the answer of one of its endings
abbrev pub AnswersBtfShow : List ℕ → List ℕ → List ℕ → Answer → Type 0
AnswersBtfShow bytes old new = IsAnswerOf (EndsOutput (IsTypesText bytes) (IsBtfCode bytes) old new)
