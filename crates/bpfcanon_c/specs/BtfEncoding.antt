-- What the call that encodes the types that records say returns to C.
use Rattle.std.specs.Prelude.{◌≡◌, ◌≤◌, ◌+◌, ◌⊎◌, ℕ, List, length}
use Rattle.std.specs.List.{sum_by}
use Rattle.bpf_words.specs.declared.Order.{Order}
use Rattle.btf_types.specs.Values.{TypeRecord}
use Rattle.bpf_canon.specs.btf.CanonicalBtf.{canonical}
use Rattle.bpfcanon_c.specs.declared.btf_rows.{TypeRow.TypeRow, ItemRow.ItemRow}
use Rattle.bpfcanon_c.specs.declared.answer.{Answer.Answer, Ending.Ending, Ending.TheVariants.First, Ending.TheVariants.Memory, FaultCode.FaultCode}
use Rattle.bpfcanon_c.specs.{BtfSaying.TellTypes, BtfPlain.row_size, BtfRefusal.IsRefused, Outputs.EndsInOrder, Outputs.EndsOutput, Outputs.IsAnswerOf}

-- the canonical bytes of the types that the records say: a buffer for the records, the strings and 25 bytes more is long enough
pub record IsEncodedBtf (to : Order) (types : List TypeRow) (items : List ItemRow) (strings out : List ℕ) : Type 0 where
  pub v : List TypeRecord
  pub told : TellTypes types items strings v
  pub form : out ≡ canonical to v
  pub fits : length out ≤ 25 + sum_by row_size types + length strings

-- the records say no valid types; the position of the fault is the index of a type
pub record IsNoBtf (types : List TypeRow) (items : List ItemRow) (strings : List ℕ) (code : FaultCode) : Type 0 where
  pub none : (v : List TypeRecord) → ¬ TellTypes types items strings v
  pub why : IsRefused strings types items code.cause code.pos
  pub line : code.line ≡ 0

-- the ending for a type that can't be encoded
abbrev pub no_type : ℕ → ℕ → Ending
no_type cause index = First (record { cause = cause; pos = index; line = 0 })

-- the ending if there is no output
pub record EndsWithout (types : List TypeRow) (items : List ItemRow) (strings : List ℕ) (e : Ending) : Type 0 where
  pub ends : (e ≡ Memory) ⊎ ((code : FaultCode) × (IsNoBtf types items strings code × (e ≡ First code)))

-- how the call ends in a byte order
abbrev pub EndsBtfEncodeIn : Order → List TypeRow → List ItemRow → List ℕ → List ℕ → List ℕ → Ending → Type 0
EndsBtfEncodeIn to types items strings old new = EndsOutput (IsEncodedBtf to types items strings) (IsNoBtf types items strings) old new

abbrev pub EndsBtfEncode : ℕ → List TypeRow → List ItemRow → List ℕ → List ℕ → List ℕ → Ending → Type 0
EndsBtfEncode n types items strings old new = EndsInOrder n (λ to. EndsBtfEncodeIn to types items strings old new) old new

-- what the call that encodes records returns: the answer of one of its endings
abbrev pub AnswersBtfEncode : ℕ → List TypeRow → List ItemRow → List ℕ → List ℕ → List ℕ → Answer → Type 0
AnswersBtfEncode n types items strings old new = IsAnswerOf (EndsBtfEncode n types items strings old new)
