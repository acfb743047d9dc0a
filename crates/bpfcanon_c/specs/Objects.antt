-- What the calls on object files return to C.
use Rattle.std.specs.Prelude.{◌≡◌, ⊤, ℕ, true, false, List}
use Rattle.bpf_object.specs.declared.fault.{ObjectError.ObjectError, ObjectFault.ObjectFault}
use Rattle.bpf_object.specs.declared.fault.ObjectError.TheVariants as object
use Rattle.bpf_object.specs.{Denotes.Denotes, ObjectFaults.IsFault, Objects.Object, SameObjects.ComparesObjects}
use Rattle.bpfcanon_c.specs.declared.answer.{Answer.Answer, Ending.Ending, FaultCode.FaultCode}
use Rattle.bpfcanon_c.specs.declared.answer.Ending.TheVariants.{Accepted, Same, Different, First, Second, Memory}
use Rattle.bpfcanon_c.specs.{ObjectCauses.object_cause_number, Outputs.IsAnswerOf, Outputs.EndsOutput}

abbrev pub code_of_object : ObjectFault → FaultCode
code_of_object f = record { cause = object_cause_number f.cause; pos = f.pos; line = 0 }

-- how a call on one object file ends with an error
abbrev pub object_end : ObjectError → Ending
object_end (object.Fault f) = First (code_of_object f)
object_end object.Memory = Memory

-- the numbers of the first fault of an object file, which denotes no object
pub record IsObjectCode (bytes : List ℕ) (code : FaultCode) : Type 0 where
  pub fault : ObjectFault
  pub first : IsFault bytes fault
  pub numbers : code ≡ code_of_object fault
  pub none : (x : Object) → Denotes bytes x → ⊥

-- what a call returns that writes this of the object that the file denotes: the answer of one of its endings
abbrev pub AnswersObject : (Object → List ℕ) → List ℕ → List ℕ → List ℕ → Answer → Type 0
AnswersObject output bytes old new =
    IsAnswerOf (EndsOutput (λ out. (x : Object) × (Denotes bytes x × (out ≡ output x))) (IsObjectCode bytes) old new)

-- the file denotes an object, or it has a fault
abbrev pub EndsObjectCheck : List ℕ → Ending → Type 0
EndsObjectCheck bytes Accepted = (x : Object) × Denotes bytes x
EndsObjectCheck bytes (First code) = IsObjectCode bytes code
EndsObjectCheck bytes Memory = ⊤
EndsObjectCheck bytes _ = ⊥

-- the answer to a check of an object file
abbrev pub AnswersObjectCheck : List ℕ → Answer → Type 0
AnswersObjectCheck bytes = IsAnswerOf (EndsObjectCheck bytes)

abbrev pub EndsSameObjects : List ℕ → List ℕ → Ending → Type 0
EndsSameObjects a b Same = ComparesObjects a b true
EndsSameObjects a b Different = ComparesObjects a b false
EndsSameObjects a b (First code) = IsObjectCode a code
EndsSameObjects a b (Second code) = ((x : Object) × Denotes a x) × IsObjectCode b code
EndsSameObjects a b Memory = ⊤
EndsSameObjects a b _ = ⊥

-- the answer to a comparison of object files: its result, or the first fault of one input
abbrev pub AnswersSameObjects : List ℕ → List ℕ → Answer → Type 0
AnswersSameObjects a b = IsAnswerOf (EndsSameObjects a b)
