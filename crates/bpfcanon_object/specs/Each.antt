-- What a verb answers that answers for each file by itself.
use Rattle.std.specs.Prelude.{ℕ, List}
use Rattle.bpfcanon_object.specs.declared.{answer.Answer.Answer, answer.Status.Status, each.Each.Each}
use Rattle.bpfcanon_object.specs.declared.each.Each.TheVariants.{Key, Check}
use Rattle.bpfcanon_object.specs.Answers.{IsAnswer, IsCheckAnswer, IsCheckPart, IsKeyAnswer}

-- the status, the lines and the messages
abbrev pub IsEachAnswer : (A : Type 0) → Each → List ℕ → List ℕ → Status → List ℕ → List ℕ → Type 0
IsEachAnswer A Key name file status lines messages = (answer : Answer A) × (IsKeyAnswer name file answer × IsAnswer status lines messages answer)
IsEachAnswer _ (Check format target) name file status lines messages = IsCheckAnswer format target name file status lines messages

-- as much as a verb may have gone through when it ends early
abbrev pub IsEachPart : (A : Type 0) → Each → List ℕ → List ℕ → List ℕ → List ℕ → Type 0
IsEachPart A Key name file lines messages = (status : Status) × IsEachAnswer A Key name file status lines messages
IsEachPart _ (Check format target) name file lines messages = IsCheckPart format target name file lines messages
