-- The reply to a complete input, with output that is written at once or in pieces.
use Rattle.std.specs.Prelude.{◌≡◌, ◌<◌, ◌≤◌, ◌++◌, ◌⊎◌, ℕ, Bool, List, [], Result, Ok, Err, MatchResult, true, length, take}
use Rattle.std.specs.declared.vec.Vec.{Vec}
use Rattle.std.specs.Io.KnownBytes.{Appends, Consumes, IsAtEnd}
use Rattle.bpfcanon.specs.declared.{job.Job.Job, outcome.Outcome.Outcome}
use Rattle.bpfcanon.specs.declared.outcome.Outcome.TheVariants as ends
use Rattle.bpfcanon.specs.declared.commands.pieces.PutError.{PutError, TheVariants.WriteFailed, TheVariants.Memory}
use Rattle.bpfcanon.specs.Devices.{Change, HasFailed, IsHealthy, IsUnused}
use Rattle.bpfcanon.specs.Outcome.{verdict_line, verdict_outcome}
use Rattle.bpfcanon.specs.commands.Reply.{IsReply, in_pieces, limit_of}

-- the source was read to its end, and the input is all of its bytes
pub record IsInput (j : Job) (source : Change) (input : List ℕ) : Type 0 where
  pub came : Consumes source.old source.new input
  pub ended : IsAtEnd source.new
  pub healthy : IsHealthy source
  pub within : length input ≤ limit_of j.verb

-- the outcome of a command that ends without output: memory ran out, or the output is empty
abbrev pub EndsEmpty : (Outcome → List ℕ → Type 0) → Outcome → Type 0
EndsEmpty reply outcome = (outcome ≡ ends.Memory) ⊎ reply outcome []

-- the output of a command that has found no fault, or the outcome of one that ends without output
abbrev pub IsOutput : {A : Type 0} → (Outcome → List ℕ → Type 0) → Result (Vec ℕ A) Outcome → Type 0
IsOutput reply result = MatchResult result (λ output. reply ends.Done output.items) (EndsEmpty reply)

-- whether two valid files are the same, or the outcome of a command that ends without output
abbrev pub IsVerdict : (Outcome → List ℕ → Type 0) → Result Bool Outcome → Type 0
IsVerdict reply result = MatchResult result (λ same. reply (verdict_outcome same) (verdict_line same)) (EndsEmpty reply)

-- the bytes that the sink received, followed by the held piece, are the output
pub record Gathered (sink : Change) (held text : List ℕ) : Type 0 where
  pub taken : List ℕ
  pub took : Appends sink.old sink.new taken
  pub whole : text ≡ taken ++ held
  pub healthy : IsHealthy sink

-- whether the sink failed, by the error that stopped the writing
abbrev pub StoppedBy : Change → PutError → Type 0
StoppedBy sink WriteFailed = HasFailed sink
StoppedBy sink Memory = IsHealthy sink

-- the sink received a proper prefix of the output
pub record Stopped (sink : Change) (text : List ℕ) (e : PutError) : Type 0 where
  pub count : ℕ
  pub part : count < length text
  pub took : Appends sink.old sink.new (take count text)
  pub by : StoppedBy sink e

-- the part of the output that the sink received, by the result of writing it
abbrev pub TookText : Change → List ℕ → Result (Unit {0}) PutError → Type 0
TookText sink text (Ok done) = Appends sink.old sink.new text × IsHealthy sink
TookText sink text (Err e) = Stopped sink text e

-- the part of the output that the sink received or the piece holds, by the result of the call that added to it
abbrev pub Gathers : Change → List ℕ → List ℕ → Result (Unit {0}) PutError → Type 0
Gathers sink held text (Ok done) = Gathered sink held text
Gathers sink held text (Err e) = Stopped sink text e

-- the outcome of a job with a complete input, by the part of the reply that the sink received
pub data Answers (j : Job) (input : List ℕ) (sink : Change) : Outcome → Type 0 where
  -- the sink received the output
  answered : (outcome : Outcome) (output : List ℕ) → IsReply j.verb j input outcome output
      → Appends sink.old sink.new output → IsHealthy sink → Answers j input sink outcome
  -- a write failed after the sink had received a proper prefix of the output
  unwritten : (outcome : Outcome) (output : List ℕ) → IsReply j.verb j input outcome output
      → Stopped sink output WriteFailed → Answers j input sink ends.WriteFailed
  -- memory ran out before anything was written
  refused : IsUnused sink → Answers j input sink ends.Memory
  -- memory ran out between pieces, after the sink had received a proper prefix of the output
  refused_amid : (outcome : Outcome) (output : List ℕ) → in_pieces j.verb ≡ true → IsReply j.verb j input outcome output
      → Stopped sink output Memory → Answers j input sink ends.Memory
