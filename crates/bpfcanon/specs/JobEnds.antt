-- The ways in which a job ends.
use Rattle.std.specs.Prelude.{◌≡◌, ◌⊎◌, ◌<◌, ◌≤◌, ℕ, List, true, false, length, take}
use Rattle.std.specs.Io.KnownBytes.{Appends, Consumes, IsAtEnd}
use Rattle.bpf_canon.specs.declared.engine.RunCause.{RunCause}
use Rattle.bpf_canon.specs.declared.engine.RunCause.TheVariants as cause
use Rattle.bpfcanon.specs.{declared.job.Job.Job, Devices.Change, Devices.HasFailed, Devices.IsHealthy, Devices.IsUnused}
use Rattle.bpfcanon.specs.declared.outcome.Outcome.{Outcome, TheVariants.TooLong, TheVariants.ReadFailed, TheVariants.WriteFailed, TheVariants.Memory}
use Rattle.bpfcanon.specs.commands.Reply.{IsEarly, IsReply, in_pieces, limit_of, streams}

-- the outcome of a job whose engine stopped early; `ends` relates a fault of the input to its outcome
abbrev pub IsEndOfStop : {F : Type 0} → (F → Outcome → Type 0) → RunCause F → Outcome → Type 0
IsEndOfStop ends (cause.Fault f) outcome = ends f outcome
IsEndOfStop ends cause.TooLong outcome = outcome ≡ TooLong
IsEndOfStop ends cause.ReadFailed outcome = outcome ≡ ReadFailed
IsEndOfStop ends cause.WriteFailed outcome = outcome ≡ WriteFailed
IsEndOfStop ends cause.Memory outcome = outcome ≡ Memory

-- the bytes read decide the reply early, or the source was read to its end or past the limit
abbrev pub IsRead : Job → Change → List ℕ → Type 0
IsRead j source input = IsEarly j.verb j input ⊎ (IsAtEnd source.new ⊎ (limit_of j.verb < length input))

-- the sink received the output for the bytes read within the limit
abbrev pub TookAll : Job → Change → List ℕ → Type 0
TookAll j sink input = (outcome : Outcome) (output : List ℕ) → IsReply j.verb j (take (limit_of j.verb) input) outcome output
    → Appends sink.old sink.new output

-- the sink received a prefix of that output
abbrev pub TookPrefix : Job → Change → List ℕ → Type 0
TookPrefix j sink input = (outcome : Outcome) (output : List ℕ) → IsReply j.verb j (take (limit_of j.verb) input) outcome output
    → (n : ℕ) × Appends sink.old sink.new (take n output)

-- the outcomes of a job, by the changes of its source and its sink
pub data EndsJob (j : Job) (source sink : Change) : Outcome → Type 0 where
  -- the sink received the output for the bytes read
  replied : (input : List ℕ) (outcome : Outcome) (output : List ℕ) → IsHealthy source → IsHealthy sink
      → Consumes source.old source.new input → IsRead j source input → IsReply j.verb j input outcome output
      → Appends sink.old sink.new output → EndsJob j source sink outcome
  -- a read failed within the limit before anything was written
  read_failed : (input : List ℕ) → streams j.verb ≡ false → HasFailed source → IsUnused sink
      → Consumes source.old source.new input → length input ≤ limit_of j.verb → EndsJob j source sink ReadFailed
  -- a read failed within the limit, and the bytes before it don't decide the reply early
  read_failed_amid : (input : List ℕ) → streams j.verb ≡ true → HasFailed source → IsHealthy sink
      → Consumes source.old source.new input → length input ≤ limit_of j.verb → ¬ IsEarly j.verb j input
      → TookAll j sink input → EndsJob j source sink ReadFailed
  -- a write failed after the sink had received the first n bytes of the output
  write_failed : (input : List ℕ) (outcome : Outcome) (output : List ℕ) (n : ℕ) → streams j.verb ≡ false → IsHealthy source → HasFailed sink
      → Consumes source.old source.new input → IsRead j source input → IsReply j.verb j input outcome output
      → n < length output → Appends sink.old sink.new (take n output) → EndsJob j source sink WriteFailed
  write_failed_amid : (input : List ℕ) → streams j.verb ≡ true → IsHealthy source → HasFailed sink
      → Consumes source.old source.new input → TookPrefix j sink input → EndsJob j source sink WriteFailed
  -- memory ran out before anything was written
  no_memory : (input : List ℕ) → streams j.verb ≡ false → IsHealthy source → IsUnused sink
      → Consumes source.old source.new input → EndsJob j source sink Memory
  -- memory ran out after the sink had received the first n bytes of the output, but not all of it
  no_memory_in_pieces : (input : List ℕ) (outcome : Outcome) (output : List ℕ) (n : ℕ) → in_pieces j.verb ≡ true → IsHealthy source → IsHealthy sink
      → Consumes source.old source.new input → IsRead j source input → IsReply j.verb j input outcome output
      → n < length output → Appends sink.old sink.new (take n output) → EndsJob j source sink Memory
  no_memory_amid : (input : List ℕ) → streams j.verb ≡ true → IsHealthy source → IsHealthy sink
      → Consumes source.old source.new input → TookPrefix j sink input → EndsJob j source sink Memory
