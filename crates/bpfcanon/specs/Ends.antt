-- The ways in which a command line ends.
use Rattle.std.specs.Prelude.{◌≡◌, ℕ, List}
use Rattle.clap.specs.Words.{Text}
use Rattle.bpfcanon.specs.declared.{job.Job.Job, outcome.Outcome.Outcome, outcome.Outcome.TheVariants.Usage, outcome.Outcome.TheVariants.Memory}
use Rattle.bpfcanon.specs.{Devices.Change, Devices.IsUnused, JobEnds.EndsJob, line.Parse.Asks, line.Parse.IsRefused}
use Rattle.bpfcanon.specs.Outcome.{TookLine, report_of, status_of}

-- the outcome of a command line with these arguments
pub data Ends (words : List Text) (source sink : Change) : Outcome → Type 0 where
  -- clap rejects the arguments
  usage : IsRefused words → IsUnused source → IsUnused sink → Ends words source sink Usage
  -- memory ran out while the arguments were parsed
  no_memory_for_line : IsUnused source → IsUnused sink → Ends words source sink Memory
  -- the arguments describe a job, and the job ended with this outcome
  ran : (j : Job) (outcome : Outcome) → Asks words j → EndsJob j source sink outcome → Ends words source sink outcome

-- a command line ends with this status, and the fault sink received the message of its outcome
abbrev pub EndsWith : List Text → Change → Change → Change → ℕ → Type 0
EndsWith words source sink faults status =
    (outcome : Outcome) × ((status ≡ status_of outcome) × TookLine faults (report_of outcome) × Ends words source sink outcome)
