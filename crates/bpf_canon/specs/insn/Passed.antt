-- What one piece of the input does.
use Rattle.std.specs.Prelude.{◌≡◌, ◌≤◌, ℕ, List, [], Option, Some, None, length, take}
use Rattle.std.specs.Io.KnownBytes.{Appends}
use Rattle.bpf_insn.specs.declared.fault.SlotFault.{SlotFault}
use Rattle.bpf_canon.specs.{insn.FeedState.FeedState, insn.FeedStream.Moves, declared.engine.RunCause.RunCause}
use Rattle.bpf_canon.specs.declared.engine.RunCause.TheVariants as cause

-- the feed accepted the piece, and the sink the instructions that it completed
pub record Passed (s t : FeedState) (piece : List ℕ) (sink sink_after : Option (List ℕ)) (written : ℕ) : Type 0 where
  pub out : List ℕ
  pub moves : Moves s t piece [] out
  pub sound : t.fault ≡ None
  pub took : Appends sink sink_after out
  pub all : written ≡ length out

-- the feed accepted the piece, whose fault it keeps, and the sink the instructions that it completed
pub record PassedFault (s t : FeedState) (piece : List ℕ) (sink sink_after : Option (List ℕ)) (written : ℕ) (f : SlotFault) : Type 0 where
  pub out : List ℕ
  pub moves : Moves s t piece [] out
  pub faulty : t.fault ≡ Some f
  pub took : Appends sink sink_after out
  pub all : written ≡ length out

-- the feed accepted the piece, and the sink a prefix of the instructions that it completed
pub record PassedPart (s t : FeedState) (piece : List ℕ) (sink sink_after : Option (List ℕ)) (written : ℕ) : Type 0 where
  pub out : List ℕ
  pub moves : Moves s t piece [] out
  pub took : Appends sink sink_after (take written out)
  pub prefix : written ≤ length out

-- how a piece stops the engine, by the cause that is reported
abbrev pub PassStops : FeedState → FeedState → List ℕ → Option (List ℕ) → Option (List ℕ) → ℕ → RunCause SlotFault → Type 0
PassStops s t piece sink sink_after written (cause.Fault f) = PassedFault s t piece sink sink_after written f
PassStops s t piece sink sink_after written cause.WriteFailed = PassedPart s t piece sink sink_after written
PassStops s t piece sink sink_after written cause.Memory = (written ≡ 0) × Appends sink sink_after []
PassStops s t piece sink sink_after written _ = ⊥
