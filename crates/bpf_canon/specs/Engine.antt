-- What the engines for instructions and for BTF share.
use Rattle.std.specs.Prelude.{◌≡◌, ◌<◌, ℕ, List, Option, length, take}
use Rattle.std.specs.Io.KnownBytes.{Appends}
use Rattle.bpf_canon.specs.declared.engine.RunCause.{RunCause}
use Rattle.bpf_canon.specs.declared.engine.RunCause.TheVariants as cause
use Rattle.bpf_canon.specs.declared.engine.RunError.{RunError}

-- the states of the devices: the source before and after the call, and the sink before and after it
pub record Devices : Type 0 where
  pub source : Option (List ℕ)
  pub source_after : Option (List ℕ)
  pub sink : Option (List ℕ)
  pub sink_after : Option (List ℕ)

-- the source and the sink before and after a call
abbrev pub devices : Option (List ℕ) → Option (List ℕ) → Option (List ℕ) → Option (List ℕ) → Devices
devices source source_after sink sink_after =
    record { source = source; source_after = source_after; sink = sink; sink_after = sink_after }

-- how many reads failed in a call that ended with this cause
abbrev pub counts_read : {F : Type 0} → RunCause F → ℕ
counts_read cause.ReadFailed = 1
counts_read _ = 0

-- how many writes failed in it
abbrev pub counts_write : {F : Type 0} → RunCause F → ℕ
counts_write cause.WriteFailed = 1
counts_write _ = 0

-- a write failed after the sink had accepted a prefix of the bytes
pub record PutStops {F : Type 0} (sink sink_after : Option (List ℕ)) (bytes : List ℕ) (e : RunError F) : Type 0 where
  pub why : e.cause ≡ cause.WriteFailed
  pub took : Appends sink sink_after (take e.written bytes)
  pub part : e.written < length bytes
