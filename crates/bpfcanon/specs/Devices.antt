-- The effect of a call on a source or a sink.
use Rattle.std.specs.Prelude.{◌≡◌, ◌+◌, ℕ, List, Option}
use Rattle.bpf_canon.specs.declared.device.source.ByteSource as source
use Rattle.bpf_canon.specs.declared.device.sink.ByteSink as sink

-- the state of a device before and after a call: its bytes, if they are known, and how many of its calls have failed
pub record Change : Type 0 where
  pub old : Option (List ℕ)
  pub new : Option (List ℕ)
  pub failed : ℕ
  pub failed_after : ℕ

abbrev pub change : Option (List ℕ) → Option (List ℕ) → ℕ → ℕ → Change
change old new failed failed_after = record { old = old; new = new; failed = failed; failed_after = failed_after }

-- the change of a source, whose bytes are those still unread
abbrev pub source_change : {S : Type 0} → source.Ghosts S → S → S → Change
source_change g old new = change (g.remaining old) (g.remaining new) (g.failures old) (g.failures new)

-- the change of a sink, whose bytes are those it has received
abbrev pub sink_change : {W : Type 0} → sink.Ghosts W → W → W → Change
sink_change g old new = change (g.contents old) (g.contents new) (g.failures old) (g.failures new)

-- the device wasn't used
abbrev pub IsUnused : Change → Type 0
IsUnused c = (c.new ≡ c.old) × (c.failed_after ≡ c.failed)

-- no call of the device failed
abbrev pub IsHealthy : Change → Type 0
IsHealthy c = c.failed_after ≡ c.failed

-- one call of the device failed
abbrev pub HasFailed : Change → Type 0
HasFailed c = c.failed_after ≡ c.failed + 1
