use Rattle.std.proofs.Common.{◌≡◌, ◌≤◌, ◌+◌, ◌-◌, ℕ, List, Option, length}
use Rattle.std.specs.Io.KnownBytes.{Consumes}
use Rattle.bpf_canon.proofs.device.source.read_all.Given as goal

-- these bytes were read, within the limit, and no call failed
pub record CameSoFar (old new : Option (List ℕ)) (failed_before failed : ℕ) (bytes : List ℕ) (limit : ℕ) : Type 0 where
  pub consumes : Consumes old new bytes
  pub within : length bytes ≤ limit
  pub healthy : failed ≡ failed_before

abbrev pub invariant-reads : goal.invariant-reads
invariant-reads g l = CameSoFar (g.S.ByteSource.remaining l.initial.source) (g.S.ByteSource.remaining l.source)
    (g.S.ByteSource.failures l.initial.source) (g.S.ByteSource.failures l.source) l.bytes.items l.limit

abbrev pub decreases-reads : goal.decreases-reads
decreases-reads g l = l.limit + 1 - length l.bytes.items
