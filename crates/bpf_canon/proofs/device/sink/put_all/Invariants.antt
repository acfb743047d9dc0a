use Rattle.std.proofs.Common.{length, ◌-◌, ◌≡◌, ◌≤◌, ℕ, List, Option, take}
use Rattle.std.specs.Io.KnownBytes.{Appends}
use Rattle.bpf_canon.proofs.device.sink.put_all.Given as goal

-- so far a prefix of the bytes was accepted, and no call failed
pub record TakenSoFar (old new : Option (List ℕ)) (failed_before failed : ℕ) (bytes : List ℕ) (n : ℕ) : Type 0 where
  pub within : n ≤ length bytes
  pub appends : Appends old new (take n bytes)
  pub healthy : failed ≡ failed_before

abbrev pub invariant-loop-taken : goal.invariant-loop-taken
invariant-loop-taken g l = TakenSoFar (g.W.ByteSink.contents l.initial.sink) (g.W.ByteSink.contents l.sink)
    (g.W.ByteSink.failures l.initial.sink) (g.W.ByteSink.failures l.sink) l.bytes l.taken

abbrev pub decreases-loop-taken : goal.decreases-loop-taken
decreases-loop-taken g l = length l.bytes - l.taken
