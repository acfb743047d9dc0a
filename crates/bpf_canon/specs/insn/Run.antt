-- What an engine for instructions did.
use Rattle.std.specs.Prelude.{◌≡◌, ◌<◌, ◌≤◌, ◌+◌, ℕ, List, length, take}
use Rattle.std.specs.Io.KnownBytes.{Appends, Consumes, IsAtEnd}
use Rattle.bpf_words.specs.declared.Order.{Order}
use Rattle.bpf_insn.specs.declared.{insn.Insn.Insn, fault.SlotFault.SlotFault, fault.SlotCause.TheVariants.Truncated}
use Rattle.bpf_insn.specs.{Encoding.file_of, Encoding.InsnFile, Faults.IsFront, Faults.IsInsnFault}
use Rattle.bpf_canon.specs.{Engine.Devices, device.Reads.read_capacity, insn.FeedStream.IsSound, declared.engine.RunCause.RunCause}
use Rattle.bpf_canon.specs.declared.engine.RunCause.TheVariants as cause

-- the largest number of bytes that an engine accepts
abbrev pub limit : ℕ
limit = 67108864

-- the source ended, what it returned is the encodings of some instructions, and the sink received these in the byte order `to`
pub record RanWhole (d : Devices) (o to : Order) (written : ℕ) : Type 0 where
  pub read : List ℕ
  pub came : Consumes d.source d.source_after read
  pub ended : IsAtEnd d.source_after
  pub within : length read ≤ limit
  pub insns : List Insn
  pub file : InsnFile o read insns
  pub took : Appends d.sink d.sink_after (file_of to insns)
  pub all : written ≡ length (file_of to insns)

-- the input was read past the limit by one read at most, and the sink accepted a prefix of the bytes, in the order `to`,
-- that encode the instructions at the start of the input within the limit
pub record Wrote (d : Devices) (o to : Order) (read : List ℕ) (written : ℕ) : Type 0 where
  pub came : Consumes d.source d.source_after read
  pub near : length read ≤ limit + read_capacity
  pub prefix : (insns : List Insn) (rest : List ℕ) → IsFront o (take limit read) insns rest
      → (written ≤ length (file_of to insns)) × Appends d.sink d.sink_after (take written (file_of to insns))

-- likewise, and the sink accepted all these bytes
pub record WroteAll (d : Devices) (o to : Order) (read : List ℕ) (written : ℕ) : Type 0 where
  pub came : Consumes d.source d.source_after read
  pub near : length read ≤ limit + read_capacity
  pub insns : List Insn
  pub rest : List ℕ
  pub front : IsFront o (take limit read) insns rest
  pub took : Appends d.sink d.sink_after (file_of to insns)
  pub all : written ≡ length (file_of to insns)

-- a complete slot is faulty, or the source ended within an instruction
pub record StopsAtFault (d : Devices) (o to : Order) (written : ℕ) (f : SlotFault) : Type 0 where
  pub read : List ℕ
  pub wrote : WroteAll d o to read written
  pub fault : IsInsnFault o (take limit read) f
  pub ended : f.cause ≡ Truncated → IsAtEnd d.source_after × (length read ≤ limit)

-- the input is longer than the limit, and no complete slot within it is faulty
pub record StopsTooLong (d : Devices) (o to : Order) (written : ℕ) : Type 0 where
  pub read : List ℕ
  pub wrote : WroteAll d o to read written
  pub sound : IsSound o (take limit read)
  pub beyond : limit < length read

-- a read failed before more bytes than the limit were read, and no complete slot that was read is faulty
pub record StopsUnread (d : Devices) (o to : Order) (written : ℕ) : Type 0 where
  pub read : List ℕ
  pub wrote : WroteAll d o to read written
  pub sound : IsSound o (take limit read)
  pub within : length read ≤ limit

-- a write failed, or an allocation failed
pub record StopsUnwritten (d : Devices) (o to : Order) (written : ℕ) : Type 0 where
  pub read : List ℕ
  pub wrote : Wrote d o to read written

-- how the engine ended, for each cause: what was read, what the sink received, and why
abbrev pub Stops : Devices → Order → Order → ℕ → RunCause SlotFault → Type 0
Stops d o to written (cause.Fault f) = StopsAtFault d o to written f
Stops d o to written cause.TooLong = StopsTooLong d o to written
Stops d o to written cause.ReadFailed = StopsUnread d o to written
Stops d o to written cause.WriteFailed = StopsUnwritten d o to written
Stops d o to written cause.Memory = StopsUnwritten d o to written
