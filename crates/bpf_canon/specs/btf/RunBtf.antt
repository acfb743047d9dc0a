-- What the engine for BTF did.
use Rattle.std.specs.Prelude.{◌≡◌, ◌<◌, ◌≤◌, ◌+◌, ℕ, List, length, take}
use Rattle.std.specs.Io.KnownBytes.{Appends, Consumes, IsAtEnd}
use Rattle.bpf_words.specs.declared.Order.{Order}
use Rattle.btf_raw.specs.{declared.cause.BtfFault.BtfFault, Header.HEADER_LIMIT, Header.TYPES_LIMIT, Header.STRINGS_LIMIT}
use Rattle.btf_types.specs.{Values.TypeRecord, Denotes.Denotes, Faults.IsFirst}
use Rattle.btf_types.specs.declared.error.BtfError.{BtfError}
use Rattle.btf_types.specs.declared.error.BtfError.TheVariants as errors
use Rattle.bpf_canon.specs.declared.device.source.ReadError.{ReadError}
use Rattle.bpf_canon.specs.declared.device.source.ReadError.TheVariants as unread
use Rattle.bpf_canon.specs.{btf.CanonicalBtf.canonical, declared.engine.RunCause.RunCause, device.Reads.read_capacity, Engine.Devices}
use Rattle.bpf_canon.specs.declared.engine.RunCause.TheVariants as cause

-- the largest number of bytes that the engine accepts: the largest header and sections of a file
abbrev pub btf_limit : ℕ
btf_limit = HEADER_LIMIT + TYPES_LIMIT + STRINGS_LIMIT

-- these bytes were read, not more than the limit, and then the source ended
pub record CameWhole (d : Devices) (read : List ℕ) : Type 0 where
  pub came : Consumes d.source d.source_after read
  pub ended : IsAtEnd d.source_after
  pub within : length read ≤ btf_limit

-- the sink is unchanged
pub record WroteNothing (d : Devices) (written : ℕ) : Type 0 where
  pub kept : d.sink_after ≡ d.sink
  pub none : written ≡ 0

-- the input is a file of some records, and the sink received their canonical bytes in the byte order `to`
pub record RanBtf (d : Devices) (to : Order) (written : ℕ) : Type 0 where
  pub read : List ℕ
  pub input : CameWhole d read
  pub records : List TypeRecord
  pub file : Denotes read records
  pub took : Appends d.sink d.sink_after (canonical to records)
  pub all : written ≡ length (canonical to records)

-- this is the first fault of the input
pub record StopsAtBtfFault (d : Devices) (written : ℕ) (f : BtfFault) : Type 0 where
  pub read : List ℕ
  pub input : CameWhole d read
  pub first : IsFirst read f
  pub nothing : WroteNothing d written

-- the input is longer than the limit, and was read past it by one read at most
pub record StopsBtfTooLong (d : Devices) (written : ℕ) : Type 0 where
  pub read : List ℕ
  pub came : Consumes d.source d.source_after read
  pub beyond : btf_limit < length read
  pub near : length read ≤ btf_limit + read_capacity
  pub nothing : WroteNothing d written

-- a read failed before more bytes than the limit were read
pub record StopsBtfUnread (d : Devices) (written : ℕ) : Type 0 where
  pub read : List ℕ
  pub came : Consumes d.source d.source_after read
  pub within : length read ≤ btf_limit
  pub nothing : WroteNothing d written

-- the input is a file of some records, and a write failed after the sink had accepted a proper prefix of their canonical bytes
pub record StopsBtfUnwritten (d : Devices) (to : Order) (written : ℕ) : Type 0 where
  pub read : List ℕ
  pub input : CameWhole d read
  pub records : List TypeRecord
  pub file : Denotes read records
  pub took : Appends d.sink d.sink_after (take written (canonical to records))
  pub part : written < length (canonical to records)

-- an allocation failed
pub record StopsBtfRefused (d : Devices) (written : ℕ) : Type 0 where
  pub read : List ℕ
  pub came : Consumes d.source d.source_after read
  pub near : length read ≤ btf_limit + read_capacity
  pub nothing : WroteNothing d written

-- how the engine ended, for each cause: what was read, what the sink received, and why
abbrev pub StopsBtf : Devices → Order → ℕ → RunCause BtfFault → Type 0
StopsBtf d to written (cause.Fault f) = StopsAtBtfFault d written f
StopsBtf d to written cause.TooLong = StopsBtfTooLong d written
StopsBtf d to written cause.ReadFailed = StopsBtfUnread d written
StopsBtf d to written cause.WriteFailed = StopsBtfUnwritten d to written
StopsBtf d to written cause.Memory = StopsBtfRefused d written

-- the cause for an error of reading, and for an error of the file
abbrev pub cause_of_read : ReadError → RunCause BtfFault
cause_of_read unread.TooLong = cause.TooLong
cause_of_read unread.ReadFailed = cause.ReadFailed
cause_of_read unread.Memory = cause.Memory

abbrev pub cause_of_btf : BtfError → RunCause BtfFault
cause_of_btf (errors.Fault f) = cause.Fault f
cause_of_btf errors.Memory = cause.Memory
