-- How the in-memory devices read and write.
use Rattle.std.specs.Prelude.{◌-◌, ◌+◌, ◌≤◌, ℕ, List, Option, option_map, vec_len, vec_capacity}
use Rattle.bpf_canon.specs.declared.device.memory.{MemSource.MemSource, MemSink.MemSink}

-- at most `piece` bytes per call; `good_calls` is the number of calls that still succeed, if not all do
pub record Pace : Type 0 where
  pub piece : ℕ
  pub good_calls : Option ℕ

-- the pace of a new device, which fails from call number `fuse` on, counted from 1
abbrev pub new_pace : ℕ → Option ℕ → Pace
new_pace piece fuse = record { piece = piece; good_calls = option_map (λ n. n - 1) fuse }

-- the pace after one more call
abbrev pub next_pace : Pace → Pace
next_pace p = record p { good_calls = option_map (λ n. n - 1) p.good_calls }

-- the bytes that a source has still to return
abbrev pub source_bytes : MemSource → List ℕ
source_bytes s = s.rest.now

-- how many of its reads failed
abbrev pub source_failures : MemSource → ℕ
source_failures s = s.failed_reads

-- how many bytes a source returns per read, and for how many reads
abbrev pub source_pace : MemSource → Pace
source_pace s = record { piece = s.piece; good_calls = s.good_reads }

-- the bytes in the vector of a sink
abbrev pub sink_bytes : {A : Type 0} → MemSink A → List ℕ
sink_bytes s = s.out.now.items

-- how many of its writes failed
abbrev pub sink_failures : {A : Type 0} → MemSink A → ℕ
sink_failures s = s.failed_writes

-- how many bytes a sink accepts per write, and for how many writes
abbrev pub sink_pace : {A : Type 0} → MemSink A → Pace
sink_pace s = record { piece = s.piece; good_calls = s.good_writes }

-- the vector of a sink has capacity for n more bytes
abbrev pub HasCapacity : {A : Type 0} → MemSink A → ℕ → Type 0
HasCapacity s n = vec_len s.out.now + n ≤ vec_capacity s.out.now
