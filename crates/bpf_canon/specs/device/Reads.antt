-- How reading an entire input fails.
use Rattle.std.specs.Prelude.{◌<◌, ◌≤◌, ◌+◌, ℕ, List, length}
use Rattle.bpf_canon.specs.declared.device.source.ReadError.{ReadError, TheVariants.TooLong, TheVariants.ReadFailed, TheVariants.Memory}

-- the size in bytes of the buffer of each read
abbrev pub read_capacity : ℕ
read_capacity = 4096

-- how many reads failed when that reading fails
abbrev pub failed_reads : ReadError → ℕ
failed_reads ReadFailed = 1
failed_reads _ = 0

-- how much was read when reading an entire input fails; the last read may go past the limit
abbrev pub EndsAmid : ℕ → List ℕ → ReadError → Type 0
EndsAmid limit bytes TooLong = (limit < length bytes) × (length bytes ≤ limit + read_capacity)
EndsAmid limit bytes ReadFailed = length bytes ≤ limit
EndsAmid limit bytes Memory = length bytes ≤ limit + read_capacity
