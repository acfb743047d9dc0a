-- What a command reports when it ends: an exit status, a line on the fault sink, and the verdict on two files.
use Rattle.std.specs.Prelude.{◌⊎◌, ◌≤◌, ◌++◌, ℕ, Bool, true, false, List, [], ◌∷◌, codes, decimal, length, take}
use Rattle.std.specs.Io.KnownBytes.{Appends}
use Rattle.bpfcanon.specs.declared.outcome.Outcome.{Outcome}
use Rattle.bpfcanon.specs.declared.outcome.Outcome.TheVariants as ends
use Rattle.bpfcanon.specs.declared.outcome.Outcome.TheVariants.{Done, Different, Fault, FaultyLine, First, Second, FirstBtf, SecondBtf, TooLong, SplitBeyond, Usage, ReadFailed, WriteFailed, Memory}
use Rattle.bpf_insn.specs.CauseNames.{cause_name}
use Rattle.bpf_text.specs.insn.LineCauseNames.{line_cause_name}
use Rattle.btf_raw.specs.BtfCauseNames.{btf_cause_name}
use Rattle.bpfcanon.specs.Devices.{Change, HasFailed, IsHealthy}

-- the exit status of each outcome
abbrev pub status_of : Outcome → ℕ
status_of Done = 0
status_of Different = 1
status_of (Fault f) = 1
status_of (FaultyLine f) = 1
status_of (First f) = 1
status_of (Second f) = 1
status_of (ends.BtfFault f) = 1
status_of (FirstBtf f) = 1
status_of (SecondBtf f) = 1
status_of TooLong = 1
status_of SplitBeyond = 1
status_of Usage = 2
status_of ReadFailed = 3
status_of WriteFailed = 3
status_of Memory = 3

abbrev pub newline : List ℕ
newline = 10 ∷ []

-- the outcome and the line of a comparison of two valid files
abbrev pub verdict_outcome : Bool → Outcome
verdict_outcome true = Done
verdict_outcome false = Different

abbrev pub verdict_line : Bool → List ℕ
verdict_line true = codes "same" ++ newline
verdict_line false = codes "different" ++ newline

-- the line of a fault: how it starts, an offset in bytes or the number of a line, counted from 1, and the cause's name
abbrev pub fault_line : List ℕ → ℕ → List ℕ → List ℕ
fault_line start position cause = start ++ (decimal position ++ (codes " " ++ (cause ++ newline)))

-- the message for the fault sink, if any
abbrev pub report_of : Outcome → List ℕ
report_of Done = []
report_of Different = []
report_of (Fault f) = fault_line (codes "fault ") f.pos (cause_name f.cause)
report_of (FaultyLine f) = fault_line (codes "fault line ") f.line (line_cause_name f.cause)
report_of (First f) = fault_line (codes "first: fault ") f.pos (cause_name f.cause)
report_of (Second f) = fault_line (codes "second: fault ") f.pos (cause_name f.cause)
report_of (ends.BtfFault f) = fault_line (codes "fault ") f.pos (btf_cause_name f.cause)
report_of (FirstBtf f) = fault_line (codes "first: fault ") f.pos (btf_cause_name f.cause)
report_of (SecondBtf f) = fault_line (codes "second: fault ") f.pos (btf_cause_name f.cause)
report_of TooLong = codes "too long" ++ newline
report_of SplitBeyond = codes "split beyond input" ++ newline
report_of Usage =
    codes "usage: bpfcanon COMMAND [--order little|big] [--to little|big] [--other little|big] [--split N]" ++ newline
report_of ReadFailed = codes "read failed" ++ newline
report_of WriteFailed = codes "write failed" ++ newline
report_of Memory = codes "no memory" ++ newline

-- the fault sink received the message, or a prefix of it and then failed
pub record TookLine (sink : Change) (line : List ℕ) : Type 0 where
  pub n : ℕ
  pub took : Appends sink.old sink.new (take n line)
  pub whole : (length line ≤ n) × IsHealthy sink ⊎ HasFailed sink
