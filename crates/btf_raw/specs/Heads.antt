-- The record header at an offset of the type section.
use Rattle.std.specs.Prelude.{◌≡◌, ℕ, ◌+◌, ◌*◌, ◌≤◌, Bool, true, false, List, length, drop}
use Rattle.bpf_words.specs.{declared.Order.Order, Words.word32_at}
use Rattle.btf_raw.specs.declared.{cause.BtfCause.BtfCause, records.RawHead.RawHead}
use Rattle.btf_raw.specs.{Cause.number_of, Frames.IsAllowed, Frames.InfoFault, Frames.RecordFault}
use Rattle.btf_raw.specs.Kinds.{kind_of, vlen_of, flag_of, tail_words}

abbrev pub bit : Bool → ℕ
bit true = 1
bit false = 0

-- the least of the causes that concern an info field
pub record LeastOfInfo (info : ℕ) (cause : BtfCause) : Type 0 where
  pub holds : InfoFault info cause
  pub least : (other : BtfCause) → InfoFault info other → number_of cause ≤ number_of other

-- a complete frame with an allowed info field is at this offset; its fields, and where the data after the first three begins and ends
pub record HeadAt (o : Order) (types : List ℕ) (pos : ℕ) (head : RawHead) : Type 0 where
  pub name_off : head.name_off ≡ word32_at o types pos
  pub allowed : IsAllowed (word32_at o types (pos + 4))
  pub kind : head.kind ≡ kind_of (word32_at o types (pos + 4))
  pub flag : bit head.flag ≡ flag_of (word32_at o types (pos + 4))
  pub vlen : head.vlen ≡ vlen_of (word32_at o types (pos + 4))
  pub third : head.third ≡ word32_at o types (pos + 8)
  pub tail : head.tail ≡ pos + 12
  pub next : head.next ≡ head.tail + 4 * tail_words head.kind head.vlen
  pub inside : head.next ≤ length types

-- the record at this offset has this fault, at this offset of the section
abbrev pub HeadFault : Order → List ℕ → ℕ → ℕ → BtfCause → Type 0
HeadFault o types pos at_offset cause = (offset : ℕ) × RecordFault o (drop pos types) offset cause × (at_offset ≡ pos + offset)
