-- What a feed keeps between two pieces.
use Rattle.std.specs.Prelude.{◌≡◌, ◌<◌, ◌≤◌, ◌+◌, ◌⊎◌, ℕ, List, [], Option, length, nat_lt, if◌then◌else◌}
use Rattle.bpf_words.specs.declared.Order.{Order}
use Rattle.bpf_insn.specs.{declared.fault.SlotFault.SlotFault, declared.fault.SlotCause.TheVariants.Truncated, Faults.IsSlotFault}

-- what a feed keeps between two pieces: both byte orders, the bytes of an incomplete instruction, counts and a fault
pub record FeedState : Type 0 where
  -- the byte order of the input, and the byte order of the output
  pub order : Order
  pub to : Order
  -- the bytes of the last, incomplete instruction
  pub held : List ℕ
  -- the number of bytes fed so far
  pub fed : ℕ
  -- the number of complete instructions so far
  pub count : ℕ
  -- the fault of the stream, if it has one that no further bytes can change
  pub fault : Option SlotFault

-- the offset of the slot whose bytes are missing, from the first held byte
abbrev pub missing_offset : ℕ → ℕ
missing_offset n = if nat_lt n 8 then 0 else 8

-- nothing, or the beginning of an incomplete instruction
abbrev pub IsCut : Order → List ℕ → Type 0
IsCut o s = (s ≡ []) ⊎ IsSlotFault o s (record { pos = missing_offset (length s); cause = Truncated })

-- what always holds of a feed between two pieces
pub record IsBetween (o : Order) (held : List ℕ) (held_len fed count : ℕ) : Type 0 where
  pub short : held_len < 16
  pub cut : IsCut o held
  pub counted : count + held_len ≤ fed
