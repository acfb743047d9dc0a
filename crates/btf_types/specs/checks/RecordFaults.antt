-- The faults in the fields of one record.
use Rattle.std.specs.Prelude.{◌≡◌, ◌⊎◌, ℕ, ◌<◌, ◌≤◌, Bool, IsTrue, List, Option, MatchOption, length}
use Rattle.btf_raw.specs.{declared.cause.BtfCause.BtfCause, Cause.number_of}
use Rattle.btf_types.specs.checks.{Numbers.TypeFacts, Numbers.LeastCause, FieldFaults.WordFault, FieldFaults.HasBitFields}
use Rattle.btf_types.specs.Sections.{SectionWords, facts_in}

-- no field of the frame has a fault
abbrev pub IsFaultless : List ℕ → List TypeFacts → List ℕ → Type 0
IsFaultless strings types frame = (j : ℕ) (c : BtfCause) → j < length frame → ¬ WordFault strings types frame j c

-- the first field with a fault, and its least cause
pub record LeastOfRecord (strings : List ℕ) (types : List TypeFacts) (frame : List ℕ) (word : ℕ) (cause : BtfCause) : Type 0 where
  pub inside : word < length frame
  pub holds : WordFault strings types frame word cause
  pub least : (j : ℕ) (c : BtfCause) → j < length frame → WordFault strings types frame j c → (word < j) ⊎ ((word ≡ j) × (number_of cause ≤ number_of c))

-- likewise for a frame of a section
abbrev pub FaultInWord : SectionWords → List ℕ → ℕ → BtfCause → Type 0
FaultInWord s frame j cause = WordFault s.strings (facts_in s) frame j cause

abbrev pub IsFaultlessIn : SectionWords → List ℕ → Type 0
IsFaultlessIn s frame = IsFaultless s.strings (facts_in s) frame

abbrev pub IsLeastIn : SectionWords → List ℕ → ℕ → BtfCause → Type 0
IsLeastIn s frame word cause = LeastOfRecord s.strings (facts_in s) frame word cause

-- no field of the frame has a fault, from the index from up to, but not including, the index to
abbrev pub NoneWithin : SectionWords → List ℕ → ℕ → ℕ → Type 0
NoneWithin s frame from to = (j : ℕ) (cause : BtfCause) → from ≤ j → j < to → ¬ FaultInWord s frame j cause

-- the first field in that range with a fault, and its least cause
pub record IsFirstWithin (s : SectionWords) (frame : List ℕ) (from to word : ℕ) (cause : BtfCause) : Type 0 where
  pub past : from ≤ word
  pub inside : word < to
  pub before : NoneWithin s frame from word
  pub least : LeastCause (FaultInWord s frame word) cause

-- the answer is the first faulty field in that range with its least cause, or None if there is none
abbrev pub FirstWithin : SectionWords → List ℕ → ℕ → ℕ → Option (ℕ × BtfCause) → Type 0
FirstWithin s frame from to answer =
    MatchOption answer (NoneWithin s frame from to) (λ found. IsFirstWithin s frame from to found.0 found.1)

-- whether the width of some member of this record isn't 0
pub record BitFieldsAre (frame : List ℕ) (bit_fields : Bool) : Type 0 where
  pub some : IsTrue bit_fields → HasBitFields frame
  pub none : HasBitFields frame → IsTrue bit_fields
