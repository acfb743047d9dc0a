-- A section whose framing is valid, as the 32-bit words of its frames.
use Rattle.std.specs.Prelude.{ℕ, ◌+◌, ◌*◌, ◌≤◌, List, length, map}
use Rattle.bpf_words.specs.declared.Order.{Order}
use Rattle.btf_raw.specs.Frames.{IsFrame}
use Rattle.btf_types.specs.{Values.TypeRecord, Reading.frame_at, Reading.frames_at, Reading.record_of, checks.Numbers.TypeFacts, checks.FieldFaults.frame_facts}

-- a complete frame is at this offset of the type section
pub record HasFrame (o : Order) (types : List ℕ) (pos : ℕ) : Type 0 where
  pub inside : pos + 4 * length (frame_at o types pos) ≤ length types
  pub frame : IsFrame (frame_at o types pos)

-- the byte order, the string section, and the frames of all records
pub record SectionWords : Type 0 where
  pub order : Order
  pub strings : List ℕ
  pub frames : List (List ℕ)

-- those of a file whose records begin at these offsets of its type section
abbrev pub words_at : Order → List ℕ → List ℕ → List ℕ → SectionWords
words_at o types strings offsets = record { order = o; strings = strings; frames = frames_at o types offsets }

-- the records that the frames decode to
abbrev pub records_in : SectionWords → List TypeRecord
records_in s = map (record_of s.strings) s.frames

-- what the checks of other records need of these records
abbrev pub facts_in : SectionWords → List TypeFacts
facts_in s = map frame_facts s.frames
