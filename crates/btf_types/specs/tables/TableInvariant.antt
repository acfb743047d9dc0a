-- When a section with the offsets of its records is a table.
use Rattle.std.specs.Prelude.{◌≡◌, ℕ, ◌^◌, ◌<◌, ◌≤◌, List, length, take, slice_index}
use Rattle.std.specs.List.{All, AllZip}
use Rattle.bpf_words.specs.declared.Order.{Order}
use Rattle.btf_raw.specs.{Header.HasNulEnds, Header.STRINGS_LIMIT, Frames.IsFrame, Frames.Frames, Frames.section_of, Cause.HasNone}
use Rattle.btf_types.specs.{Encoding.Encodes, Valid.IsValid, checks.FieldFaults.FieldFault, Reading.frames_at, Sections.SectionWords, Sections.words_at, Sections.records_in}

-- The offsets are those of the frames of the section, in order.
pub record IsFramed (o : Order) (types offsets : List ℕ) : Type 0 where
  pub frames : Frames o types (frames_at o types offsets)
  pub count : length offsets ≤ length types
  pub starts : (i : ℕ) → i < length offsets → slice_index offsets i ≡ length (section_of o (take i (frames_at o types offsets)))

-- The frames are complete, and no field of them has a fault. So they encode the records that they decode to, and these are valid.
pub record IsTable (s : SectionWords) : Type 0 where
  pub short : length s.strings ≤ STRINGS_LIMIT
  pub ends : HasNulEnds s.strings
  pub each : All IsFrame s.frames
  pub none : HasNone (FieldFault s.strings s.frames)
  pub encoded : AllZip (Encodes s.strings) (records_in s) s.frames
  pub valid : IsValid (records_in s)

-- The offsets are those of the frames of a type section, and these are a table.
pub record IsChecked (o : Order) (types strings offsets : List ℕ) : Type 0 where
  pub few : length offsets < 2 ^ 32
  pub framed : IsFramed o types offsets
  pub table : IsTable (words_at o types strings offsets)
