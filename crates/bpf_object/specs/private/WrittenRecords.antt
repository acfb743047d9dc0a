-- The records of .BTF as a canonical file has them, from those that are read.
use Rattle.std.specs.Prelude.{◌≡◌, ℕ, ◌-◌, ◌%◌, ◌==◌, ◌&&◌, nat_le, Bool, false, List, length, slice_index, if◌then◌else◌}
use Rattle.std.specs.List.{All}
use Rattle.btf_raw.specs.{Header.HasNulEnds, Kinds.has_item_names, Kinds.item_words}
use Rattle.btf_raw.specs.Frames.{IsFrame, kind, section_of}
use Rattle.btf_types.specs.{Encoding.Encodes, Reading.record_of, Reading.text_from, Sections.SectionWords, tables.TableInvariant.IsTable}
use Rattle.bpf_object.specs.Types.{is_flagged}
use Rattle.bpf_object.specs.private.TypeSteps.{numbered, renewed_frames, AreInRange}

-- field j of a record of this kind is the offset of a name: its own, or that of an item
abbrev pub is_name_word : ℕ → ℕ → Bool
is_name_word k j = if nat_le 3 j then has_item_names k && (j - 3) % item_words k == 0 else j == 0

-- a field of a record, with the new offset of a name
abbrev pub placed_word : (List ℕ → ℕ) → List ℕ → List ℕ → ℕ → ℕ
placed_word place strings f j = if is_name_word (kind f) j then place (text_from strings (slice_index f j)) else slice_index f j

-- nothing but the offsets of its names differs in a canonical file
pub record IsWritable (strings f : List ℕ) : Type 0 where
  pub ends : HasNulEnds strings
  pub frame : IsFrame f
  pub encoded : Encodes strings (record_of strings f) f
  pub plain : is_flagged f ≡ false

-- the records in this order, with their new numbers by the old ones
abbrev pub renewed : SectionWords → List ℕ → List ℕ → SectionWords
renewed s ids numbers = record { order = s.order; strings = s.strings; frames = renewed_frames s (numbered numbers) ids }

-- they can be written like this, and have as many bytes as before
pub record AreWritable (s : SectionWords) (ids numbers : List ℕ) : Type 0 where
  pub inside : AreInRange (length s.frames) ids
  pub table : IsTable (renewed s ids numbers)
  pub each : All (IsWritable s.strings) (renewed s ids numbers).frames
  pub bytes : length (section_of s.order (renewed s ids numbers).frames) ≡ length (section_of s.order s.frames)
