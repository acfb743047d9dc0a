-- The parts of a section whose framing is valid.
use Rattle.std.specs.Prelude.{◌^◌, ◌≤◌, length}
use Rattle.btf_raw.specs.Header.{HasNulEnds}
use Rattle.btf_types.specs.declared.checks.section.Section.TheInside.{Inside}
use Rattle.btf_types.specs.{checks.Texts.HasMarks, Sections.SectionWords, Sections.words_at, tables.TableInvariant.IsFramed}

-- the strings, and the frames at the kept offsets
abbrev pub words_in : Inside → SectionWords
words_in s = words_at s.order s.types.now s.strings.now s.offsets.now

-- the strings begin and end with NUL, the offsets are those of the frames, and it is known which strings are UTF-8
pub record IsSection (s : Inside) : Type 0 where
  pub ends : HasNulEnds s.strings.now
  pub few : length s.types.now ≤ 2 ^ 25
  pub framed : IsFramed s.order s.types.now s.offsets.now
  pub marks : HasMarks s.strings.now s.marks
