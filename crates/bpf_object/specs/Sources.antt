-- What a section that is being checked means, and what is known of it.
use Rattle.std.specs.Prelude.{◌≡◌, ℕ, ◌+◌, ◌≤◌, true, length}
use Rattle.std.specs.List.{All}
use Rattle.bpf_elf.specs.Names.{is_closed, is_section_name}
use Rattle.bpf_object.specs.declared.{source.Source.Source, types.TypesSource.TypesSource}
use Rattle.bpf_object.specs.declared.extension.Part.{Part, TheVariants.Functions, TheVariants.Lines, TheVariants.Relocations}
use Rattle.bpf_object.specs.Types.{TypesSection}
use Rattle.bpf_object.specs.Extension.{Section, part_end, next_group, group_name, groups}

abbrev pub section : Source → Section
section x = record { order = x.order; start = x.start; bytes = x.bytes.now; strings = x.strings.now }

abbrev pub types_section : TypesSource → TypesSection
types_section x = record { order = x.order; header_offset = x.header_offset; start = x.start; bytes = x.bytes.now }

-- the strings are a string table, and the section is in a file of at most 64 MiB
pub record IsSource (x : Source) : Type 0 where
  pub strings : is_closed x.strings.now ≡ true
  pub start : x.start ≤ 67108864
  pub short : length x.bytes.now ≤ 67108864

-- it has a header
pub record HasHeader (x : Source) : Type 0 where
  pub source : IsSource x
  pub whole : 32 ≤ length x.bytes.now

-- and a part is inside it
pub record HasPart (x : Source) (p : Part) : Type 0 where
  pub header : HasHeader x
  pub inside : part_end (section x) p ≤ length x.bytes.now

-- and a group is inside that
pub record HasGroup (x : Source) (p : Part) (g : ℕ) : Type 0 where
  pub part : HasPart x p
  pub inside : next_group (section x) p g ≤ part_end (section x) p
  pub head : g + 8 ≤ next_group (section x) p g
  pub named : is_section_name x.strings.now (group_name (section x) g) ≡ true

-- and so are all groups of a part
pub record HasGroups (x : Source) (p : Part) : Type 0 where
  pub part : HasPart x p
  pub groups : All (HasGroup x p) (groups (section x) p)

-- and so are all groups of all parts
pub record HasParts (x : Source) : Type 0 where
  pub functions : HasGroups x Functions
  pub lines : HasGroups x Lines
  pub relocations : HasGroups x Relocations
