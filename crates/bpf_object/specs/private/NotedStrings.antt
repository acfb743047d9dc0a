-- The strings of .BTF.ext, whose new offsets are known.
use Rattle.std.specs.Prelude.{◌≡◌, ℕ, ◌<◌, List, length}
use Rattle.std.specs.List.{All, Contains}
use Rattle.bpf_canon.specs.btf.strings.{NamesByOffset.NamesByOffset, NamesByOffset.texts_by_offset, DistinctNames.distinct_offset}
use Rattle.bpf_object.specs.declared.{extension.Part.Part, source.Source.Source}
use Rattle.bpf_object.specs.declared.extension.Part.TheVariants.{Relocations}
use Rattle.bpf_object.specs.Extension.{groups}
use Rattle.bpf_object.specs.Sources.{section, HasParts}
use Rattle.bpf_object.specs.private.WrittenGroups.{group_offsets}

-- the offset of a string among these
abbrev pub text_offset : NamesByOffset → List ℕ → ℕ
text_offset names = distinct_offset (texts_by_offset names)

-- the strings of a group are inside the strings of .BTF
pub record AreInside (x : Source) (p : Part) (g : ℕ) : Type 0 where
  pub inside : All (λ off. off < length x.strings.now) (group_offsets (section x) p g)

-- a section that keeps all rules
pub record IsChecked (x : Source) : Type 0 where
  pub parts : HasParts x
  pub inside : All (AreInside x Relocations) (groups (section x) Relocations)

-- the strings of a group are among these
pub record HasStrings (names : NamesByOffset) (x : Source) (p : Part) (g : ℕ) : Type 0 where
  pub strings : names.strings ≡ x.strings.now
  pub noted : All (Contains names.offsets) (group_offsets (section x) p g)
