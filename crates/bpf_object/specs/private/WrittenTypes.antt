-- .BTF and .BTF.ext of a canonical file, from those that are read.
use Rattle.std.specs.Prelude.{◌≡◌, ◌⊎◌, ℕ, ◌<◌, min, true, List, [], ◌++◌, Some, length}
use Rattle.std.specs.List.{All}
use Rattle.bpf_words.specs.declared.Order.{Order}
use Rattle.btf_types.specs.Sections.{SectionWords, records_in}
use Rattle.bpf_canon.specs.btf.strings.{FirstUses.noted_all, NamesByOffset.NamesByOffset, NamesByOffset.texts_by_offset, DistinctNames.distinct_table}
use Rattle.bpf_canon.specs.btf.write.NameOffsets.{all_offsets}
use Rattle.bpf_object.specs.declared.{extension.Part.Part, source.Source.Source, types_writer.WrittenTypes.WrittenTypes}
use Rattle.bpf_object.specs.declared.extension.Part.TheVariants.{Functions, Relocations}
use Rattle.bpf_object.specs.Canonical.{types_bytes, types_strings, offset_of, btf_of, btf_bytes, extension_bytes, has_extension}
use Rattle.bpf_object.specs.Denotes.{btf_fits}
use Rattle.bpf_object.specs.Extension.{Section, groups}
use Rattle.bpf_object.specs.Objects.{ObjectTypes}
use Rattle.bpf_object.specs.private.NotedStrings.{AreInside, IsChecked, text_offset}
use Rattle.bpf_object.specs.Sources.{section, HasGroup}
use Rattle.bpf_object.specs.private.Written.{extension_content, items_of}
use Rattle.bpf_object.specs.private.WrittenGroups.{groups_offsets}

-- a file may have no .BTF.ext, which is then empty
abbrev pub IsRead : Source → Type 0
IsRead x = (x.bytes.now ≡ []) ⊎ IsChecked x

-- a list of groups of a part
pub record AreGroups (x : Source) (p : Part) (gs : List ℕ) : Type 0 where
  pub all : gs ≡ groups (section x) p
  pub groups : All (HasGroup x p) gs
  pub inside : All (AreInside x p) gs

-- the offsets of the strings of both sections: the names of the types, and then the strings of .BTF.ext
abbrev pub both_offsets : SectionWords → Section → List ℕ
both_offsets s x = all_offsets s.frames ++ (groups_offsets x Functions (groups x Functions) ++ groups_offsets x Relocations (groups x Relocations))

-- these strings
abbrev pub both_names : SectionWords → Section → NamesByOffset
both_names s x = record { strings = s.strings; offsets = noted_all [] (both_offsets s x) }

-- .BTF with these strings
abbrev pub written_btf : Order → SectionWords → NamesByOffset → List ℕ
written_btf o s names = btf_of o (types_bytes o (text_offset names) (records_in s)) (distinct_table (texts_by_offset names))

-- .BTF of these types is longer than one may be, or one of both sections than the whole file may be
abbrev pub AreTooLong : ℕ → Order → ObjectTypes → Type 0
AreTooLong limit o t =
    (min 15728640 limit < length (btf_bytes o t)) ⊎ ((has_extension t ≡ true) × (limit < length (extension_bytes o (offset_of (types_strings t)) t)))

-- both sections of these types; .BTF isn't larger than that of a file may be
pub record AreWritten {A : Type 0} (o : Order) (t : ObjectTypes) (w : WrittenTypes A) : Type 0 where
  pub fit : btf_fits o t ≡ true
  pub types : w.types.items ≡ btf_bytes o t
  pub extension : items_of w.extension ≡ extension_content o (Some t)
