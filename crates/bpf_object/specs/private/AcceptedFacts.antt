-- What is known of a file that denotes an object.
use Rattle.std.specs.Prelude.{◌≡◌, ℕ, true, List, Some}
use Rattle.bpf_words.specs.declared.Order.{Order}
use Rattle.btf_raw.specs.Header.{Cut}
use Rattle.bpf_elf.specs.Names.{is_closed}
use Rattle.bpf_object.specs.declared.{extension.Part.Part, section_groups.SectionGroup.SectionGroup}
use Rattle.bpf_object.specs.{Denotes.Denotes, Objects.Object}
use Rattle.bpf_object.specs.SourceLines.{extension, group_in}
use Rattle.bpf_object.specs.Sources.{section, HasGroup}

-- it denotes an object
abbrev pub IsAccepted : List ℕ → Type 0
IsAccepted b = (x : Object) × Denotes b x

-- a .BTF is divided into types and a string table
pub record HasStringTable (o : Order) (b : List ℕ) : Type 0 where
  pub types : List ℕ
  pub strings : List ℕ
  pub cut : Cut b o types strings
  pub closed : is_closed strings ≡ true

-- the group of a section of a file is there
pub record IsGroupIn (b : List ℕ) (p : Part) (i : ℕ) (g : SectionGroup) : Type 0 where
  pub source : section g.source ≡ extension b
  pub is : group_in b p i ≡ Some g.start
  pub has : HasGroup g.source p g.start
