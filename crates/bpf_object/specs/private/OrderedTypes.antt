-- A file with the records of .BTF in the order of its canonical file.
use Rattle.std.specs.Prelude.{◌≡◌, ℕ, ◌<◌, List}
use Rattle.bpf_elf.specs.{Rules.AllHold, ElfRules.IsElf}
use Rattle.btf_raw.specs.Frames.{section_of}
use Rattle.btf_types.specs.{Denotes.HoldsSections, Sections.SectionWords}
use Rattle.bpf_object.specs.Canonical.{btf_of}
use Rattle.bpf_object.specs.Denotes.{types_at, types_of, rules_of_extension}
use Rattle.bpf_object.specs.TypesFaults.{KeepsTypes}
use Rattle.bpf_object.specs.TypeOrder.{ordered}

-- .BTF and .BTF.ext keep all rules
pub record Keeps (b : List ℕ) (s : SectionWords) : Type 0 where
  pub elf : IsElf b
  pub there : 0 < types_at b
  pub types : KeepsTypes (types_of b) s
  pub extension : AllHold (rules_of_extension b s.strings)

-- .BTF with its records in this order has no faults of its own
abbrev pub IsRewritten : List ℕ → SectionWords → Type 0
IsRewritten ids s = HoldsSections (btf_of s.order (section_of s.order (ordered ids s).frames) s.strings) (ordered ids s)
