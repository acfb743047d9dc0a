-- The object that a file denotes.
use Rattle.std.specs.Prelude.{◌≡◌, ℕ, ◌+◌, ◌*◌, ◌<◌, ◌==◌, ◌&&◌, min, nat_le, Bool, true, List, [], ◌∷◌, Option, Some, None, length, if◌then◌else◌}
use Rattle.bpf_words.specs.declared.Order.{Order}
use Rattle.bpf_elf.specs.declared.kinds.Kind.TheVariants.{Types, Extension}
use Rattle.bpf_elf.specs.{Rules.rule, Rules.AllHold, ElfRules.IsElf, Header.FILE_LIMIT}
use Rattle.bpf_elf.specs.Numbers.{order_of, flags_of, count, header_offset, offset}
use Rattle.bpf_elf.specs.Sections.{content, section_of}
use Rattle.btf_types.specs.Sections.{SectionWords, records_in}
use Rattle.bpf_object.specs.declared.fault.ObjectCause.TheVariants as cause
use Rattle.bpf_object.specs.Canonical.{btf_bytes, canonical}
use Rattle.bpf_object.specs.Extension.{Section}
use Rattle.bpf_object.specs.{Faults.ObjectRule, FunctionLines.functions_rules}
use Rattle.bpf_object.specs.Groups.{function_groups, relocation_groups}
use Rattle.bpf_object.specs.Kept.{kept_sections, kept_symbols}
use Rattle.bpf_object.specs.Lines.{extension_rules}
use Rattle.bpf_object.specs.Objects.{ObjectTypes, Object}
use Rattle.bpf_object.specs.{Types.TypesSection, TypesFaults.KeepsTypes}
use Rattle.bpf_object.specs.TypeOrder.{new_number, IsOrder, ordered}

-- which sections are .BTF and .BTF.ext; 0 if there is none
abbrev pub types_at : List ℕ → ℕ
types_at b = section_of b Types (count b)

abbrev pub extension_at : List ℕ → ℕ
extension_at b = section_of b Extension (count b)

-- .BTF of a file
abbrev pub types_of : List ℕ → TypesSection
types_of b = record { order = order_of b; header_offset = header_offset b (types_at b); start = offset b (types_at b); bytes = content b (types_at b) }

-- .BTF.ext of a file, with these strings of .BTF; it is empty if there is none
abbrev pub extension_of : List ℕ → List ℕ → Section
extension_of b strings = record {
  order = order_of b;
  start = offset b (extension_at b);
  bytes = if extension_at b == 0 then [] else content b (extension_at b);
  strings = strings;
}

-- the rules on it, if there is one
abbrev pub rules_of_extension : List ℕ → List ℕ → List ObjectRule
rules_of_extension b strings =
    if extension_at b == 0 then [] else extension_rules (extension_of b strings) (functions_rules b (extension_of b strings))

-- and without .BTF there is none: this is reported at its section header
abbrev pub without_types_rules : List ℕ → List ObjectRule
without_types_rules b = rule cause.ExtensionWithoutTypes (header_offset b (extension_at b)) (extension_at b == 0) ∷ []

-- the types, and what .BTF.ext says with their strings, with new numbers of types
abbrev pub object_types : (ℕ → ℕ) → SectionWords → Section → ObjectTypes
object_types new s x = record { records = records_in s; functions = function_groups new x; relocations = relocation_groups new x }

-- .BTF and .BTF.ext keep all rules, and hold these types; the records are in the order of a canonical file
pub record HoldsTypes (b : List ℕ) (t : ObjectTypes) : Type 0 where
  pub sections : SectionWords
  pub there : 0 < types_at b
  pub types : KeepsTypes (types_of b) sections
  pub extension : AllHold (rules_of_extension b sections.strings)
  pub ids : List ℕ
  pub sorted : IsOrder sections ids
  pub whole : t ≡ object_types (new_number ids) (ordered ids sections) (extension_of b sections.strings)

abbrev pub TypesAre : List ℕ → Option ObjectTypes → Type 0
TypesAre b None = (types_at b ≡ 0) × AllHold (without_types_rules b)
TypesAre b (Some t) = HoldsTypes b t

-- the object of a file with these types
abbrev pub object_of : List ℕ → Option ObjectTypes → Object
object_of b types = record {
  order = order_of b;
  flags = flags_of b;
  sections = kept_sections b;
  symbols = kept_symbols b;
  types = types;
}

-- .BTF of the canonical file isn't larger than that of a file may be
abbrev pub btf_fits : Order → ObjectTypes → Bool
btf_fits o t = nat_le (length (btf_bytes o t)) 15728640

abbrev pub types_fit : Object → Bool
types_fit x = elim x.types [ None ↦ true | Some t ↦ btf_fits x.order t ]

-- the most bytes of the canonical file of a file of n bytes: names may share bytes in the file, and don't in the canonical one
abbrev pub result_limit : ℕ → ℕ
result_limit n = min FILE_LIMIT (4 * n + 65536)

-- the canonical file of a file of n bytes isn't larger
abbrev pub is_small : ℕ → Object → Bool
is_small n x = types_fit x && nat_le (length (canonical x)) (result_limit n)

-- the file keeps all rules, and this is its object
pub record Denotes (b : List ℕ) (x : Object) : Type 0 where
  pub elf : IsElf b
  pub types : TypesAre b x.types
  pub whole : x ≡ object_of b x.types
  pub small : is_small (length b) x ≡ true

-- the bytes are the canonical file of the object that the file denotes
abbrev pub IsCanonicalFile : List ℕ → List ℕ → Type 0
IsCanonicalFile b out = (x : Object) × (Denotes b x × (out ≡ canonical x))
