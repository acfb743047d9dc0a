-- Which fault an object file has: the first rule that it breaks, by phases in the sequence in which they are checked.
use Rattle.std.specs.Prelude.{◌≡◌, ℕ, ◌<◌, Bool, false, ⊤, List, Option, length}
use Rattle.bpf_elf.specs.declared.fault.ElfFault.{ElfFault}
use Rattle.bpf_elf.specs.{Rules.IsFirstFault as IsFirstElfFault, ElfRules.IsElf, ElfRules.elf_rules}
use Rattle.btf_types.specs.Sections.{SectionWords}
use Rattle.bpf_object.specs.declared.fault.{ObjectError.ObjectError, ObjectFault.ObjectFault}
use Rattle.bpf_object.specs.declared.fault.ObjectCause.TheVariants as cause
use Rattle.bpf_object.specs.declared.fault.ObjectError.TheVariants as errors
use Rattle.bpf_object.specs.Denotes.{types_at, types_of, rules_of_extension, without_types_rules, TypesAre, object_of, is_small}
use Rattle.bpf_object.specs.Faults.{IsFirstFault}
use Rattle.bpf_object.specs.Objects.{ObjectTypes}
use Rattle.bpf_object.specs.TypesFaults.{KeepsTypes, IsTypesFault}

-- the fault is the first one of the ELF file, at the same offset
pub record IsElfFault (b : List ℕ) (fault : ObjectFault) : Type 0 where
  pub own : ElfFault
  pub first : IsFirstElfFault (elf_rules b) own
  pub pos : fault.pos ≡ own.pos
  pub cause : fault.cause ≡ cause.Elf own.cause

-- there is no .BTF, and there is a .BTF.ext
pub record IsWithoutTypesFault (b : List ℕ) (fault : ObjectFault) : Type 0 where
  pub elf : IsElf b
  pub no_types : types_at b ≡ 0
  pub first : IsFirstFault (without_types_rules b) fault

-- there is a .BTF, and this is its fault
pub record IsFaultOfTypes (b : List ℕ) (fault : ObjectFault) : Type 0 where
  pub elf : IsElf b
  pub there : 0 < types_at b
  pub first : IsTypesFault (types_of b) fault

-- .BTF has no fault, and with its strings this is the fault of .BTF.ext
pub record IsFaultOfExtension (b : List ℕ) (fault : ObjectFault) : Type 0 where
  pub sections : SectionWords
  pub elf : IsElf b
  pub there : 0 < types_at b
  pub types : KeepsTypes (types_of b) sections
  pub first : IsFirstFault (rules_of_extension b sections.strings) fault

-- the fault of an object that isn't small
pub record IsTooLarge (fault : ObjectFault) : Type 0 where
  pub pos : fault.pos ≡ 0
  pub cause : fault.cause ≡ cause.ResultTooLarge

-- the file keeps all of these rules, and its object isn't small
pub record IsFaultOfResult (b : List ℕ) (fault : ObjectFault) : Type 0 where
  pub held : Option ObjectTypes
  pub elf : IsElf b
  pub types : TypesAre b held
  pub large : is_small (length b) (object_of b held) ≡ false
  pub result : IsTooLarge fault

-- each phase is reached only if there is no fault of an earlier one
pub data IsFault (b : List ℕ) (fault : ObjectFault) : Type 0 where
  of_elf : IsElfFault b fault → IsFault b fault
  without_types : IsWithoutTypesFault b fault → IsFault b fault
  of_types : IsFaultOfTypes b fault → IsFault b fault
  of_extension : IsFaultOfExtension b fault → IsFault b fault
  of_result : IsFaultOfResult b fault → IsFault b fault

-- what an error says; nothing if memory ran out
abbrev pub Fails : List ℕ → ObjectError → Type 0
Fails b (errors.Fault fault) = IsFault b fault
Fails b errors.Memory = ⊤

-- what an error says of whether the file that is to be written fits
abbrev pub FailsToFit : Bool → ObjectError → Type 0
FailsToFit fits (errors.Fault fault) = (fits ≡ false) × IsTooLarge fault
FailsToFit fits errors.Memory = ⊤
