-- What the check of .BTF says.
use Rattle.std.specs.Prelude.{◌≡◌, ◌+◌, ⊤}
use Rattle.bpf_elf.specs.Rules.{AllHold}
use Rattle.btf_raw.specs.declared.cause.BtfFault.{BtfFault}
use Rattle.btf_types.specs.{Denotes.HoldsSections, Faults.IsFirst, Sections.SectionWords}
use Rattle.bpf_object.specs.declared.fault.{ObjectError.ObjectError, ObjectFault.ObjectFault}
use Rattle.bpf_object.specs.declared.fault.ObjectCause.TheVariants as cause
use Rattle.bpf_object.specs.declared.fault.ObjectError.TheVariants as errors
use Rattle.bpf_object.specs.Faults.{IsFirstFault}
use Rattle.bpf_object.specs.Types.{TypesSection, size_rules, types_rules}

-- the section isn't too large, has no faults of its own, and keeps all further rules
pub record KeepsTypes (x : TypesSection) (s : SectionWords) : Type 0 where
  pub size : AllHold (size_rules x)
  pub sections : HoldsSections x.bytes s
  pub rules : AllHold (types_rules x s)

-- the fault is the first one of BTF, with the offset of the section added to its offset
pub record IsBtfFault (x : TypesSection) (fault : ObjectFault) : Type 0 where
  pub own : BtfFault
  pub first : IsFirst x.bytes own
  pub pos : fault.pos ≡ x.start + own.pos
  pub cause : fault.cause ≡ cause.Types own.cause

-- what an error of BTF says; nothing if memory ran out
abbrev pub FailsBtf : TypesSection → ObjectError → Type 0
FailsBtf x (errors.Fault fault) = IsBtfFault x fault
FailsBtf x errors.Memory = ⊤

-- the first fault is that of the size, then that of BTF, then that of the further rules
pub data IsTypesFault (x : TypesSection) (fault : ObjectFault) : Type 0 where
  of_size : IsFirstFault (size_rules x) fault → IsTypesFault x fault
  of_btf : AllHold (size_rules x) → IsBtfFault x fault → IsTypesFault x fault
  of_rules : (s : SectionWords) → AllHold (size_rules x) → HoldsSections x.bytes s → IsFirstFault (types_rules x s) fault → IsTypesFault x fault

-- what an error says; nothing if memory ran out
abbrev pub FailsTypes : TypesSection → ObjectError → Type 0
FailsTypes x (errors.Fault fault) = IsTypesFault x fault
FailsTypes x errors.Memory = ⊤
