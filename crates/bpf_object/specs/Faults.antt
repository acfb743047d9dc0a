-- The fault of an object file: the first rule that it breaks.
use Rattle.std.specs.Prelude.{◌≡◌, ⊤, List, Some, Result, MatchResult}
use Rattle.bpf_elf.specs.Rules.{Rule, broken, first_broken, AllHold}
use Rattle.bpf_object.specs.declared.fault.{ObjectCause.ObjectCause, ObjectError.ObjectError, ObjectFault.ObjectFault}
use Rattle.bpf_object.specs.declared.fault.ObjectError.TheVariants as errors

abbrev pub ObjectRule : Type 0
ObjectRule = Rule ObjectCause

-- the fault is the first of the rules that doesn't hold
abbrev pub IsFirstFault : List ObjectRule → ObjectFault → Type 0
IsFirstFault rules fault = first_broken rules ≡ Some (broken fault.cause fault.pos)

-- the rules were checked in sequence
abbrev pub Checks : {A : Type 0} → List ObjectRule → Result A ObjectFault → Type 0
Checks rules result = MatchResult result (λ _. AllHold rules) (IsFirstFault rules)

-- what an error of a check says; nothing if memory ran out
abbrev pub FailsRules : List ObjectRule → ObjectError → Type 0
FailsRules rules (errors.Fault fault) = IsFirstFault rules fault
FailsRules rules errors.Memory = ⊤
