-- Rules of a file: each has a cause, an offset, and whether it holds. The first one that doesn't hold is the fault of the file.
use Rattle.std.specs.Prelude.{◌≡◌, ℕ, zero, suc, ◌==◌, ◌&&◌, Bool, List, [], ◌∷◌, ◌++◌, Option, Some, None, if◌then◌else◌, Result, MatchResult}
use Rattle.bpf_elf.specs.declared.fault.{ElfCause.ElfCause, ElfFault.ElfFault}

-- a rule: what is wrong if it doesn't hold, and at which offset of the file
pub record Rule (C : Type 0) : Type 0 where
  pub cause : C
  pub pos : ℕ
  pub holds : Bool

abbrev pub rule : {C : Type 0} → C → ℕ → Bool → Rule C
rule cause pos holds = record { cause = cause; pos = pos; holds = holds }

-- the offset of a broken rule
pub record Broken (C : Type 0) : Type 0 where
  pub cause : C
  pub pos : ℕ

abbrev pub broken : {C : Type 0} → C → ℕ → Broken C
broken cause pos = record { cause = cause; pos = pos }

-- the first rule of a list that doesn't hold
abbrev pub first_broken : {C : Type 0} → List (Rule C) → Option (Broken C)
first_broken [] = None
first_broken (r ∷ rs) = if r.holds then first_broken rs else Some (broken r.cause r.pos)

-- all of the rules hold
abbrev pub AllHold : {C : Type 0} → List (Rule C) → Type 0
AllHold rules = first_broken rules ≡ None

-- the rules of the first n of a sequence
abbrev pub each : {C : Type 0} → ℕ → (ℕ → List (Rule C)) → List (Rule C)
each zero rules = []
each (suc n) rules = each n rules ++ rules n

-- the first of n numbers that passes a test, which 0 doesn't pass; 0 if none does
abbrev pub first_of : ℕ → (ℕ → Bool) → ℕ
first_of zero test = 0
first_of (suc n) test = if 0 == first_of n test && test n then n else first_of n test

-- ---- rules of ELF

abbrev pub ElfRule : Type 0
ElfRule = Rule ElfCause

-- the fault is the first of the rules that doesn't hold
abbrev pub IsFirstFault : List ElfRule → ElfFault → Type 0
IsFirstFault rules fault = first_broken rules ≡ Some (broken fault.cause fault.pos)

-- the rules were checked in sequence
abbrev pub Checks : {A : Type 0} → List ElfRule → Result A ElfFault → Type 0
Checks rules result = MatchResult result (λ _. AllHold rules) (IsFirstFault rules)
