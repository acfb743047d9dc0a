-- Rules of groups that are checked one after the other.
use Rattle.std.proofs.Common.{◌≡◌, ℕ, ◌+◌, Option, Some, None, List, [], ◌∷◌, ◌++◌, refl, sym, subst}
use Rattle.std.specs.Prelude.{Result, Ok, Err, MatchResult, not}
use Rattle.bpf_elf.specs.Rules.{Broken, broken, rule, first_broken, AllHold, each}
use Rattle.bpf_elf.proofs.RuleLemmas.{stays_first, after_holding, both_hold, next_fault}
use Rattle.bpf_object.specs.declared.{fault.ObjectCause.ObjectCause, fault.ObjectError.ObjectError, fault.ObjectFault.ObjectFault}
use Rattle.bpf_object.specs.declared.fault.ObjectCause.TheVariants as cause
use Rattle.bpf_object.specs.declared.fault.ObjectError.TheVariants as errors
use Rattle.bpf_object.specs.declared.extension.Part.{Part, TheVariants.Functions, TheVariants.Relocations}
use Rattle.bpf_object.specs.Faults.{ObjectRule, Checks, FailsRules}
use Rattle.bpf_object.specs.Extension.{Section, part_end, group_count}
use Rattle.bpf_object.specs.Lines.{name_of, is_among, is_pair, pairs_rules, access_rules, accesses_rules}
use Rattle.bpf_object.specs.private.Cursors.{rest_of}
use Rattle.bpf_object.proofs.GroupLemmas.{later}

-- rules with the same first fault are checked alike
pub same_checks : {A : Type 0} (xs ys : List ObjectRule) (result : Result A ObjectFault) → first_broken xs ≡ first_broken ys → Checks ys result → Checks xs result
same_checks xs ys result same checks =
    subst (λ (o : Option (Broken ObjectCause)). MatchResult result (λ _. o ≡ None) (λ f. o ≡ Some (broken f.cause f.pos))) (sym same) checks

pub then_checks : {A : Type 0} (xs ys : List ObjectRule) (result : Result A ObjectFault) → AllHold xs → Checks ys result → Checks (xs ++ ys) result
then_checks xs ys result h checks = same_checks (xs ++ ys) ys result (after_holding xs ys h) checks

-- the same where memory may run out
pub then_fails : {A : Type 0} (xs ys : List ObjectRule) (result : Result A ObjectError) → AllHold xs → MatchResult result (λ _. AllHold ys) (FailsRules ys)
    → MatchResult result (λ _. AllHold (xs ++ ys)) (FailsRules (xs ++ ys))
then_fails xs ys (Ok a) h k = both_hold xs ys h k
then_fails xs ys (Err (errors.Fault fault)) h k = next_fault xs ys (broken fault.cause fault.pos) h k
then_fails xs ys (Err errors.Memory) h k = tt

-- ---- CO-RE relocations

accesses : Section → Option ℕ → Option (Broken ObjectCause)
accesses s o = first_broken (accesses_rules s (rest_of s Relocations o))

pub accesses_fault : (s : Section) (o : Option ℕ) (g : ℕ) (f : Broken ObjectCause) → o ≡ Some g → first_broken (each (group_count s g) (access_rules s g)) ≡ Some f
    → first_broken (accesses_rules s (rest_of s Relocations o)) ≡ Some f
unfolding accesses
accesses_fault s o g f is h =
    let here : accesses s (Some g) ≡ Some f = stays_first (each (group_count s g) (access_rules s g)) _ f h in
    subst (λ (o : Option ℕ). accesses s o ≡ Some f) (sym is) here

pub accesses_after : (s : Section) (o : Option ℕ) (g : ℕ) (next : Option ℕ) → o ≡ Some g
    → rest_of s Relocations (Some g) ≡ g ∷ rest_of s Relocations next → AllHold (each (group_count s g) (access_rules s g))
    → first_broken (accesses_rules s (rest_of s Relocations o)) ≡ first_broken (accesses_rules s (rest_of s Relocations next))
unfolding accesses
accesses_after s o g next is step h =
    let split : first_broken (accesses_rules s (g ∷ rest_of s Relocations next)) ≡ accesses s next =
    after_holding (each (group_count s g) (access_rules s g)) (accesses_rules s (rest_of s Relocations next)) h in
    let here : accesses s (Some g) ≡ accesses s next =
    subst (λ (gs : List ℕ). first_broken (accesses_rules s gs) ≡ accesses s next) (sym step) split in
    subst (λ (o : Option ℕ). accesses s o ≡ accesses s next) (sym is) here

-- ---- functions and lines

-- the rules on groups at the same index
abbrev pub pair_rules : Section → Part → List (List ℕ) → ℕ → ℕ → List ObjectRule
pair_rules s p earlier f l =
    rule cause.ExtensionLines (s.start + f) (is_pair s p f l) ∷ rule cause.ExtensionGroupTwice (s.start + f) (not (is_among earlier (name_of s f))) ∷ []

pub pairs_at : (s : Section) (p : Part) (earlier : List (List ℕ)) (fs ls : Option ℕ) (f l : Option ℕ) → fs ≡ f → ls ≡ l
    → first_broken (pairs_rules s p earlier (rest_of s Functions fs) (rest_of s p ls)) ≡ first_broken (pairs_rules s p earlier (rest_of s Functions f) (rest_of s p l))
pairs_at s p earlier fs ls f l there here = rw (there, here) refl

pub pairs_fault : (s : Section) (p : Part) (earlier : List (List ℕ)) (f l : ℕ) (fault : Broken ObjectCause) → first_broken (pair_rules s p earlier f l) ≡ Some fault
    → first_broken (pairs_rules s p earlier (rest_of s Functions (Some f)) (rest_of s p (Some l))) ≡ Some fault
unfolding later
pairs_fault s p earlier f l fault h =
    let after = pairs_rules s p (earlier ++ name_of s f ∷ []) (later s Functions f (part_end s Functions)) (later s p l (part_end s p)) in
    stays_first (pair_rules s p earlier f l) after fault h

pub pairs_after : (s : Section) (p : Part) (earlier : List (List ℕ)) (f l : ℕ) (fs ls : Option ℕ) → rest_of s Functions (Some f) ≡ f ∷ rest_of s Functions fs
    → rest_of s p (Some l) ≡ l ∷ rest_of s p ls → AllHold (pair_rules s p earlier f l)
    → first_broken (pairs_rules s p earlier (rest_of s Functions (Some f)) (rest_of s p (Some l)))
    ≡ first_broken (pairs_rules s p (earlier ++ name_of s f ∷ []) (rest_of s Functions fs) (rest_of s p ls))
pairs_after s p earlier f l fs ls functions lines h =
    let next = pairs_rules s p (earlier ++ name_of s f ∷ []) (rest_of s Functions fs) (rest_of s p ls) in
    let split : first_broken (pairs_rules s p earlier (f ∷ rest_of s Functions fs) (l ∷ rest_of s p ls)) ≡ first_broken next =
    after_holding (pair_rules s p earlier f l) next h in
    let here : first_broken (pairs_rules s p earlier (rest_of s Functions (Some f)) (l ∷ rest_of s p ls)) ≡ first_broken next =
    subst (λ (gs : List ℕ). first_broken (pairs_rules s p earlier gs (l ∷ rest_of s p ls)) ≡ first_broken next) (sym functions) split in
    subst (λ (gs : List ℕ). first_broken (pairs_rules s p earlier (rest_of s Functions (Some f)) gs) ≡ first_broken next) (sym lines) here
