-- The rules on .BTF.ext in steps: the header, the parts, functions and lines, the symbols of the file, and the access strings.
use Rattle.std.proofs.Common.{◌≡◌, Some, Result, Ok, Err, List, [], ◌++◌, sym, ◌∙◌, ap}
use Rattle.std.specs.Prelude.{MatchResult}
use Rattle.std.proofs.lemmas.List.{append_assoc}
use Rattle.bpf_elf.specs.Rules.{Broken, first_broken, AllHold}
use Rattle.bpf_elf.proofs.RuleLemmas.{stays_first, next_fault, both_hold, first_hold, rest_hold}
use Rattle.bpf_object.specs.declared.{fault.ObjectCause.ObjectCause, fault.ObjectError.ObjectError}
use Rattle.bpf_object.specs.declared.fault.ObjectError.TheVariants as errors
use Rattle.bpf_object.specs.declared.extension.Part.TheVariants.{Functions, Lines, Relocations}
use Rattle.bpf_object.specs.Faults.{ObjectRule, FailsRules}
use Rattle.bpf_object.specs.Extension.{Section, head_rules, part_rules, groups}
use Rattle.bpf_object.specs.Lines.{lines_part, pairs_rules, accesses_rules, section_rules, extension_rules}

-- ---- errors of checks in sequence

pub first_fails : (xs ys : List ObjectRule) (e : ObjectError) → FailsRules xs e → FailsRules (xs ++ ys) e
first_fails xs ys (errors.Fault f) h = stays_first xs ys _ h
first_fails xs ys errors.Memory h = h

pub then_fails : (xs ys : List ObjectRule) (e : ObjectError) → AllHold xs → FailsRules ys e → FailsRules (xs ++ ys) e
then_fails xs ys (errors.Fault f) hold h = next_fault xs ys _ hold h
then_fails xs ys errors.Memory hold h = h

-- ---- the section

abbrev pub parts_rules : Section → List ObjectRule
parts_rules s = part_rules s Functions ++ (part_rules s Lines ++ part_rules s Relocations)

abbrev pub all_pairs_rules : Section → List ObjectRule
all_pairs_rules s = pairs_rules s (lines_part s) [] (groups s Functions) (groups s (lines_part s))

regroup : {A : Type 0} (head a b c rest : List A) → head ++ (a ++ (b ++ (c ++ rest))) ≡ head ++ ((a ++ (b ++ c)) ++ rest)
regroup head a b c rest = ap (λ xs. head ++ xs) (sym (append_assoc a (b ++ c) rest ∙ ap (λ xs. a ++ xs) (append_assoc b c rest)))

in_steps : (s : Section) → section_rules s ≡ head_rules s ++ (parts_rules s ++ all_pairs_rules s)
in_steps s = regroup (head_rules s) (part_rules s Functions) (part_rules s Lines) (part_rules s Relocations) (all_pairs_rules s)

pub head_fault : (s : Section) (f : Broken ObjectCause) → first_broken (head_rules s) ≡ Some f → first_broken (section_rules s) ≡ Some f
head_fault s f h =
    ap first_broken (in_steps s) ∙ stays_first (head_rules s) (parts_rules s ++ all_pairs_rules s) f h

pub parts_fault : (s : Section) (f : Broken ObjectCause) → AllHold (head_rules s) → first_broken (parts_rules s) ≡ Some f
    → first_broken (section_rules s) ≡ Some f
parts_fault s f head h =
    ap first_broken (in_steps s)
    ∙ next_fault (head_rules s) (parts_rules s ++ all_pairs_rules s) f head (stays_first (parts_rules s) (all_pairs_rules s) f h)

pairs_fault : (s : Section) (f : Broken ObjectCause) → AllHold (head_rules s) → AllHold (parts_rules s) → first_broken (all_pairs_rules s) ≡ Some f
    → first_broken (section_rules s) ≡ Some f
pairs_fault s f head parts h =
    ap first_broken (in_steps s)
    ∙ next_fault (head_rules s) (parts_rules s ++ all_pairs_rules s) f head (next_fault (parts_rules s) (all_pairs_rules s) f parts h)

pub section_checked : {T : Type 0} (s : Section) (P : Type 0) (Q : T → Type 0) (r : Result T ObjectError) → AllHold (head_rules s) → AllHold (parts_rules s) → P
    → MatchResult r (λ v. AllHold (all_pairs_rules s) × Q v) (FailsRules (all_pairs_rules s))
    → MatchResult r (λ v. AllHold (section_rules s) × (P × Q v)) (FailsRules (section_rules s))
section_checked s P Q (Ok v) head parts known h =
    let all = both_hold (head_rules s) (parts_rules s ++ all_pairs_rules s) head (both_hold (parts_rules s) (all_pairs_rules s) parts h.0) in
    (ap first_broken (in_steps s) ∙ all, (known, h.1))
section_checked s P Q (Err (errors.Fault f)) head parts known h = pairs_fault s _ head parts h
section_checked s P Q (Err errors.Memory) head parts known h = h

-- ---- all rules

pub section_held : (s : Section) (symbols : List ObjectRule) → AllHold (extension_rules s symbols) → AllHold (section_rules s)
section_held s symbols h = first_hold (section_rules s) (symbols ++ accesses_rules s (groups s Relocations)) h

pub symbols_held : (s : Section) (symbols : List ObjectRule) → AllHold (extension_rules s symbols) → AllHold symbols
symbols_held s symbols h =
    first_hold symbols (accesses_rules s (groups s Relocations)) (rest_hold (section_rules s) (symbols ++ accesses_rules s (groups s Relocations)) h)
