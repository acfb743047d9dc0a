-- Where the records of .BTF are in the file.
use Rattle.std.proofs.Common.{◌≡◌, ℕ, zero, suc, ◌+◌, ◌-◌, ◌*◌, ◌^◌, ◌<◌, ◌≤◌, Some, List, [], ◌∷◌, length, get_or, take, refl, length-append, add-one, arith}
use Rattle.std.specs.{Prelude.slice_get, List.All, List.concat}
use Rattle.bpf_elf.specs.Rules.{AllHold}
use Rattle.std.proofs.lemmas.Option.{slice_get_within, get_or_from_slice_get}
use Rattle.std.proofs.lemmas.List.Elements.{All-head, All-tail}
use Rattle.btf_raw.specs.Frames.{IsFrame}
use Rattle.btf_types.specs.{Denotes.HoldsSections, Sections.SectionWords}
use Rattle.btf_types.proofs.CheckLemmas.SectionSteps.{length-section}
use Rattle.bpf_object.specs.declared.fault.ObjectError.{ObjectError}
use Rattle.bpf_object.specs.declared.fault.ObjectError.TheVariants as errors
use Rattle.bpf_object.specs.{Faults.FailsRules, TypesFaults.FailsTypes, TypesFaults.of_rules}
use Rattle.bpf_object.specs.Types.{TypesSection, size_rules, record_offset, record_rules, rules_of, types_rules}

words_to : (fs : List (List ℕ)) (k : ℕ) → k < length fs → length (concat (take (suc k) fs)) ≡ length (concat (take k fs)) + length (get_or fs k [])
words_to [] k lt = absurd (omega (arith, lt))
words_to (f ∷ fs) zero lt = omega (arith, length-append f [])
words_to (f ∷ fs) (suc k) lt =
    omega (arith, length-append f (concat (take (suc k) fs)), length-append f (concat (take k fs)), words_to fs k (omega (arith, lt)))

words_within : (fs : List (List ℕ)) (k : ℕ) → length (concat (take k fs)) ≤ length (concat fs)
words_within fs zero = omega arith
words_within [] (suc k) = omega arith
words_within (f ∷ fs) (suc k) = omega (arith, length-append f (concat (take k fs)), length-append f (concat fs), words_within fs k)

-- a record among others: how many fields there are before the one after it
pub record IsRecordAt (fs : List (List ℕ)) (k : ℕ) (f : List ℕ) : Type 0 where
  pub there : k < length fs
  pub is : get_or fs k [] ≡ f
  pub next : length (concat (take (k + 1) fs)) ≡ length (concat (take k fs)) + length f
  pub within : length (concat (take k fs)) + length f ≤ length (concat fs)

pub record_at : (fs : List (List ℕ)) (k : ℕ) (f : List ℕ) → slice_get fs k ≡ Some f → IsRecordAt fs k f
record_at fs k f found =
    let there = slice_get_within fs k f found in
    let is = get_or_from_slice_get fs k f [] found in
    let next : length (concat (take (suc k) fs)) ≡ length (concat (take k fs)) + length f = rw is at (words_to fs k there) in
    record { there = there; is = is; next = rw add-one next; within = omega (arith, next, words_within fs (suc k)) }

pub numbered_record : (fs : List (List ℕ)) (k : ℕ) (f : List ℕ) → slice_get fs (k + 1 - 1) ≡ Some f → IsRecordAt fs k f
numbered_record fs k f found = let at : k + 1 - 1 ≡ k = omega arith in record_at fs k f (rw at at found)

pub same_rules : (first : ℕ) (s : SectionWords) (k : ℕ) (strings : List ℕ) (pos : ℕ) (f : List ℕ) → strings ≡ s.strings → pos ≡ record_offset first s k → get_or s.frames k [] ≡ f
    → rules_of first s k ≡ record_rules strings pos f
same_rules first s k strings pos f of at is = rw (of, at, is) refl

-- the records aren't larger than the types of a file may be
pub few_words : (b : List ℕ) (s : SectionWords) → HoldsSections b s → 4 * length (concat s.frames) ≤ 33554432
few_words b s held = omega (arith, length-section s.order s.frames, held.cut.types_fit)

words_of_records : (fs : List (List ℕ)) → All IsFrame fs → 3 * length fs ≤ length (concat fs)
words_of_records [] each = omega arith
words_of_records (f ∷ fs) each =
    omega (arith, (All-head IsFrame f fs each).size, length-append f (concat fs), words_of_records fs (All-tail IsFrame f fs each))

pub few_records : (b : List ℕ) (s : SectionWords) → HoldsSections b s → length s.frames < 2 ^ 24
few_records b s held = omega (arith, words_of_records s.frames held.each, few_words b s held)

-- what an error of the further rules says
pub rules_fail : (x : TypesSection) (s : SectionWords) (e : ObjectError) → AllHold (size_rules x) → HoldsSections x.bytes s → FailsRules (types_rules x s) e → FailsTypes x e
rules_fail x s (errors.Fault fault) size held first = of_rules s size held first
rules_fail x s errors.Memory size held first = tt
