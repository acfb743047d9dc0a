-- A file denotes at most one object, and one that denotes an object has no fault.
use Rattle.std.proofs.Common.{◌≡◌, ℕ, zero, suc, ◌<◌, ◌≤◌, ◌&&◌, min, Bool, true, false, lit<, Result, Ok, Err, Option, Some, None, List, [], ◌∷◌, ◌++◌, length, take, drop, inl, inr, refl, sym, ◌∙◌, ap, subst, arith}
use Rattle.std.proofs.lemmas.Bool.{cases_lt, Decides.nat_tests}
use Rattle.std.specs.Prelude.{MatchResult, ◌==◌, if◌then◌else◌}
use Rattle.bpf_words.specs.{Words.IsBytes, declared.Order.Order}
use Rattle.bpf_elf.specs.{ElfRules.IsElf, Rules.Broken, Rules.broken, Rules.first_broken, Rules.AllHold}
use Rattle.bpf_elf.specs.Numbers.{order_of, offset}
use Rattle.bpf_elf.specs.Sections.{file_size}
use Rattle.btf_types.specs.{Sections.SectionWords, Sections.records_in}
use Rattle.btf_types.proofs.{CheckLemmas.FaultLaws.no_fault_is_accepted}
use Rattle.bpf_object.specs.declared.fault.{ObjectError.ObjectError, ObjectFault.ObjectFault}
use Rattle.bpf_object.specs.declared.extension.Part.TheVariants.{Relocations}
use Rattle.bpf_object.specs.declared.fault.ObjectError.TheVariants as errors
use Rattle.bpf_object.specs.Canonical.{btf_bytes, canonical}
use Rattle.bpf_object.specs.Denotes.{Denotes, HoldsTypes, TypesAre, types_at, types_of, extension_at, rules_of_extension, object_types, object_of, extension_of, btf_fits, types_fit, result_limit, is_small, IsCanonicalFile}
use Rattle.bpf_object.specs.private.ObjectWriter.{AreContents, fits}
use Rattle.bpf_object.specs.private.Written.{btf_content, extension_content}
use Rattle.bpf_object.specs.{Extension.Section, Extension.groups, Faults.IsFirstFault, Faults.FailsRules, Faults.ObjectRule, FunctionLines.functions_rules}
use Rattle.bpf_object.specs.Lines.{accesses_rules, section_rules, extension_rules}
use Rattle.bpf_object.specs.ObjectFaults.{IsFault, of_elf, without_types, of_types, of_extension, of_result, IsWithoutTypesFault, IsFaultOfTypes, IsFaultOfExtension, IsFaultOfResult, IsTooLarge, Fails, FailsToFit}
use Rattle.bpf_object.specs.Objects.{ObjectTypes, Object}
use Rattle.bpf_object.specs.TypeOrder.{new_number, IsOrder, ordered}
use Rattle.bpf_object.specs.private.{TypeSteps.numbered, TypeSteps.renewed_frames, TypeSteps.AreNumbered, OrderedTypes.Keeps, WrittenRecords.renewed}
use Rattle.bpf_object.specs.declared.source.Source.{Source}
use Rattle.bpf_object.specs.{Sources.section, Sources.HasParts, private.WrittenTypes.IsRead, private.WrittenTypes.AreTooLong}
use Rattle.bpf_object.specs.Types.{TypesSection}
use Rattle.bpf_object.specs.TypesFaults.{KeepsTypes, IsTypesFault, FailsTypes, of_size, of_btf, of_rules}
use Rattle.bpf_elf.proofs.RuleLemmas.{both_hold}
use Rattle.bpf_object.proofs.{ExtensionLemmas.first_fails, ExtensionLemmas.then_fails, InsideLemmas.accesses_inside}
use Rattle.bpf_object.proofs.DenotesOne.{words_one, types_one, denotes_one}
use Rattle.bpf_object.proofs.WrittenObject.{types_too_long, extension_too_long}
use Rattle.bpf_object.proofs.ReadBackTests.{over_test}

-- ---- no fault

broken_none : {C : Type 0} (found : Option (Broken C)) (f : Broken C) → found ≡ Some f → found ≡ None → ⊥
broken_none found f is none = cc

bytes_take : (n : ℕ) (b : List ℕ) → IsBytes b → IsBytes (take n b)
bytes_take zero b bytes i = lit< tt
bytes_take (suc n) [] bytes i = lit< tt
bytes_take (suc n) (x ∷ b) bytes zero = bytes zero
bytes_take (suc n) (x ∷ b) bytes (suc i) = bytes_take n b (λ k. bytes (suc k)) i

bytes_drop : (n : ℕ) (b : List ℕ) → IsBytes b → IsBytes (drop n b)
bytes_drop zero b bytes i = bytes i
bytes_drop (suc n) [] bytes i = lit< tt
bytes_drop (suc n) (x ∷ b) bytes i = bytes_drop n b (λ k. bytes (suc k)) i

types_faultless : (x : TypesSection) (s : SectionWords) (fault : ObjectFault) → IsBytes x.bytes → KeepsTypes x s → IsTypesFault x fault → ⊥
types_faultless x s fault bytes keeps (of_size first) = broken_none _ _ first keeps.size
types_faultless x s fault bytes keeps (of_btf size own) =
    (no_fault_is_accepted x.bytes bytes).back (records_in s, keeps.sections.denotes) own.first.phase own.own.pos own.own.cause own.first.holds
types_faultless x s fault bytes keeps (of_rules w size sections first) =
    broken_none _ _ (rw (words_one x.bytes w s sections keeps.sections) at first) keeps.rules

types_are_faultless : (b : List ℕ) (t : Option ObjectTypes) (fault : ObjectFault) → IsBytes b → TypesAre b t → IsFaultOfTypes b fault → ⊥
types_are_faultless b None fault bytes types f = omega (arith, types.0, f.there)
types_are_faultless b (Some t) fault bytes types f =
    let at = types_at b in
    types_faultless (types_of b) types.sections fault (bytes_take (file_size b at) (drop (offset b at) b) (bytes_drop (offset b at) b bytes)) types.types f.first

bare_is_faultless : (b : List ℕ) (t : Option ObjectTypes) (fault : ObjectFault) → TypesAre b t → IsWithoutTypesFault b fault → ⊥
bare_is_faultless b None fault types f = broken_none _ _ f.first types.1
bare_is_faultless b (Some t) fault types f = omega (arith, types.there, f.no_types)

extension_is_faultless : (b : List ℕ) (t : Option ObjectTypes) (fault : ObjectFault) → TypesAre b t → IsFaultOfExtension b fault → ⊥
extension_is_faultless b None fault types f = omega (arith, types.0, f.there)
extension_is_faultless b (Some t) fault types f =
    let words = words_one (types_of b).bytes f.sections types.sections f.types.sections types.types.sections in
    let there = subst (λ (s : SectionWords). IsFirstFault (rules_of_extension b s.strings) fault) words f.first in
    broken_none (first_broken (rules_of_extension b types.sections.strings)) (broken fault.cause fault.pos) there types.extension

different : true ≡ false → ⊥
different e = cc

result_is_small : (b : List ℕ) (x : Object) (fault : ObjectFault) → Denotes b x → IsFaultOfResult b fault → ⊥
result_is_small b x fault d f =
    let same : object_of b f.held ≡ x = ap (object_of b) (types_one b f.held x.types f.types d.types) ∙ sym d.whole in
    different (sym d.small ∙ ap (is_small (length b)) (sym same) ∙ f.large)

pub faultless : (b : List ℕ) (x : Object) (fault : ObjectFault) → IsBytes b → Denotes b x → IsFault b fault → ⊥
faultless b x fault bytes d (of_elf f) = broken_none _ _ f.first d.elf
faultless b x fault bytes d (without_types f) = bare_is_faultless b x.types fault d.types f
faultless b x fault bytes d (of_types f) = types_are_faultless b x.types fault bytes d.types f
faultless b x fault bytes d (of_extension f) = extension_is_faultless b x.types fault d.types f
faultless b x fault bytes d (of_result f) = result_is_small b x fault d f

pub fails_no_object : (b : List ℕ) (e : ObjectError) (x : Object) → IsBytes b → Denotes b x → Fails b e → e ≡ errors.Memory
fails_no_object b (errors.Fault f) x bytes d fails = absurd (faultless b x f bytes d fails)
fails_no_object b errors.Memory x bytes d fails = refl

-- an answer to a file that denotes an object is the canonical file of this object, unless memory ran out
pub answers_object : {T : Type 0} (items : T → List ℕ) (b : List ℕ) (x : Object) (r : Result T ObjectError) → IsBytes b → Denotes b x
    → MatchResult r (λ canon. IsCanonicalFile b (items canon)) (Fails b) → MatchResult r (λ canon. items canon ≡ canonical x) (λ e. e ≡ errors.Memory)
answers_object items b x (Ok canon) bytes d made = made.1.1 ∙ ap canonical (denotes_one b made.0 x made.1.0 d)
answers_object items b x (Err e) bytes d fails = fails_no_object b e x bytes d fails

-- ---- .BTF.ext

no_zero : (n : ℕ) → 0 < n → (n == 0) ≡ false
no_zero zero some = absurd (omega (arith, some))
no_zero (suc n) some = grind (arith, nat_tests)

chosen : {A : Type 0} (x : Bool) (a d : A) → x ≡ false → (if x then a else d) ≡ d
chosen true a d off = absurd (different off)
chosen false a d off = refl

-- the rules on a .BTF.ext that is there
pub own_rules : (b : List ℕ) (x : Source) (at : ℕ) → at ≡ extension_at b → 0 < at → section x ≡ extension_of b x.strings.now
    → extension_rules (section x) (functions_rules b (section x)) ≡ rules_of_extension b x.strings.now
own_rules b x at found some own =
    let there : (extension_at b == 0) ≡ false = no_zero (extension_at b) (omega (arith, some, found)) in
    let rules = λ (s : Section). extension_rules s (functions_rules b s) in
    ap rules own ∙ sym (chosen (extension_at b == 0) [] (rules (extension_of b x.strings.now)) there)

-- what the checks of its rules in sequence say
module _ (b : List ℕ) (x : Source) (at : ℕ) (found : at ≡ extension_at b) (some : 0 < at) (own : section x ≡ extension_of b x.strings.now) where
  abbrev symbols : List ObjectRule
  symbols = functions_rules b (section x)

  abbrev accesses : List ObjectRule
  accesses = accesses_rules (section x) (groups (section x) Relocations)

  own_fails : (e : ObjectError) → FailsRules (section_rules (section x) ++ (symbols ++ accesses)) e → FailsRules (rules_of_extension b x.strings.now) e
  own_fails e h = subst (λ (rules : List ObjectRule). FailsRules rules e) (own_rules b x at found some own) h

  pub section_fails : (e : ObjectError) → FailsRules (section_rules (section x)) e → FailsRules (rules_of_extension b x.strings.now) e
  section_fails e h = own_fails e (first_fails (section_rules (section x)) (symbols ++ accesses) e h)

  pub symbols_fail : (e : ObjectError) → AllHold (section_rules (section x)) → FailsRules symbols e → FailsRules (rules_of_extension b x.strings.now) e
  symbols_fail e hold h = own_fails e (then_fails (section_rules (section x)) (symbols ++ accesses) e hold (first_fails symbols accesses e h))

  pub accesses_fail : (f : ObjectFault) → AllHold (section_rules (section x)) → AllHold symbols → IsFirstFault accesses f → IsFirstFault (rules_of_extension b x.strings.now) f
  accesses_fail f hold held h = own_fails (errors.Fault f) (then_fails (section_rules (section x)) (symbols ++ accesses) (errors.Fault f) hold (then_fails symbols accesses (errors.Fault f) held h))

  pub source_read : AllHold (section_rules (section x)) → HasParts x → AllHold symbols → AllHold accesses → AllHold (rules_of_extension b x.strings.now) × IsRead x
  source_read hold parts held last = (
    subst AllHold (own_rules b x at found some own) (both_hold (section_rules (section x)) (symbols ++ accesses) hold (both_hold symbols accesses held last)),
    inr (record { parts = parts; inside = accesses_inside x (groups (section x) Relocations) parts.relocations.groups last }),
  )

pub extension_fails : (b : List ℕ) (s : SectionWords) (e : ObjectError) → IsElf b → 0 < types_at b → KeepsTypes (types_of b) s → FailsRules (rules_of_extension b s.strings) e
    → Fails b e
extension_fails b s (errors.Fault f) elf there types first = of_extension (record { sections = s; elf = elf; there = there; types = types; first = first })
extension_fails b s errors.Memory elf there types first = first

-- ---- what is written

no_fit : (x y : Bool) → y ≡ false → (x && y) ≡ false
no_fit true y over = over
no_fit false y over = refl

least_passed : (a b n : ℕ) → min a b < n → n ≤ a → b < n
least_passed a b n lt le = omega (arith, lt, le)

file_made : (b : List ℕ) (t : Option ObjectTypes) (out : List ℕ) → IsElf b → TypesAre b t → types_fit (object_of b t) ≡ true → fits b t ≡ true
    → out ≡ canonical (object_of b t) → IsCanonicalFile b out
file_made b t out elf types small fit is =
    let both : (types_fit (object_of b t) && fits b t) ≡ true = rw (small, fit) refl in
    (object_of b t, (record { elf = elf; types = types; whole = refl; small = both }, is))

large_file : (b : List ℕ) (t : Option ObjectTypes) (f : ObjectFault) → IsElf b → TypesAre b t → fits b t ≡ false → IsTooLarge f → IsFault b f
large_file b t f elf types over is = of_result (record { held = t; elf = elf; types = types; large = no_fit (types_fit (object_of b t)) _ over; result = is })

-- the canonical file with these types, or that it is too large
abbrev pub FitsFile : {T : Type 0} → (T → List ℕ) → List ℕ → Option ObjectTypes → Result T ObjectError → Type 0
FitsFile items b t r = MatchResult r (λ out. (fits b t ≡ true) × (items out ≡ canonical (object_of b t))) (FailsToFit (fits b t))

pub with_contents : {T : Type 0} (items : T → List ℕ) (b : List ℕ) (t : Option ObjectTypes) (r : Result T ObjectError) → IsElf b → TypesAre b t → types_fit (object_of b t) ≡ true
    → FitsFile items b t r → MatchResult r (λ out. IsCanonicalFile b (items out)) (Fails b)
with_contents items b t (Ok out) elf types small made = file_made b t (items out) elf types small made.0 made.1
with_contents items b t (Err (errors.Fault f)) elf types small made = large_file b t f elf types made.0 made.1
with_contents items b t (Err errors.Memory) elf types small made = made

-- ---- types

pub types_fail : (b : List ℕ) (e : ObjectError) → IsElf b → 0 < types_at b → FailsTypes (types_of b) e → Fails b e
types_fail b (errors.Fault f) elf there first = of_types (record { elf = elf; there = there; first = first })
types_fail b errors.Memory elf there first = first

-- the types of a file, with its records in their order
abbrev pub typed : List ℕ → SectionWords → Section → ObjectTypes
typed ids s x = object_types (new_number ids) (ordered ids s) x

held : (b : List ℕ) (s : SectionWords) (ids : List ℕ) → Keeps b s → IsOrder s ids → HoldsTypes b (typed ids s (extension_of b s.strings))
held b s ids k sorted = record {
  sections = s;
  there = k.there;
  types = k.types;
  extension = k.extension;
  ids = ids;
  sorted = sorted;
  whole = refl;
}

-- .BTF or .BTF.ext is too long, and so is the file
long_types : (b : List ℕ) (t : ObjectTypes) → AreTooLong (result_limit (length b)) (order_of b) t → is_small (length b) (object_of b (Some t)) ≡ false
long_types b t (inl lt) =
    let types = btf_bytes (order_of b) t in
    elim (cases_lt 15728640 (length types)) [
      | inl above ↦ ap (λ (x : Bool). x && fits b (Some t)) (over_test (length types) 15728640 above)
      | inr below ↦
          let long : result_limit (length b) < length types = least_passed 15728640 (result_limit (length b)) (length types) lt below in
          no_fit (btf_fits (order_of b) t) (fits b (Some t)) (over_test (length (canonical (object_of b (Some t)))) (result_limit (length b)) (types_too_long b t (result_limit (length b)) long))
    ]
long_types b t (inr over) =
    no_fit (btf_fits (order_of b) t) (fits b (Some t))
    (over_test (length (canonical (object_of b (Some t)))) (result_limit (length b)) (extension_too_long b t (result_limit (length b)) over.0 over.1))

-- the contents are those of these types
abbrev pub ContentsAre : Order → ObjectTypes → Option (List ℕ) → Option (List ℕ) → Type 0
ContentsAre o t types extension = (btf_fits o t ≡ true) × ((types ≡ btf_content o (Some t)) × (extension ≡ extension_content o (Some t)))

module _ (b : List ℕ) (s : SectionWords) (ids numbers : List ℕ) (x : Section) (keeps : Keeps b s) (are : AreNumbered s ids numbers) (own : x ≡ extension_of b s.strings) where
  abbrev t : ObjectTypes
  t = typed ids s (extension_of b s.strings)

  abbrev new_types : ObjectTypes
  new_types = object_types (numbered numbers) (renewed s ids numbers) x

  holds : HoldsTypes b t
  holds = held b s ids keeps are.order

  types_is : new_types ≡ t
  types_is =
      (λ i. object_types (λ id. are.each id i) (record { order = s.order; strings = s.strings; frames = renewed_frames s (λ id. are.each id i) ids }) x)
      ∙ ap (typed ids s) own

  order_is : x.order ≡ order_of b
  order_is = ap (λ (y : Section). y.order) own

  pub typed_large : (f : ObjectFault) (limit : ℕ) → limit ≡ result_limit (length b) → AreTooLong limit x.order (new_types) → IsTooLarge f → IsFault b f
  typed_large f limit most over is =
      let here = subst (λ (o : Order). AreTooLong limit o (new_types)) order_is over in
      let mine = subst (λ (u : ObjectTypes). AreTooLong limit (order_of b) u) types_is here in
      let long = subst (λ (n : ℕ). AreTooLong n (order_of b) t) most mine in
      of_result (record { held = Some t; elf = keeps.elf; types = holds; large = long_types b t long; result = is })

  pub typed_file : {T : Type 0} (items : T → List ℕ) (types extension : Option (List ℕ)) (r : Result T ObjectError)
      → ContentsAre x.order (new_types) types extension → ((t : Option ObjectTypes) → AreContents (order_of b) t types extension → FitsFile items b t r)
      → MatchResult r (λ out. IsCanonicalFile b (items out)) (Fails b)
  typed_file items types extension r contents made =
      let here = subst (λ (o : Order). ContentsAre o (new_types) types extension) order_is contents in
      let at = subst (λ (u : ObjectTypes). ContentsAre (order_of b) u types extension) types_is here in
      with_contents items b (Some t) r keeps.elf holds at.0 (made (Some t) (record { types_are = at.1.0; extension_is = at.1.1 }))
