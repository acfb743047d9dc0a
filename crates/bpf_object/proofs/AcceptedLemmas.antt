-- What the rules on a file tell of its .BTF and .BTF.ext.
use Rattle.std.proofs.Common.{◌≡◌, ℕ, ◌%◌, ◌<◌, ◌≤◌, ◌==◌, ◌&&◌, true, false, List, [], ◌∷◌, ◌++◌, Option, Some, None, Result, Ok, Err, length, refl, sym, ap, subst, ◌∙◌, arith}
use Rattle.std.specs.Prelude.{nat_le, nat_lt, Bool, if◌then◌else◌, MatchResult}
use Rattle.std.specs.List.{All}
use Rattle.std.proofs.lemmas.Bool.Decides.{nat_tests}
use Rattle.std.proofs.lemmas.List.Elements.{All-nil, All-cons}
use Rattle.bpf_words.specs.declared.Order.{Order, TheVariants.Little, TheVariants.Big}
use Rattle.bpf_words.specs.Words.{IsBytes, word32_at}
use Rattle.bpf_elf.specs.Names.{is_closed}
use Rattle.bpf_elf.specs.Numbers.{order_of, count}
use Rattle.bpf_elf.specs.Rules.{AllHold}
use Rattle.bpf_elf.specs.Sections.{content, name}
use Rattle.bpf_elf.proofs.RuleLemmas.{first_hold, rest_hold}
use Rattle.btf_raw.specs.Header.{Cut, part, strings_at}
use Rattle.btf_raw.specs.Frames.{section_of}
use Rattle.btf_raw.proofs.Cuts.{cut_reads, cut_unique}
use Rattle.btf_types.specs.Sections.{SectionWords}
use Rattle.bpf_object.specs.declared.{extension.Part.Part, source.Source.Source}
use Rattle.bpf_object.specs.declared.extension.Part.TheVariants.{Functions, Lines, Relocations}
use Rattle.bpf_object.specs.declared.fault.{ObjectError.ObjectError}
use Rattle.bpf_object.specs.declared.fault.ObjectError.TheVariants as errors
use Rattle.bpf_object.specs.private.AcceptedFacts.{IsAccepted, HasStringTable}
use Rattle.bpf_object.specs.Denotes.{Denotes, HoldsTypes, TypesAre, types_at, types_of, extension_at, extension_of}
use Rattle.bpf_object.specs.Extension.{Section, part_end, part_len, part_offset, next_group, group_count, groups, head_rules, form_rules, group_rules, groups_rules, part_rules}
use Rattle.bpf_object.specs.{FunctionLines.functions_rules}
use Rattle.bpf_object.specs.Lines.{lines_part, pairs_rules, section_rules, extension_rules}
use Rattle.bpf_object.specs.{ObjectFaults.Fails, Objects.Object, Objects.ObjectTypes}
use Rattle.bpf_object.specs.SourceLines.{types_strings, extension, group_of, group_in}
use Rattle.bpf_object.specs.Sources.{section, IsSource, HasHeader, HasPart, HasGroup, HasGroups, HasParts}
use Rattle.bpf_object.specs.{Types.TypesSection, Types.is_order, Types.form_rules as types_form_rules, Types.records_start, Types.all_rules, TypesFaults.KeepsTypes}
use Rattle.bpf_object.proofs.{CanonRules.rule_holds, ExtensionLemmas.section_held, ObjectLemmas.fails_no_object, ReadBackStrings.closed_from_ends, TestLemmas.first_true}

-- ---- an answer

pub accepts_object : (b : List ℕ) (x : Object) (r : Result (List ℕ) ObjectError) → IsBytes b → Denotes b x
    → MatchResult r (λ o. (o ≡ b) × IsAccepted b) (Fails b) → MatchResult r (λ o. o ≡ b) (λ e. e ≡ errors.Memory)
accepts_object b x (Ok o) bytes d read = read.0
accepts_object b x (Err e) bytes d fails = fails_no_object b e x bytes d fails

-- ---- the groups of .BTF.ext

above_most : (a b : ℕ) → nat_le a b ≡ true → a ≤ b
above_most a b h = grind (arith, nat_tests)

group_known : (x : Source) (p : Part) (g : ℕ) → HasPart x p → AllHold (group_rules (section x) p g) → HasGroup x p g
group_known x p g has h =
    let s = section x in
    let inside = rule_holds _ _ _ h in
    record {
      part = has;
      inside = above_most (next_group s p g) (part_end s p) (first_true (nat_le (next_group s p g) (part_end s p)) (nat_lt 0 (group_count s g)) inside.0);
      head = omega arith;
      named = (rule_holds _ _ _ inside.1).0;
    }

groups_known : (x : Source) (p : Part) (gs : List ℕ) → HasPart x p → AllHold (groups_rules (section x) p gs) → All (HasGroup x p) gs
groups_known x p [] has h = All-nil (HasGroup x p)
groups_known x p (g ∷ gs) has h =
    let own = group_rules (section x) p g in
    let others = groups_rules (section x) p gs in
    All-cons (HasGroup x p) g gs (group_known x p g has (first_hold own others h)) (groups_known x p gs has (rest_hold own others h))

part_known : (x : Source) (p : Part) → HasHeader x → AllHold (part_rules (section x) p) → HasGroups x p
part_known x p header h =
    let s = section x in
    let form = first_hold (form_rules s p) (groups_rules s p (groups s p)) h in
    let inside = (rule_holds _ _ _ form).0 in
    let has : HasPart x p = record {
      header = header;
      inside = above_most (part_end s p) (length s.bytes) (first_true (nat_le (part_end s p) (length s.bytes)) (part_offset s p % 4 == 0 && part_len s p % 4 == 0) inside);
    } in
    record { part = has; groups = groups_known x p (groups s p) has (rest_hold (form_rules s p) (groups_rules s p (groups s p)) h) }

parts_known : (x : Source) → IsSource x → AllHold (section_rules (section x)) → HasParts x
parts_known x source h =
    let s = section x in
    let pairs = pairs_rules s (lines_part s) [] (groups s Functions) (groups s (lines_part s)) in
    let from_relocations = part_rules s Relocations ++ pairs in
    let from_lines = part_rules s Lines ++ from_relocations in
    let from_functions = part_rules s Functions ++ from_lines in
    let functions = rest_hold (head_rules s) from_functions h in
    let lines = rest_hold (part_rules s Functions) from_lines functions in
    let relocations = rest_hold (part_rules s Lines) from_relocations lines in
    let whole = above_most 32 (length s.bytes) (rule_holds _ _ _ (first_hold (head_rules s) from_functions h)).0 in
    let header : HasHeader x = record { source = source; whole = whole } in
    record {
      functions = part_known x Functions header (first_hold (part_rules s Functions) from_lines functions);
      lines = part_known x Lines header (first_hold (part_rules s Lines) from_relocations lines);
      relocations = part_known x Relocations header (first_hold (part_rules s Relocations) pairs relocations);
    }

-- ---- the strings of .BTF

pub strings_there : (o : Order) (b types strings : List ℕ) → Cut b o types strings → strings ≡ part b (strings_at o b) (word32_at o b 20)
strings_there o b types strings cut =
    let reads = cut_reads b o types strings cut in
    reads.strings_are ∙ ap (part b (strings_at o b)) (sym reads.str_len)

same_order : (o p : Order) → is_order o p ≡ true → o ≡ p
same_order Little Little e = refl
same_order Little Big e = cc
same_order Big Little e = cc
same_order Big Big e = refl

table_there : (x : TypesSection) (s : SectionWords) → KeepsTypes x s → (t : HasStringTable x.order x.bytes) × (t.strings ≡ s.strings)
table_there x s keeps =
    let form = first_hold (types_form_rules x s) (all_rules (records_start x s) s) keeps.rules in
    let ordered = (rule_holds _ _ _ form).0 in
    let order = same_order s.order x.order ordered in
    let own = keeps.sections.denotes in
    let same = cut_unique x.bytes own.order s.order own.types own.strings (section_of s.order s.frames) s.strings own.cut keeps.sections.cut in
    let closed : is_closed s.strings ≡ true = ap is_closed (sym same.strings) ∙ closed_from_ends own.strings own.nul_ends in
    let types = section_of s.order s.frames in
    let cut : Cut x.bytes x.order types s.strings = subst (λ (o : Order). Cut x.bytes o types s.strings) order keeps.sections.cut in
    (record { types = types; strings = s.strings; cut = cut; closed = closed }, refl)

-- ---- .BTF.ext of a file

pub record HasExtension (b : List ℕ) : Type 0 where
  pub table : HasStringTable (order_of b) (content b (types_at b))
  pub rules : AllHold (section_rules (extension b))

true_false : true ≡ false → ⊥
true_false e = cc

typed_extension : (b : List ℕ) (t : ObjectTypes) → (extension_at b == 0) ≡ false → HoldsTypes b t → HasExtension b
typed_extension b t there holds =
    let table = table_there (types_of b) holds.sections holds.types in
    let strings : holds.sections.strings ≡ types_strings b =
    sym table.1 ∙ strings_there (order_of b) (content b (types_at b)) table.0.types table.0.strings table.0.cut in
    let x = extension_of b holds.sections.strings in
    let rules : AllHold (extension_rules x (functions_rules b x)) =
    subst (λ (y : Bool). AllHold (if y then [] else extension_rules x (functions_rules b x))) there holds.extension in
    record {
      table = table.0;
      rules = subst (λ (strings : List ℕ). AllHold (section_rules (extension_of b strings))) strings (section_held x (functions_rules b x) rules);
    }

file_extension : (b : List ℕ) (t : Option ObjectTypes) → (extension_at b == 0) ≡ false → TypesAre b t → HasExtension b
file_extension b None there types =
    absurd (true_false (sym (rule_holds _ _ _ types.1).0 ∙ there))
file_extension b (Some t) there types = typed_extension b t there types

pub has_extension : (b : List ℕ) → IsAccepted b → 0 < extension_at b → HasExtension b
has_extension b accepted some =
    let there : (extension_at b == 0) ≡ false = grind (arith, nat_tests) in
    file_extension b accepted.0.types there accepted.1.types

pub extension_known : (x : Source) (b : List ℕ) → HasExtension b → IsSource x → section x ≡ extension b → HasParts x
extension_known x b has source is = parts_known x source (subst (λ (s : Section). AllHold (section_rules s)) (sym is) has.rules)

pub part_groups : (x : Source) (p : Part) → HasParts x → HasGroups x p
part_groups x Functions has = has.functions
part_groups x Lines has = has.lines
part_groups x Relocations has = has.relocations

-- the group of a section is that of its name
pub group_found : (e b : List ℕ) (p : Part) (i n : ℕ) (s : Section) (text : List ℕ) (r : Option ℕ) → e ≡ b → n ≡ count e → i < n → s ≡ extension b → text ≡ name e i
    → r ≡ group_of s p text → group_in b p i ≡ r
group_found e b p i n s text r same counted below is named found =
    let there : i < count b = subst (λ (x : List ℕ). i < count x) same (subst (λ (m : ℕ). i < m) counted below) in
    let inside : nat_lt i (count b) ≡ true = grind (arith, nat_tests) in
    let text_is : text ≡ name b i = named ∙ ap (λ (x : List ℕ). name x i) same in
    ap (λ (y : Bool). if y then group_of (extension b) p (name b i) else None) inside
    ∙ sym (found ∙ ap (λ (s : Section). group_of s p text) is ∙ ap (λ (t : List ℕ). group_of (extension b) p t) text_is)
