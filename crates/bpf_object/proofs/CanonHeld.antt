-- What the types of an accepted file have.
use Rattle.std.proofs.Common.{◌≡◌, ℕ, ◌+◌, ◌^◌, ◌<◌, ◌==◌, Bool, true, false, cond, Option, List, [], map, if◌then◌else◌, refl, sym, ap, subst, ◌∙◌}
use Rattle.std.specs.List.{All}
use Rattle.std.proofs.lemmas.List.Elements.{All-nil}
use Rattle.bpf_words.specs.{declared.Order.Order, declared.Order.TheVariants.Little, declared.Order.TheVariants.Big}
use Rattle.bpf_words.specs.Words.{IsBytes, word32_at}
use Rattle.bpf_words.proofs.WordLemmas.{IsBytes-take, IsBytes-drop}
use Rattle.bpf_elf.specs.{ElfRules.IsElf, Numbers.offset, Rules.AllHold, Sections.content, Sections.file_size, Symbols.symbol_count}
use Rattle.bpf_elf.proofs.RuleLemmas.{each_holds}
use Rattle.btf_types.specs.{Valid.IsValid}
use Rattle.bpf_object.specs.declared.extension.Part.{Part, TheVariants.Functions, TheVariants.Relocations}
use Rattle.bpf_object.specs.Objects.{ObjectTypes}
use Rattle.bpf_object.specs.Denotes.{types_of, extension_at, extension_of, rules_of_extension, object_of, HoldsTypes}
use Rattle.bpf_object.specs.Extension.{Section, part_field, part_len, part_start, groups_from, groups}
use Rattle.bpf_object.specs.Groups.{function_group, relocation_group, function_groups, relocation_groups}
use Rattle.bpf_object.specs.FunctionLines.{function_rules, functions_rules}
use Rattle.bpf_object.specs.Lines.{lines_part, extension_rules}
use Rattle.bpf_object.proofs.ReadBackTests.{equal_test}
use Rattle.bpf_object.proofs.CanonBtfRules.{AreFree}
use Rattle.bpf_object.proofs.OrderedValid.{AreInOrder, ordered_in_order, ordered_free}
use Rattle.bpf_object.proofs.{RewrittenTypes.order_low, RewrittenValid.rewritten_of}
use Rattle.bpf_object.specs.TypeOrder.{new_number}
use Rattle.bpf_object.proofs.CanonExtensionValid.{are_apart, AreValidFunctions, AreValidRelocations, held_functions, held_apart, held_pairs, held_relocations}
use Rattle.bpf_object.proofs.CanonExtensionKept.{IsValidExtension}
use Rattle.bpf_object.proofs.ExtensionLemmas.{section_held, symbols_held}
use Rattle.bpf_object.proofs.CanonFunctions.{pairs_keep}
use Rattle.bpf_object.proofs.CanonFunctionSymbols.{SymbolKeeps, KeepsFunctions, rule_keeps, object_keeps}

-- ---- an empty .BTF.ext

no_word : (o : Order) (i : ℕ) → word32_at o [] i ≡ 0
no_word Little i = refl
no_word Big i = refl

-- it has no groups
pub no_groups : (x : Section) (p : Part) → x.bytes ≡ [] → groups x p ≡ []
no_groups x p none =
    let len : part_len x p ≡ 0 = ap (λ (b : List ℕ). word32_at x.order b (part_field p + 4)) none ∙ no_word x.order (part_field p + 4) in
    ap (λ (y : Bool). cond y [] (groups_from x p (part_len x p) (part_start x p + 4))) (equal_test (part_len x p) 0 len)

pub no_functions : (new : ℕ → ℕ) (x : Section) → x.bytes ≡ [] → function_groups new x ≡ []
no_functions new x none = ap (λ (gs : List ℕ). map (function_group new x) gs) (no_groups x Functions none)

pub no_relocations : (new : ℕ → ℕ) (x : Section) → x.bytes ≡ [] → relocation_groups new x ≡ []
no_relocations new x none = ap (λ (gs : List ℕ). map (relocation_group new x) gs) (no_groups x Relocations none)

-- ---- the .BTF.ext of a file

content_bytes : (b : List ℕ) (i : ℕ) → IsBytes b → IsBytes (content b i)
content_bytes b i bytes = IsBytes-take (file_size b i) _ (IsBytes-drop (offset b i) b bytes)

-- groups that keep the rules
pub record AreValidGroups (new : ℕ → ℕ) (x : Section) : Type 0 where
  pub functions : All AreValidFunctions (function_groups new x)
  pub apart : are_apart [] (function_groups new x) ≡ true
  pub relocations : All AreValidRelocations (relocation_groups new x)

module _ (b strings : List ℕ) (bytes : IsBytes b) (new : ℕ → ℕ) (low : (n : ℕ) → n < 2 ^ 32 → new n < 2 ^ 32) where
  with_section : (there : Bool) → (extension_at b == 0) ≡ there → AllHold (rules_of_extension b strings) → AreValidGroups new (extension_of b strings)
  with_section true none rules =
      let empty : (extension_of b strings).bytes ≡ [] = ap (λ (y : Bool). if y then [] else content b (extension_at b)) none in
      record {
        functions = subst (All AreValidFunctions) (sym (no_functions new (extension_of b strings) empty)) (All-nil AreValidFunctions);
        apart = ap (are_apart []) (no_functions new (extension_of b strings) empty);
        relocations = subst (All AreValidRelocations) (sym (no_relocations new (extension_of b strings) empty)) (All-nil AreValidRelocations);
      }
  with_section false some rules =
      let whole : (extension_of b strings).bytes ≡ content b (extension_at b) = ap (λ (y : Bool). if y then [] else content b (extension_at b)) some in
      let fits : IsBytes (extension_of b strings).bytes = subst IsBytes (sym whole) (content_bytes b (extension_at b) bytes) in
      let symbols = functions_rules b (extension_of b strings) in
      let all : AllHold (extension_rules (extension_of b strings) symbols) =
      subst (λ (y : Bool). AllHold (if y then [] else extension_rules (extension_of b strings) symbols)) some rules in
      let keeps = section_held (extension_of b strings) symbols all in
      record {
        functions = held_functions (extension_of b strings) fits new low keeps;
        apart = held_apart (extension_of b strings) fits new low keeps;
        relocations = held_relocations (extension_of b strings) fits new low keeps;
      }

  pub valid_groups : AllHold (rules_of_extension b strings) → AreValidGroups new (extension_of b strings)
  valid_groups rules = with_section (extension_at b == 0) refl rules

-- ---- the symbols of functions

module _ (b strings : List ℕ) (bytes : IsBytes b) (elf : IsElf b) (t : Option ObjectTypes) (new : ℕ → ℕ) (low : (n : ℕ) → n < 2 ^ 32 → new n < 2 ^ 32) where
  abbrev x : Section
  x = extension_of b strings

  symbol_held : AllHold (extension_rules x (functions_rules b x)) → IsBytes x.bytes → (j : ℕ) → j < symbol_count b → SymbolKeeps b (function_groups new x) j
  symbol_held rules fits j lt =
      let pairs = held_pairs x fits new low (section_held x (functions_rules b x) rules) in
      rule_keeps b x (function_groups new x) j (λ n value size h. pairs_keep x (lines_part x) new [] (groups x Functions) (groups x (lines_part x)) n value size pairs h)
      (each_holds (symbol_count b) j (function_rules b x) lt (symbols_held x (functions_rules b x) rules))

  keeps_with : (there : Bool) → (extension_at b == 0) ≡ there → AllHold (rules_of_extension b strings) → KeepsFunctions (object_of b t) (function_groups new x)
  keeps_with true none rules =
      let empty : x.bytes ≡ [] = ap (λ (y : Bool). if y then [] else content b (extension_at b)) none in
      subst (KeepsFunctions (object_of b t)) (sym (no_functions new x empty)) (λ i lt is other. refl)
  keeps_with false some rules =
      let whole : x.bytes ≡ content b (extension_at b) = ap (λ (y : Bool). if y then [] else content b (extension_at b)) some in
      let fits : IsBytes x.bytes = subst IsBytes (sym whole) (content_bytes b (extension_at b) bytes) in
      let all : AllHold (extension_rules x (functions_rules b x)) =
      subst (λ (y : Bool). AllHold (if y then [] else extension_rules x (functions_rules b x))) some rules in
      object_keeps b elf t (function_groups new x) (symbol_held all fits)

-- those of an object keep the rule by its functions
pub functions_are_kept : (b : List ℕ) (o : Option ObjectTypes) (t : ObjectTypes) → IsBytes b → IsElf b → HoldsTypes b t → KeepsFunctions (object_of b o) t.functions
functions_are_kept b o t bytes elf holds =
    let s = holds.sections in
    let low = order_low (types_of b).bytes s holds.ids holds.types.sections holds.sorted in
    subst (λ (u : ObjectTypes). KeepsFunctions (object_of b o) u.functions) (sym holds.whole)
    (keeps_with b s.strings bytes elf o (new_number holds.ids) low (extension_at b == 0) refl holds.extension)

-- ---- all types

pub record AreValidTypes (t : ObjectTypes) : Type 0 where
  pub records : IsValid t.records
  pub free : AreFree t.records
  pub in_order : AreInOrder t.records
  pub extension : IsValidExtension t

pub types_are_valid : (b : List ℕ) (t : ObjectTypes) → IsBytes b → HoldsTypes b t → AreValidTypes t
types_are_valid b t bytes holds =
    let s = holds.sections in
    let rewritten = rewritten_of (types_of b).bytes s holds.ids holds.types.sections holds.sorted in
    let low = order_low (types_of b).bytes s holds.ids holds.types.sections holds.sorted in
    let groups = valid_groups b s.strings bytes (new_number holds.ids) low holds.extension in
    subst AreValidTypes (sym holds.whole)
    (record {
      records = rewritten.denotes.valid;
      free = ordered_free (types_of b) s holds.ids holds.types holds.sorted rewritten;
      in_order = ordered_in_order s holds.ids holds.sorted rewritten;
      extension = record { functions = groups.functions; apart = groups.apart; relocations = groups.relocations };
    })
