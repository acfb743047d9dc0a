-- The symbols of functions of a file and of its object keep the same rule.
use Rattle.std.proofs.Common.{◌≡◌, ℕ, ◌-◌, ◌<◌, ◌&&◌, ◌||◌, Bool, true, false, not, Option, List, length, get_or, if◌then◌else◌, inl, inr, refl, sym, ap, ◌∙◌, subst, arith}
use Rattle.std.specs.Prelude.{nat_lt}
use Rattle.std.proofs.lemmas.Bool.{cases_Bool, and_parts, and_from, or_left, not-true, ltb-true, Decides.nat_tests}
use Rattle.bpf_elf.specs.declared.kinds.Kind.TheVariants.{Data}
use Rattle.bpf_elf.specs.{ElfRules.IsElf, Kinds.is_kind, Numbers.count, Rules.AllHold}
use Rattle.bpf_elf.specs.Sections.{kind, name}
use Rattle.bpf_elf.specs.Symbols.{symbol_count, st_info, st_shndx, st_value, st_size, is_special, is_local, is_data, is_file_name, is_loadable, is_label, is_kept_symbol}
use Rattle.bpf_elf.proofs.KindLemmas.{true_false}
use Rattle.bpf_object.specs.Denotes.{object_of}
use Rattle.bpf_object.specs.Extension.{Section}
use Rattle.bpf_object.specs.FunctionLines.{is_function, is_function_symbol, keeps_lines, function_rules, functions_rules}
use Rattle.bpf_object.specs.Kept.{number_of, is_table, is_kept_section, section_number, symbol_section, kept_section, kept_symbol, kept_sections, kept_symbols}
use Rattle.bpf_object.specs.Objects.{Function, Group, KeptSection, KeptSymbol, Object, ObjectTypes}
use Rattle.bpf_object.proofs.{CanonRules.few_sections, CanonRules.left_false, CanonRules.rule_holds, CanonRules.symbol_facts, KeptLemmas.number_below, ReadBackKinds.all_hold}
use Rattle.bpf_object.proofs.CanonFunctions.{is_kept_by}
use Rattle.bpf_object.proofs.CanonLists.{length-listed, number_less, get-listed, listed_from, listed_at}
use Rattle.bpf_object.proofs.CanonValid.{section_of, symbol_of, nothing, no_symbol}

-- a symbol of an object keeps the rule
abbrev pub IsKeptBy : Object → List (Group Function) → KeptSymbol → Type 0
IsKeptBy x gs s = is_function s.info ≡ true → is_special s.section ≡ false → is_kept_by gs (section_of x (s.section - 1)).name s.value s.size ≡ true

-- and so do all of them
abbrev pub KeepsFunctions : Object → List (Group Function) → Type 0
KeepsFunctions x gs = (i : ℕ) → i < length x.symbols → IsKeptBy x gs (symbol_of x i)

-- a symbol of a file, if it is one of a function
abbrev pub SymbolKeeps : List ℕ → List (Group Function) → ℕ → Type 0
SymbolKeeps b gs j = is_function_symbol b j ≡ true → is_kept_by gs (name b (st_shndx b j)) (st_value b j) (st_size b j) ≡ true

-- a section of code or data
record IsCode (b : List ℕ) (i : ℕ) : Type 0 where
  there : i < count b
  kept : is_kept_section b i ≡ true

module _ (b : List ℕ) (elf : IsElf b) where
  code_of : (j : ℕ) → j < symbol_count b → is_kept_symbol b j ≡ true → is_special (st_shndx b j) ≡ false → IsCode b (st_shndx b j)
  code_of j lt kept other =
      let sh = st_shndx b j in
      let loadable = (and_parts (is_loadable b (st_info b j) sh) (not (is_label b j)) kept).0 in
      let some = (and_parts (is_special sh || is_data b sh) (not (is_file_name (st_info b j) sh)) loadable).0 in
      let code : is_kind Data (kind b sh) ≡ true = left_false (is_special sh) (is_data b sh) some other in
      let section = left_false (is_special sh) (nat_lt sh (count b) && (is_local (st_info b j) || is_data b sh)) (symbol_facts b elf j lt).section other in
      record {
        there = ltb-true _ _ (and_parts (nat_lt sh (count b)) (is_local (st_info b j) || is_data b sh) section).0;
        kept = or_left (is_kind Data (kind b sh)) (is_table b sh) code;
      }

  -- its new number isn't a special one
  number_plain : (i : ℕ) → IsCode b i → is_special (section_number b i) ≡ false
  number_plain i code =
      let there = code.there in
      plain (section_number b i) (omega arith) (omega (arith, there, number_below (is_kept_section b) i, few_sections b elf))
    where
      plain : (n : ℕ) → 0 < n → n < 65280 → is_special n ≡ false
      plain n some few = grind (arith, nat_tests)

module _ (b : List ℕ) (elf : IsElf b) (t : Option ObjectTypes) (gs : List (Group Function)) where
  -- the name of a section, by its new number
  name_is : (i : ℕ) → IsCode b i → (section_of (object_of b t) (section_number b i - 1)).name ≡ name b i
  name_is i code =
      let at : section_number b i - 1 ≡ number_of (is_kept_section b) i = omega arith in
      ap (λ (k : ℕ). (get_or (kept_sections b) k nothing).name) at
      ∙ ap (λ (s : KeptSection). s.name) (get-listed (is_kept_section b) (kept_section b) (count b) i nothing code.there code.kept)

  section_is : (sh : ℕ) → is_special sh ≡ false → symbol_section b sh ≡ section_number b sh
  section_is sh other = ap (λ (y : Bool). if y then sh else section_number b sh) other

  kept_is : (sh value size : ℕ) → is_special sh ≡ false → IsCode b sh
      → is_kept_by gs (section_of (object_of b t) (symbol_section b sh - 1)).name value size ≡ is_kept_by gs (name b sh) value size
  kept_is sh value size other code =
      ap (λ (i : ℕ). is_kept_by gs (section_of (object_of b t) (i - 1)).name value size) (section_is sh other)
      ∙ ap (λ (n : List ℕ). is_kept_by gs n value size) (name_is sh code)

  -- ---- from the file

  special_stays : (sh : ℕ) → is_special (symbol_section b sh) ≡ false → is_special sh ≡ false
  special_stays sh other = elim (cases_Bool (is_special sh)) [
    | inr plain ↦ plain
    | inl special ↦ absurd (true_false (sym special ∙ sym (ap is_special (ap (λ (y : Bool). if y then sh else section_number b sh) special)) ∙ other))
  ]

  symbol_kept : (j : ℕ) → j < symbol_count b → is_kept_symbol b j ≡ true → SymbolKeeps b gs j → IsKeptBy (object_of b t) gs (kept_symbol b j)
  symbol_kept j lt kept keeps function other =
      let sh = st_shndx b j in
      let plain = special_stays sh other in
      let is : is_function_symbol b j ≡ true =
      and_from (is_function (st_info b j)) (not (is_special sh) && is_kept_symbol b j) function (and_from (not (is_special sh)) (is_kept_symbol b j) (ap not plain) kept) in
      kept_is sh (st_value b j) (st_size b j) plain (code_of b elf j lt kept plain) ∙ keeps is

  pub object_keeps : ((j : ℕ) → j < symbol_count b → SymbolKeeps b gs j) → KeepsFunctions (object_of b t) gs
  object_keeps keeps i lt =
      let it = listed_from (is_kept_symbol b) (symbol_count b) i (subst (λ (n : ℕ). i < n) (length-listed (is_kept_symbol b) (kept_symbol b) (symbol_count b)) lt) in
      subst (IsKeptBy (object_of b t) gs) (sym (listed_at (is_kept_symbol b) (kept_symbol b) (symbol_count b) i no_symbol it))
      (symbol_kept it.from it.below it.passes (keeps it.from it.below))

  -- ---- from the object

  pub symbol_keeps : KeepsFunctions (object_of b t) gs → (j : ℕ) → j < symbol_count b → SymbolKeeps b gs j
  symbol_keeps keeps j lt is =
      let sh = st_shndx b j in
      let parts = and_parts (is_function (st_info b j)) (not (is_special sh) && is_kept_symbol b j) is in
      let rest = and_parts (not (is_special sh)) (is_kept_symbol b j) parts.1 in
      let plain = not-true (is_special sh) rest.0 in
      let code = code_of b elf j lt rest.1 plain in
      let i = number_of (is_kept_symbol b) j in
      let there : i < length (kept_symbols b) =
      subst (λ (n : ℕ). i < n) (sym (length-listed (is_kept_symbol b) (kept_symbol b) (symbol_count b))) (number_less (is_kept_symbol b) j (symbol_count b) lt rest.1) in
      let here : IsKeptBy (object_of b t) gs (kept_symbol b j) =
      subst (IsKeptBy (object_of b t) gs) (get-listed (is_kept_symbol b) (kept_symbol b) (symbol_count b) j no_symbol lt rest.1) (keeps i there) in
      sym (kept_is sh (st_value b j) (st_size b j) plain code) ∙ here parts.0 (ap is_special (section_is sh plain) ∙ number_plain b elf sh code)

-- ---- the rules of a file

implied : (x y : Bool) → (not x || y) ≡ true → x ≡ true → y ≡ true
implied true y h is = h
implied false y h is = absurd (true_false (sym is))

implies : (x y : Bool) → (x ≡ true → y ≡ true) → (not x || y) ≡ true
implies true y h = h refl
implies false y h = refl

-- the rule on a symbol, if what it says of the section is this
pub rule_keeps : (b : List ℕ) (s : Section) (gs : List (Group Function)) (j : ℕ)
    → ((n : List ℕ) (value size : ℕ) → keeps_lines s n value size ≡ true → is_kept_by gs n value size ≡ true) → AllHold (function_rules b s j) → SymbolKeeps b gs j
rule_keeps b s gs j same rules is =
    same (name b (st_shndx b j)) (st_value b j) (st_size b j)
    (implied (is_function_symbol b j) (keeps_lines s (name b (st_shndx b j)) (st_value b j) (st_size b j)) (rule_holds _ _ _ rules).0 is)

pub keeps_rules : (b : List ℕ) (s : Section) (gs : List (Group Function))
    → ((n : List ℕ) (value size : ℕ) → is_kept_by gs n value size ≡ true → keeps_lines s n value size ≡ true) → ((j : ℕ) → j < symbol_count b → SymbolKeeps b gs j)
    → AllHold (functions_rules b s)
keeps_rules b s gs same keeps =
    all_hold (symbol_count b) (function_rules b s)
    (λ j lt.
    let holds = implies (is_function_symbol b j) (keeps_lines s (name b (st_shndx b j)) (st_value b j) (st_size b j))
    (λ is. same (name b (st_shndx b j)) (st_value b j) (st_size b j) (keeps j lt is)) in
    rw holds refl)
