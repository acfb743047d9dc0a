-- What the rules that an accepted file keeps say of its sections and symbols.
use Rattle.std.proofs.Common.{◌≡◌, ℕ, zero, suc, ◌+◌, ◌-◌, ◌*◌, ◌/◌, ◌%◌, ◌^◌, ◌<◌, ◌≤◌, ◌==◌, ◌&&◌, ◌||◌, Bool, true, false, cond, not, List, [], ◌∷◌, ◌++◌, Option, Some, None, length, get_or, take, drop, refl, sym, ap, subst, ◌∙◌, get_or-take, get_or-drop, arith}
use Rattle.std.specs.Prelude.{is_some, nat_lt, nat_le, slice_index}
use Rattle.std.specs.List.{list_all}
use Rattle.std.proofs.lemmas.Bool.{and_parts, ltb-true, leb-true, eqb-true}
use Rattle.bpf_words.specs.declared.Order.{Order, TheVariants.Little, TheVariants.Big}
use Rattle.bpf_words.specs.Words.{IsBytes, word16_at, word32_at}
use Rattle.bpf_words.proofs.WordLemmas.{word32_at-below}
use Rattle.bpf_elf.specs.declared.kinds.Kind.TheVariants.{Data, Relocations}
use Rattle.bpf_elf.specs.Rules.{Rule, Broken, AllHold, each}
use Rattle.bpf_elf.specs.Numbers as number
use Rattle.bpf_elf.specs.Numbers.{order_of, word64_at}
use Rattle.bpf_elf.specs.Header.{SHN_LORESERVE, ident_rules, header_rules}
use Rattle.bpf_elf.specs.Names.{is_closed, string_at, is_section_name}
use Rattle.bpf_elf.specs.Kinds.{SHT_REL, SHT_STRTAB, is_kind}
use Rattle.bpf_elf.specs.Sections.{file_size, is_inside, content, is_string_table, name, kind, is_zero_at, is_target, is_table_name, table_rules, section_rules, target_rules}
use Rattle.bpf_elf.specs.Symbols.{symbols, symbol_count, symbol_strings, st_info, st_shndx, st_value, st_size, has_section, is_within, symbol_table_rules, symbol_rules}
use Rattle.bpf_elf.specs.Relocations.{relocation_count, form_rules, kept_table_rules, relocation_table_rules, relocation_rules}
use Rattle.bpf_elf.specs.ElfRules.{IsElf, head_rules, all_section_rules, all_symbol_rules}
use Rattle.bpf_elf.proofs.RuleLemmas.{first_hold, rest_hold, each_holds}
use Rattle.bpf_elf.proofs.KindLemmas.{true_false}
use Rattle.bpf_elf.proofs.SectionFacts.{relocations_type_at}
use Rattle.btf_raw.specs.Names.{IsWithoutNul}
use Rattle.btf_types.specs.Reading.{before_nul}
use Rattle.bpf_object.proofs.ReadBackTests.{equal_test}
use Rattle.bpf_object.proofs.ReadBackStrings.{string_is_text}

-- ---- numbers

pub half_below : (b : List ℕ) → IsBytes b → (i : ℕ) → number.half b i < 2 ^ 16
half_below b bytes i = below (order_of b)
  where
    below : (o : Order) → word16_at o b i < 2 ^ 16
    below Little = let low = bytes i in let high = bytes (i + 1) in omega (arith, low, high)
    below Big = let low = bytes (i + 1) in let high = bytes i in omega (arith, low, high)

pub word_below : (b : List ℕ) → IsBytes b → (i : ℕ) → number.word b i < 2 ^ 32
word_below b bytes i = word32_at-below (order_of b) b i bytes

pub long_below : (b : List ℕ) → IsBytes b → (i : ℕ) → number.long b i < 2 ^ 64
long_below b bytes i = below (order_of b)
  where
    below : (o : Order) → word64_at o b i < 2 ^ 64
    below Little = omega (arith, word32_at-below Little b i bytes, word32_at-below Little b (i + 4) bytes)
    below Big = omega (arith, word32_at-below Big b i bytes, word32_at-below Big b (i + 4) bytes)

-- ---- strings

before_without : (bytes : List ℕ) → IsWithoutNul (before_nul bytes)
before_without [] i lt e = omega (arith, lt)
before_without (zero ∷ bytes) i lt e = omega (arith, lt)
before_without (suc c ∷ bytes) zero lt e = omega (arith, e)
before_without (suc c ∷ bytes) (suc i) lt e = before_without bytes i (omega (arith, lt)) e

pub string_without_nul : (strings : List ℕ) (off : ℕ) → IsWithoutNul (string_at strings off)
string_without_nul strings off = subst IsWithoutNul (sym (string_is_text strings off)) (before_without (drop off strings))

-- ---- bytes that are zero

zero_in : (xs : List ℕ) → list_all (λ c. c == 0) xs ≡ true → (k : ℕ) → get_or xs k 0 ≡ 0
zero_in [] all k = refl
zero_in (c ∷ cs) all zero = eqb-true _ _ (and_parts (c == 0) (list_all (λ d. d == 0) cs) all).0
zero_in (c ∷ cs) all (suc k) = zero_in cs (and_parts (c == 0) (list_all (λ d. d == 0) cs) all).1 k

-- the bytes from one offset are zero
abbrev pub AreZero : List ℕ → ℕ → ℕ → Type 0
AreZero b from n = (i : ℕ) → from ≤ i → i < from + n → slice_index b i ≡ 0

pub zero_bytes : (b : List ℕ) (pos n : ℕ) → is_zero_at b pos n ≡ true → AreZero b pos n
zero_bytes b pos n zeros i from lt =
    let at : pos + (i - pos) ≡ i = omega (arith, from) in
    ap (λ (k : ℕ). slice_index b k) (sym at) ∙ sym (get_or-drop pos b (i - pos) 0) ∙ sym (get_or-take n (drop pos b) (i - pos) 0 (omega (arith, from, lt)))
    ∙ zero_in (take n (drop pos b)) zeros (i - pos)

pub half_zero : (o : Order) (b : List ℕ) (i : ℕ) → AreZero b i 2 → word16_at o b i ≡ 0
half_zero Little b i z = omega (arith, z i (omega arith) (omega arith), z (i + 1) (omega arith) (omega arith))
half_zero Big b i z = omega (arith, z i (omega arith) (omega arith), z (i + 1) (omega arith) (omega arith))

pub word_zero : (o : Order) (b : List ℕ) (i : ℕ) → AreZero b i 4 → word32_at o b i ≡ 0
word_zero Little b i z =
    omega (arith, z i (omega arith) (omega arith), z (i + 1) (omega arith) (omega arith), z (i + 2) (omega arith) (omega arith), z (i + 3) (omega arith) (omega arith))
word_zero Big b i z =
    omega (arith, z i (omega arith) (omega arith), z (i + 1) (omega arith) (omega arith), z (i + 2) (omega arith) (omega arith), z (i + 3) (omega arith) (omega arith))

pub long_zero : (o : Order) (b : List ℕ) (i : ℕ) → AreZero b i 8 → word64_at o b i ≡ 0
long_zero Little b i z =
    omega (arith, word_zero Little b i (λ j from lt. z j from (omega (arith, lt))), word_zero Little b (i + 4) (λ j from lt. z j (omega (arith, from)) (omega (arith, lt))))
long_zero Big b i z =
    omega (arith, word_zero Big b i (λ j from lt. z j from (omega (arith, lt))), word_zero Big b (i + 4) (λ j from lt. z j (omega (arith, from)) (omega (arith, lt))))

-- ---- the parts of a rule that holds

-- the test of the first of a list of rules, and the other rules
pub rule_holds : {C : Type 0} (x : Bool) (f : Broken C) (a : Option (Broken C)) → cond x a (Some f) ≡ None → (x ≡ true) × (a ≡ None)
rule_holds true f a h = (refl, h)
rule_holds false f a h = absurd (not_none f h)
  where
    not_none : {C : Type 0} (f : Broken C) → Some f ≡ None → ⊥
    not_none f e = cc

-- the rules after the first ones
dropped_hold : {C : Type 0} (n : ℕ) (rules : List (Rule C)) → AllHold rules → AllHold (drop n rules)
dropped_hold zero rules h = h
dropped_hold (suc n) [] h = h
dropped_hold (suc n) (r ∷ rs) h = dropped_hold n rs (rest_hold (r ∷ []) rs h)

-- a section is in the file, and has a name and a kind
pub record IsSectionOf (b : List ℕ) (i : ℕ) : Type 0 where
  pub inside : number.offset b i + file_size b i ≤ length b
  pub named : is_section_name (content b (number.names b)) (number.name_off b i) ≡ true
  pub known : (i == 0 || is_some (kind b i)) ≡ true

section_of_rules : (b : List ℕ) (i : ℕ) → AllHold (section_rules b i) → IsSectionOf b i
section_of_rules b i h =
    let first = rule_holds _ _ _ h in
    let named = rule_holds _ _ _ first.1 in
    record { inside = leb-true _ _ first.0; named = named.0; known = (rule_holds _ _ _ named.1).0 }

-- a table of relocations is whole, and its section is one of code or data
pub record IsTableForm (b : List ℕ) (i : ℕ) : Type 0 where
  pub whole : number.size b i ≡ 16 * relocation_count b i
  pub entry_size : number.entry_size b i ≡ 16

pub record IsTargetOf (b : List ℕ) (i target : ℕ) : Type 0 where
  pub some : 0 < target
  pub there : target < number.count b
  pub named : is_table_name (name b i) (name b target) ≡ true
  pub is_data : is_kind Data (kind b target) ≡ true

form_of_rules : (b : List ℕ) (i : ℕ) → AllHold (form_rules b i) → IsTableForm b i
form_of_rules b i h =
    let first = rule_holds _ _ _ h in
    let rest : number.size b i % 16 ≡ 0 = eqb-true _ _ first.0 in
    record { whole = omega (arith, rest); entry_size = eqb-true _ _ (rule_holds _ _ _ first.1).0 }

pub left_false : (x y : Bool) → (x || y) ≡ true → x ≡ false → y ≡ true
left_false true y h other = absurd (true_false other)
left_false false y h other = h

implied : (x y : Bool) → (not x || y) ≡ true → x ≡ true → y ≡ true
implied true y h is = h
implied false y h is = absurd (true_false (sym is))

target_of_test : (b : List ℕ) (i target : ℕ) → is_kind Relocations (kind b i) ≡ true → is_target b i target ≡ true → IsTargetOf b i target
target_of_test b i target table h =
    let parts = and_parts (nat_lt 0 target && nat_lt target (number.count b)) (is_table_name (name b i) (name b target) && (not (is_kind Relocations (kind b i)) || is_kind Data (kind b target))) h in
    let range = and_parts (nat_lt 0 target) (nat_lt target (number.count b)) parts.0 in
    let rest = and_parts (is_table_name (name b i) (name b target)) (not (is_kind Relocations (kind b i)) || is_kind Data (kind b target)) parts.1 in
    record {
      some = ltb-true _ _ range.0;
      there = ltb-true _ _ range.1;
      named = rest.0;
      is_data = implied (is_kind Relocations (kind b i)) (is_kind Data (kind b target)) rest.1 table;
    }

-- the symbols have names, and the first one is zero
pub record IsSymbolTable (b : List ℕ) : Type 0 where
  pub there : 0 < symbols b
  pub some : 0 < symbol_count b
  pub strings : is_closed (symbol_strings b) ≡ true
  pub first : is_zero_at b (number.offset b (symbols b)) 24 ≡ true

one_row : (size : ℕ) → 24 ≤ size → 0 < size / 24
one_row size le = omega (arith, le)

pub table_of_rules : (b : List ℕ) → AllHold (symbol_table_rules b) → IsSymbolTable b
table_of_rules b h =
    let there = rule_holds _ _ _ h in
    let whole = rule_holds _ _ _ there.1 in
    let entry = rule_holds _ _ _ whole.1 in
    let names = rule_holds _ _ _ entry.1 in
    let first = rule_holds _ _ _ names.1 in
    let sized : 24 ≤ number.size b (symbols b) = leb-true _ _ (and_parts (nat_le 24 (number.size b (symbols b))) (number.size b (symbols b) % 24 == 0) whole.0).0 in
    let strings = (and_parts (nat_lt (number.link b (symbols b)) (number.count b)) (is_string_table b (number.link b (symbols b))) names.0).1 in
    let closed = (and_parts (number.type b (number.link b (symbols b)) == SHT_STRTAB) (is_inside b (number.link b (symbols b)) && is_closed (symbol_strings b)) strings).1 in
    record {
      there = ltb-true _ _ there.0;
      some = one_row (number.size b (symbols b)) sized;
      strings = (and_parts (is_inside b (number.link b (symbols b))) (is_closed (symbol_strings b)) closed).1;
      first = first.0;
    }

-- a symbol is in a section that is there, and inside it
pub record IsSymbolOf (b : List ℕ) (j : ℕ) : Type 0 where
  pub section : has_section b (st_info b j) (st_shndx b j) ≡ true
  pub within : is_within b (st_shndx b j) (st_value b j) (st_size b j) ≡ true

symbol_of_rules : (b : List ℕ) (j : ℕ) → AllHold (symbol_rules b j) → IsSymbolOf b j
symbol_of_rules b j h =
    let named = rule_holds _ _ _ h in
    let section = rule_holds _ _ _ named.1 in
    record { section = section.0; within = (rule_holds _ _ _ section.1).0 }

-- the first section header is zero, and there are names
pub record HasNamesTable (b : List ℕ) : Type 0 where
  pub first : is_zero_at b (number.table b) 64 ≡ true
  pub type : number.type b (number.names b) ≡ SHT_STRTAB
  pub there : number.names b < number.count b

names_of_rules : (b : List ℕ) → AllHold (header_rules b) → AllHold (table_rules b) → HasNamesTable b
names_of_rules b h k =
    let first = rule_holds _ _ _ k in
    let strings = (rule_holds (is_string_table b (number.names b)) _ _ first.1).0 in
    record {
      first = first.0;
      type = eqb-true _ _ (and_parts (number.type b (number.names b) == SHT_STRTAB) (is_inside b (number.names b) && is_closed (content b (number.names b))) strings).0;
      there = ltb-true _ _ (rule_holds (nat_lt (number.names b) (number.count b)) _ _ (dropped_hold 8 (header_rules b) h)).0;
    }

few_of_rules : (b : List ℕ) → AllHold (header_rules b) → number.count b < SHN_LORESERVE
few_of_rules b h =
    let counted = nat_lt 0 (number.count b) && nat_lt (number.count b) SHN_LORESERVE in
    ltb-true _ _ (and_parts (nat_lt 0 (number.count b)) (nat_lt (number.count b) SHN_LORESERVE) (rule_holds counted _ _ (dropped_hold 6 (header_rules b) h)).0).1

-- ---- all rules

module _ (b : List ℕ) (elf : IsElf b) where
  after_head : AllHold (all_section_rules b ++ all_symbol_rules b)
  after_head = rest_hold (head_rules b) (all_section_rules b ++ all_symbol_rules b) elf

  header_part : AllHold (header_rules b)
  header_part = rest_hold (ident_rules b) (header_rules b) (first_hold (head_rules b) (all_section_rules b ++ all_symbol_rules b) elf)

  pub few_sections : number.count b < SHN_LORESERVE
  few_sections = few_of_rules b header_part

  pub names_facts : HasNamesTable b
  names_facts =
      names_of_rules b header_part
      (first_hold (table_rules b) (each (number.count b) (section_rules b) ++ each (number.count b) (target_rules b)) (first_hold (all_section_rules b) (all_symbol_rules b) after_head))

  section_part : AllHold (each (number.count b) (section_rules b) ++ each (number.count b) (target_rules b))
  section_part =
      rest_hold (table_rules b) (each (number.count b) (section_rules b) ++ each (number.count b) (target_rules b))
      (first_hold (all_section_rules b) (all_symbol_rules b) after_head)

  symbol_part : AllHold (symbol_table_rules b ++ (each (symbol_count b) (symbol_rules b) ++ each (number.count b) (relocation_table_rules b)))
  symbol_part = rest_hold (all_section_rules b) (all_symbol_rules b) after_head

  symbol_rest : AllHold (each (symbol_count b) (symbol_rules b) ++ each (number.count b) (relocation_table_rules b))
  symbol_rest = rest_hold (symbol_table_rules b) (each (symbol_count b) (symbol_rules b) ++ each (number.count b) (relocation_table_rules b)) symbol_part

  pub section_facts : (i : ℕ) → i < number.count b → IsSectionOf b i
  section_facts i lt =
      section_of_rules b i (each_holds (number.count b) i (section_rules b) lt (first_hold (each (number.count b) (section_rules b)) (each (number.count b) (target_rules b)) section_part))

  pub target_facts : (i : ℕ) → i < number.count b → is_kind Relocations (kind b i) ≡ true → IsTargetOf b i (number.info b i)
  target_facts i lt table =
      let rule = each_holds (number.count b) i (target_rules b) lt (rest_hold (each (number.count b) (section_rules b)) (each (number.count b) (target_rules b)) section_part) in
      let type : (number.type b i == SHT_REL) ≡ true = equal_test (number.type b i) SHT_REL (relocations_type_at b i table) in
      target_of_test b i (number.info b i) table (implied (number.type b i == SHT_REL) (is_target b i (number.info b i)) (rule_holds _ _ _ rule).0 type)

  pub form_facts : (i : ℕ) → i < number.count b → is_kind Relocations (kind b i) ≡ true → IsTableForm b i
  form_facts i lt table =
      let rules = each_holds (number.count b) i (relocation_table_rules b) lt (rest_hold (each (symbol_count b) (symbol_rules b)) (each (number.count b) (relocation_table_rules b)) symbol_rest) in
      let kept : AllHold (kept_table_rules b i) = rw table at rules in
      form_of_rules b i (first_hold (form_rules b i) (each (relocation_count b i) (relocation_rules b i)) kept)

  pub symbol_table_facts : IsSymbolTable b
  symbol_table_facts = table_of_rules b (first_hold (symbol_table_rules b) (each (symbol_count b) (symbol_rules b) ++ each (number.count b) (relocation_table_rules b)) symbol_part)

  pub symbol_facts : (j : ℕ) → j < symbol_count b → IsSymbolOf b j
  symbol_facts j lt =
      symbol_of_rules b j (each_holds (symbol_count b) j (symbol_rules b) lt (first_hold (each (symbol_count b) (symbol_rules b)) (each (number.count b) (relocation_table_rules b)) symbol_rest))
