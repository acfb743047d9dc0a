-- The object of a file that is accepted is valid.
use Rattle.std.proofs.Common.{◌≡◌, ℕ, ◌+◌, ◌-◌, ◌<◌, ◌⊎◌, ◌==◌, Bool, true, false, cond, List, [], Option, None, length, get_or, drop, if◌then◌else◌, inl, inr, refl, sym, ap, subst, ◌∙◌, length-take, length-drop, arith}
use Rattle.std.specs.Prelude.{nat_lt, nat_le}
use Rattle.std.proofs.lemmas.Bool.{and_parts, or_cases, or_left, ltb-true, leb-true}
use Rattle.bpf_words.specs.Words.{IsBytes}
use Rattle.bpf_elf.specs.declared.kinds.Kind.{Kind}
use Rattle.bpf_elf.specs.declared.kinds.Kind.TheVariants.{Data, Relocations}
use Rattle.bpf_elf.specs.Numbers as number
use Rattle.bpf_elf.specs.Names.{NAME_LIMIT}
use Rattle.bpf_elf.specs.Kinds.{kind_of, is_kind}
use Rattle.bpf_elf.specs.Sections.{file_size, content, name, kind, is_table_name}
use Rattle.bpf_elf.specs.Symbols.{symbol_count, is_kept_symbol}
use Rattle.bpf_elf.specs.Relocations.{relocation_count, r_symbol, relocation_offset}
use Rattle.bpf_elf.specs.ElfRules.{IsElf}
use Rattle.bpf_elf.proofs.{KeptFacts.symbol_is, KindLemmas.none_is, KindLemmas.true_false}
use Rattle.bpf_object.specs.Objects.{KeptRelocation, KeptSection, ObjectTypes}
use Rattle.bpf_object.specs.Kept.{number_of, is_table, is_kept_section, section_number, kept_relocation, table_rows, kept_section, kept_symbol, kept_sections, kept_symbols}
use Rattle.bpf_object.specs.Denotes.{object_of}
use Rattle.bpf_object.proofs.CanonValid.{section_of, nothing, no_relocation, kind_of_section, IsDataOf, IsValidData, IsValidRelocation, IsValidTable, IsValidSection}
use Rattle.bpf_object.proofs.CanonSections.{not_table}
use Rattle.bpf_object.proofs.CanonLists.{length-listed, number_less, number_all, get-listed, listed_from, listed_at}
use Rattle.bpf_object.proofs.CanonRules.{word_below, long_below, string_without_nul, IsSectionOf, section_facts, target_facts, form_facts}

-- ---- sections

known : (w : Kind) (y : Bool) (o : Option Kind) → is_kind w (cond y None o) ≡ true → is_kind w o ≡ true
known w true o is = absurd (true_false (sym is ∙ none_is w))
known w false o is = is

-- the kind of a section that isn't section 0
known_kind : (b : List ℕ) (i : ℕ) (w : Kind) → is_kind w (kind b i) ≡ true → is_kind w (kind_of (number.type b i) (name b i) (number.flags b i)) ≡ true
known_kind b i w is = known w (i == 0) (kind_of (number.type b i) (name b i) (number.flags b i)) is

content_length : (b : List ℕ) (i : ℕ) → IsSectionOf b i → length (content b i) ≡ file_size b i
content_length b i its =
    let inside = its.inside in
    omega (arith, inside, length-take (file_size b i) (drop (number.offset b i) b), length-drop (number.offset b i) b)

module _ (b : List ℕ) (bytes : IsBytes b) (elf : IsElf b) (t : Option ObjectTypes) where
  pub section_count_is : length (kept_sections b) ≡ number_of (is_kept_section b) (number.count b)
  section_count_is = length-listed (is_kept_section b) (kept_section b) (number.count b)

  -- a section that is kept, by its new number
  pub section_numbered : (i : ℕ) → i < number.count b → is_kept_section b i ≡ true → section_of (object_of b t) (section_number b i - 1) ≡ kept_section b i
  section_numbered i lt is =
      let at : section_number b i - 1 ≡ number_of (is_kept_section b) i = omega arith in
      ap (λ (k : ℕ). get_or (kept_sections b) k nothing) at ∙ get-listed (is_kept_section b) (kept_section b) (number.count b) i nothing lt is

  pub data_there : (i : ℕ) → i < number.count b → is_kind Data (kind b i) ≡ true → IsDataOf (object_of b t) (section_number b i)
  data_there i lt is =
      let kept : is_kept_section b i ≡ true = or_left (is_kind Data (kind b i)) (is_table b i) is in
      record {
        some = omega arith;
        there = omega (arith, section_count_is, number_less (is_kept_section b) i (number.count b) lt kept);
        is_data = ap (λ (s : KeptSection). is_kind Data (kind_of_section s)) (section_numbered i lt kept) ∙ known_kind b i Data is;
      }

  valid_data : (i : ℕ) → i < number.count b → is_kind Data (kind b i) ≡ true → IsValidData (kept_section b i)
  valid_data i lt is =
      let other : is_table b i ≡ false = not_table (kind b i) is in
      record {
        kind = known_kind b i Data is;
        content = ap (λ (y : Bool). length (if y then [] else content b i)) other ∙ content_length b i (section_facts b elf i lt);
        target = ap (λ (y : Bool). if y then section_number b (number.info b i) else 0) other;
        relocations = ap (λ (y : Bool). if y then table_rows b i else []) other;
      }

  -- ---- tables of relocations

  pub symbol_count_is : length (kept_symbols b) ≡ number_of (is_kept_symbol b) (symbol_count b)
  symbol_count_is = length-listed (is_kept_symbol b) (kept_symbol b) (symbol_count b)

  all_rows : (n : ℕ) → number_of (λ k. true) n ≡ n
  all_rows n = number_all (λ k. true) n (λ i lt. refl)

  row_count_is : (i : ℕ) → length (table_rows b i) ≡ relocation_count b i
  row_count_is i = length-listed (λ k. true) (kept_relocation b i) (relocation_count b i) ∙ all_rows (relocation_count b i)

  row_is : (i k : ℕ) → k < relocation_count b i → get_or (table_rows b i) k no_relocation ≡ kept_relocation b i k
  row_is i k lt =
      ap (λ (m : ℕ). get_or (table_rows b i) m no_relocation) (sym (all_rows k)) ∙ get-listed (λ j. true) (kept_relocation b i) (relocation_count b i) k no_relocation lt refl

  valid_row : (i k : ℕ) → i < number.count b → is_table b i ≡ true → k < relocation_count b i → IsValidRelocation (object_of b t) (kept_relocation b i k)
  valid_row i k lt is below =
      let parts = and_parts (nat_lt (r_symbol b i k) (symbol_count b)) (is_kept_symbol b (r_symbol b i k)) (symbol_is b i k elf lt is below) in
      record {
        offset = long_below b bytes (relocation_offset b i k);
        type = omega arith;
        symbol = omega (arith, symbol_count_is, number_less (is_kept_symbol b) (r_symbol b i k) (symbol_count b) (ltb-true _ _ parts.0) parts.1);
      }

  valid_table : (i : ℕ) → i < number.count b → is_table b i ≡ true → IsValidTable (object_of b t) (kept_section b i)
  valid_table i lt is =
      let target = target_facts b elf i lt is in
      let form = form_facts b elf i lt is in
      let whole = form.whole in
      let at : (kept_section b i).target ≡ section_number b (number.info b i) = ap (λ (y : Bool). if y then section_number b (number.info b i) else 0) is in
      let rows : (kept_section b i).relocations ≡ table_rows b i = ap (λ (y : Bool). if y then table_rows b i else []) is in
      let code : is_kept_section b (number.info b i) ≡ true = or_left (is_kind Data (kind b (number.info b i))) (is_table b (number.info b i)) target.is_data in
      record {
        kind = known_kind b i Relocations is;
        content = ap (λ (y : Bool). if y then [] else content b i) is;
        size = omega (arith, whole, ap length rows, row_count_is i);
        entry_size = form.entry_size;
        target = subst (IsDataOf (object_of b t)) (sym at) (data_there (number.info b i) target.there target.is_data);
        target_name =
            ap (λ (k : ℕ). is_table_name (name b i) (section_of (object_of b t) (k - 1)).name) at
            ∙ ap (λ (s : KeptSection). is_table_name (name b i) s.name) (section_numbered (number.info b i) target.there code) ∙ target.named;
        rows = λ k below.
            let there : k < relocation_count b i = omega (arith, below, ap length rows, row_count_is i) in
            subst (IsValidRelocation (object_of b t)) (sym (ap (λ (rs : List KeptRelocation). get_or rs k no_relocation) rows ∙ row_is i k there)) (valid_row i k lt is there);
      }

  valid_kept : (i : ℕ) → i < number.count b → is_kept_section b i ≡ true → IsValidData (kept_section b i) ⊎ IsValidTable (object_of b t) (kept_section b i)
  valid_kept i lt is = elim (or_cases (is_kind Data (kind b i)) (is_table b i) is) [
    | inl code ↦ inl (valid_data i lt code)
    | inr table ↦ inr (valid_table i lt table)
  ]

  valid_section : (i : ℕ) → i < number.count b → is_kept_section b i ≡ true → IsValidSection (object_of b t) (kept_section b i)
  valid_section i lt is =
      let named = (section_facts b elf i lt).named in
      let p = number.header_offset b i in
      record {
        name = string_without_nul (content b (number.names b)) (number.name_off b i);
        name_short = leb-true _ _ (and_parts (nat_lt (number.name_off b i) (length (content b (number.names b)))) (nat_le (length (name b i)) NAME_LIMIT) named).1;
        type = word_below b bytes (p + 4);
        flags = long_below b bytes (p + 8);
        address = long_below b bytes (p + 16);
        size = long_below b bytes (p + 32);
        alignment = long_below b bytes (p + 48);
        entry_size = long_below b bytes (p + 56);
        kept = valid_kept i lt is;
      }

  pub valid_sections : (i : ℕ) → i < length (kept_sections b) → IsValidSection (object_of b t) (section_of (object_of b t) i)
  valid_sections i lt =
      let it = listed_from (is_kept_section b) (number.count b) i (subst (λ (n : ℕ). i < n) section_count_is lt) in
      subst (IsValidSection (object_of b t)) (sym (listed_at (is_kept_section b) (kept_section b) (number.count b) i nothing it)) (valid_section it.from it.below it.passes)
