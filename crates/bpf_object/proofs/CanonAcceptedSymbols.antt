-- The symbols of a file that is accepted are valid, and so is its object.
use Rattle.std.proofs.Common.{◌≡◌, ℕ, ◌+◌, ◌-◌, ◌^◌, ◌<◌, ◌≤◌, ◌⊎◌, ◌==◌, ◌&&◌, ◌||◌, Bool, true, false, not, List, [], Option, length, if◌then◌else◌, inl, inr, refl, sym, ap, subst, ◌∙◌, arith}
use Rattle.std.specs.Prelude.{nat_lt, nat_le}
use Rattle.std.proofs.lemmas.Bool.{cases_Bool, and_parts, and_from, or_left, ltb-true, leb-true, Decides.nat_tests}
use Rattle.bpf_words.specs.Words.{IsBytes}
use Rattle.bpf_elf.specs.declared.kinds.Kind.TheVariants.{Data}
use Rattle.bpf_elf.specs.Numbers as number
use Rattle.bpf_elf.specs.Numbers.{order_of}
use Rattle.bpf_elf.specs.Names.{string_at}
use Rattle.bpf_elf.specs.Kinds.{is_kind}
use Rattle.bpf_elf.specs.Sections.{kind, name}
use Rattle.bpf_elf.specs.Symbols.{symbols, symbol_count, symbol_offset, symbol_strings, symbol_name, st_name, st_info, st_other, st_shndx, st_value, st_size, SHN_ABS, is_special, is_local, is_file, is_data, is_file_name, is_loadable, is_label_name, is_code, is_label, is_kept_symbol}
use Rattle.bpf_elf.specs.ElfRules.{IsElf}
use Rattle.bpf_elf.proofs.KindLemmas.{true_false}
use Rattle.bpf_object.specs.Objects.{KeptSection, ObjectTypes, Object}
use Rattle.bpf_object.specs.Kept.{is_table, is_kept_section, section_number, symbol_section, kept_symbol, kept_symbols}
use Rattle.bpf_object.specs.Denotes.{object_of}
use Rattle.bpf_object.proofs.KeptLemmas.{number_below}
use Rattle.bpf_object.proofs.ReadBackSectionRules.{first_is_empty}
use Rattle.bpf_object.proofs.CanonValid.{section_of, symbol_of, no_symbol, is_label_in, IsDataOf, IsValidSymbol, ValidObject}
use Rattle.bpf_object.proofs.CanonLists.{number_less, get-listed, listed_from, listed_at}
use Rattle.bpf_object.proofs.CanonRules.{half_below, word_below, long_below, string_without_nul, AreZero, zero_bytes, half_zero, word_zero, long_zero, left_false, few_sections, IsSymbolTable, symbol_table_facts, symbol_facts}
use Rattle.bpf_object.proofs.CanonAccepted.{data_there, section_numbered, symbol_count_is, valid_sections}

-- ---- labels

-- a symbol in no section is no label
no_special_label : (x y c : Bool) → y ≡ true → (x && (not y && c)) ≡ false
no_special_label true y c special = rw special refl
no_special_label false y c special = refl

-- nor is one that wasn't
no_label : (x y z c d : Bool) → (x && (not y && c)) ≡ false → y ≡ false → d ≡ c → (x && (not z && d)) ≡ false
no_label true true z c d h other same = absurd (true_false other)
no_label true false true c d h other same = refl
no_label true false false c d h other same = same ∙ h
no_label false y z c d h other same = refl

-- ---- the first symbol

module _ (b : List ℕ) (t : IsSymbolTable b) where
  zeros : AreZero b (symbol_offset b 0) 24
  zeros i from lt = zero_bytes b (number.offset b (symbols b)) 24 t.first i (omega (arith, from)) (omega (arith, lt))

  first_name : symbol_name b 0 ≡ []
  first_name =
      ap (λ (k : ℕ). string_at (symbol_strings b) k) (word_zero (order_of b) b (symbol_offset b 0) (λ i from lt. zeros i from (omega (arith, lt))))
      ∙ first_is_empty (symbol_strings b) t.strings

  first_info : st_info b 0 ≡ 0
  first_info = zeros (symbol_offset b 0 + 4) (omega arith) (omega arith)

  first_section : st_shndx b 0 ≡ 0
  first_section = half_zero (order_of b) b (symbol_offset b 0 + 6) (λ i from lt. zeros i (omega (arith, from)) (omega (arith, lt)))

  first_other : st_other b 0 ≡ 0
  first_other = zeros (symbol_offset b 0 + 5) (omega arith) (omega arith)

  first_value : st_value b 0 ≡ 0
  first_value = long_zero (order_of b) b (symbol_offset b 0 + 8) (λ i from lt. zeros i (omega (arith, from)) (omega (arith, lt)))

  first_size : st_size b 0 ≡ 0
  first_size = long_zero (order_of b) b (symbol_offset b 0 + 16) (λ i from lt. zeros i (omega (arith, from)) (omega (arith, lt)))

  first_is : kept_symbol b 0 ≡ no_symbol
  first_is =
      let section : symbol_section b (st_shndx b 0) ≡ 0 = ap (λ (i : ℕ). symbol_section b i) first_section in
      λ k. record { name = first_name k; info = first_info k; other = first_other k; section = section k; value = first_value k; size = first_size k }

  first_kept : is_kept_symbol b 0 ≡ true
  first_kept =
      and_from (is_loadable b (st_info b 0) (st_shndx b 0)) (not (is_label b 0))
      (ap (λ (i : ℕ). is_loadable b i (st_shndx b 0)) first_info ∙ ap (λ (i : ℕ). is_loadable b 0 i) first_section)
      (ap not (no_special_label (is_label_name (st_info b 0) (st_other b 0) (symbol_name b 0)) (is_special (st_shndx b 0)) _ (ap is_special first_section)))

-- ---- the sections of symbols

both_false : (x y z : Bool) → z ≡ false → (x && (y && z)) ≡ false
both_false true true z e = e
both_false true false z e = refl
both_false false y z e = refl

from_not : (x : Bool) → not x ≡ true → x ≡ false
from_not true h = absurd (true_false (sym h))
from_not false h = refl

-- a section index as it is kept
record IsIndexOf (x : Object) (section info value size : ℕ) : Type 0 where
  fits : section < 2 ^ 16
  place : (is_special section ≡ true) ⊎ (IsDataOf x section × (value + size ≤ (section_of x (section - 1)).size))
  not_file : is_file_name info section ≡ false

module _ (b : List ℕ) (bytes : IsBytes b) (elf : IsElf b) (t : Option ObjectTypes) where
  special_index : (j : ℕ) → is_special (st_shndx b j) ≡ true → is_file_name (st_info b j) (st_shndx b j) ≡ false
      → IsIndexOf (object_of b t) (st_shndx b j) (st_info b j) (st_value b j) (st_size b j)
  special_index j special other = record { fits = half_below b bytes (symbol_offset b j + 6); place = inl special; not_file = other }

  placed_index : (j : ℕ) → st_shndx b j < number.count b → is_kind Data (kind b (st_shndx b j)) ≡ true → st_value b j + st_size b j ≤ number.size b (st_shndx b j)
      → IsIndexOf (object_of b t) (section_number b (st_shndx b j)) (st_info b j) (st_value b j) (st_size b j)
  placed_index j lt code within =
      let sh = st_shndx b j in
      let kept : is_kept_section b sh ≡ true = or_left (is_kind Data (kind b sh)) (is_table b sh) code in
      let few : section_number b sh < 65280 = omega (arith, number_below (is_kept_section b) sh, few_sections b elf, lt) in
      let size : (section_of (object_of b t) (section_number b sh - 1)).size ≡ number.size b sh = ap (λ (s : KeptSection). s.size) (section_numbered b bytes elf t sh lt kept) in
      record {
        fits = omega (arith, few);
        place = inr (data_there b bytes elf t sh lt code, omega (arith, within, size));
        not_file = both_false (is_local (st_info b j)) (is_file (st_info b j)) (section_number b sh == SHN_ABS) (other_number (section_number b sh) few);
      }
    where
      other_number : (n : ℕ) → n < 65280 → (n == SHN_ABS) ≡ false
      other_number n lt = grind (arith, nat_tests)

  index_of : (j : ℕ) → j < symbol_count b → is_kept_symbol b j ≡ true → IsIndexOf (object_of b t) (symbol_section b (st_shndx b j)) (st_info b j) (st_value b j) (st_size b j)
  index_of j below is =
      let sh = st_shndx b j in
      let loadable = (and_parts (is_loadable b (st_info b j) sh) (not (is_label b j)) is).0 in
      let parts = and_parts (is_special sh || is_data b sh) (not (is_file_name (st_info b j) sh)) loadable in
      let Index = λ (i : ℕ). IsIndexOf (object_of b t) i (st_info b j) (st_value b j) (st_size b j) in
      elim (cases_Bool (is_special sh)) [
        | inl special ↦
            subst Index (sym (ap (λ (y : Bool). if y then sh else section_number b sh) special)) (special_index j special (from_not (is_file_name (st_info b j) sh) parts.1))
        | inr other ↦
            let code : is_kind Data (kind b sh) ≡ true = left_false (is_special sh) (is_data b sh) parts.0 other in
            let facts = symbol_facts b elf j below in
            let section = left_false (is_special sh) (nat_lt sh (number.count b) && (is_local (st_info b j) || is_data b sh)) facts.section other in
            let within = left_false (is_special sh) (not (is_data b sh) || nat_le (st_value b j + st_size b j) (number.size b sh)) facts.within other in
            let inside = left_false (not (is_data b sh)) (nat_le (st_value b j + st_size b j) (number.size b sh)) within (ap not code) in
            subst Index (sym (ap (λ (y : Bool). if y then sh else section_number b sh) other))
            (placed_index j (ltb-true _ _ (and_parts (nat_lt sh (number.count b)) (is_local (st_info b j) || is_data b sh) section).0) code (leb-true _ _ inside))
      ]

  label_of : (j : ℕ) → j < symbol_count b → is_kept_symbol b j ≡ true → is_label_in (object_of b t) (kept_symbol b j) ≡ false
  label_of j below is =
      let sh = st_shndx b j in
      let x = is_label_name (st_info b j) (st_other b j) (symbol_name b j) in
      let its = and_parts (is_loadable b (st_info b j) sh) (not (is_label b j)) is in
      let parts = and_parts (is_special sh || is_data b sh) (not (is_file_name (st_info b j) sh)) its.0 in
      let code_of : ℕ → Bool = λ (i : ℕ). (let c = section_of (object_of b t) (i - 1) in is_code c.type c.name c.flags) in
      let Other = λ (i : ℕ). (x && (not (is_special i) && code_of i)) ≡ false in
      elim (cases_Bool (is_special sh)) [
        | inl special ↦
            subst Other (sym (ap (λ (y : Bool). if y then sh else section_number b sh) special)) (no_special_label x (is_special sh) (code_of sh) special)
        | inr other ↦
            let code : is_kind Data (kind b sh) ≡ true = left_false (is_special sh) (is_data b sh) parts.0 other in
            let section = left_false (is_special sh) (nat_lt sh (number.count b) && (is_local (st_info b j) || is_data b sh)) (symbol_facts b elf j below).section other in
            let lt = ltb-true _ _ (and_parts (nat_lt sh (number.count b)) (is_local (st_info b j) || is_data b sh) section).0 in
            let kept : is_kept_section b sh ≡ true = or_left (is_kind Data (kind b sh)) (is_table b sh) code in
            let same : code_of (section_number b sh) ≡ is_code (number.type b sh) (name b sh) (number.flags b sh) =
            ap (λ (s : KeptSection). is_code s.type s.name s.flags) (section_numbered b bytes elf t sh lt kept) in
            subst Other (sym (ap (λ (y : Bool). if y then sh else section_number b sh) other))
            (no_label x (is_special sh) (is_special (section_number b sh)) _ _ (from_not (is_label b j) its.1) other same)
      ]

  valid_symbol : (j : ℕ) → j < symbol_count b → is_kept_symbol b j ≡ true → IsValidSymbol (object_of b t) (kept_symbol b j)
  valid_symbol j lt is =
      let p = symbol_offset b j in
      let index = index_of j lt is in
      record {
        name = string_without_nul (symbol_strings b) (st_name b j);
        info = bytes (p + 4);
        other = bytes (p + 5);
        section = index.fits;
        value = long_below b bytes (p + 8);
        size = long_below b bytes (p + 16);
        place = elim index.place [ inl special ↦ inl special | inr its ↦ inr (record { section = its.0; within = its.1 }) ];
        not_file = index.not_file;
        not_label = label_of j lt is;
      }

  valid_symbols : (j : ℕ) → j < length (kept_symbols b) → IsValidSymbol (object_of b t) (symbol_of (object_of b t) j)
  valid_symbols j lt =
      let it = listed_from (is_kept_symbol b) (symbol_count b) j (subst (λ (n : ℕ). j < n) (symbol_count_is b bytes elf t) lt) in
      subst (IsValidSymbol (object_of b t)) (sym (listed_at (is_kept_symbol b) (kept_symbol b) (symbol_count b) j no_symbol it)) (valid_symbol it.from it.below it.passes)

  -- ---- the object

  pub object_is_valid : ValidObject (object_of b t)
  object_is_valid =
      let table = symbol_table_facts b elf in
      let some = table.some in
      let kept = first_kept b table in
      record {
        flags = word_below b bytes 48;
        sections = valid_sections b bytes elf t;
        some = omega (arith, symbol_count_is b bytes elf t, number_less (is_kept_symbol b) 0 (symbol_count b) some kept);
        first = get-listed (is_kept_symbol b) (kept_symbol b) (symbol_count b) 0 no_symbol some kept ∙ first_is b table;
        symbols = valid_symbols;
      }
