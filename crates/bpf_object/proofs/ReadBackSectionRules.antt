-- A written file keeps the rules on its sections, if what was written does.
use Rattle.std.proofs.Common.{◌≡◌, ℕ, zero, suc, ◌+◌, ◌-◌, ◌<◌, ◌≤◌, ◌==◌, ◌&&◌, ◌||◌, true, false, Bool, not, List, [], ◌∷◌, ◌++◌, Option, length, if◌then◌else◌, inl, inr, refl, ap, ◌∙◌, arith}
use Rattle.std.specs.Prelude.{nat_lt, nat_le, is_some}
use Rattle.std.proofs.lemmas.Bool.{and_parts, and_from, or_cases, or_left, or_right, Decides.nat_tests}
use Rattle.bpf_words.specs.declared.Order.{Order}
use Rattle.bpf_elf.specs.declared.kinds.Kind.{Kind}
use Rattle.bpf_elf.specs.declared.kinds.Kind.TheVariants.{Data, Relocations}
use Rattle.bpf_elf.specs.Rules.{AllHold, each}
use Rattle.bpf_elf.specs.Numbers as number
use Rattle.bpf_elf.specs.Names.{is_closed, string_at, is_section_name, NAME_LIMIT}
use Rattle.bpf_elf.specs.Kinds.{SHT_STRTAB, SHT_REL, is_kind, is_single}
use Rattle.bpf_elf.specs.Sections.{file_size, content, kind, name, is_inside, is_again, kept_size, kept_total, is_table_name, is_target, section_rules, table_rules, target_rules}
use Rattle.bpf_elf.specs.ElfRules.{all_section_rules}
use Rattle.bpf_elf.proofs.RuleLemmas.{both_hold}
use Rattle.btf_types.specs.Reading.{before_nul}
use Rattle.bpf_object.specs.File.{WrittenSection, contents, file_of}
use Rattle.bpf_object.proofs.FileLemmas.{offset_next, offset_grows}
use Rattle.bpf_object.proofs.ReadBackTests.{most_test, test_below}
use Rattle.bpf_object.proofs.ReadBackLayout.{length-file_of}
use Rattle.bpf_object.proofs.ReadBackFile.{IsWritable, has_file_header, has_header, has_zero_header}
use Rattle.bpf_object.proofs.ReadBackSections.{file_size_is, inside_is, zero_inside}
use Rattle.bpf_object.proofs.ReadBackRules.{names_content, table_holds}
use Rattle.bpf_object.proofs.ReadBackStrings.{string_is_text, ends_from_closed}
use Rattle.bpf_object.proofs.ReadBackKinds.{written_name, written_kind, is_written_again, all_hold, next, row_type, row_name, kind_is, again_is}

-- ---- what has to be written

-- what is_target tests
abbrev pub target_test : ℕ → ℕ → List ℕ → List ℕ → Option Kind → Option Kind → Bool
target_test count target its_name target_name its_kind target_kind =
    nat_lt 0 target && nat_lt target count
    && (is_table_name its_name target_name && (not (is_kind Relocations its_kind) || is_kind Data target_kind))

-- a table of relocations in a row belongs to the section of another
abbrev pub is_written_target : (ℕ → WrittenSection) → ℕ → ℕ → ℕ → Bool
is_written_target s n i target = target_test (n + 1) target (written_name s n i) (written_name s n target) (written_kind s n i) (written_kind s n target)

-- the last section has the names, and each section has a name and a kind, which no earlier one has if there may be one at most
pub record AreSections (s : ℕ → WrittenSection) (n : ℕ) : Type 0 where
  pub names_type : (s (n - 1)).type ≡ SHT_STRTAB
  pub names_closed : is_closed (s (n - 1)).content ≡ true
  pub named : (i : ℕ) → i < n → is_section_name (s (n - 1)).content (s i).name_offset ≡ true
  pub known : (i : ℕ) → i < n → is_some (written_kind s n (suc i)) ≡ true
  pub once : (i : ℕ) → i < n → not (is_single (written_kind s n (suc i)) && is_written_again s n (suc i)) ≡ true
  pub targets : (i : ℕ) → i < n → (not ((s i).type == SHT_REL) || is_written_target s n (suc i) (s i).info) ≡ true

-- ---- the rules of a section

section_hold : (b : List ℕ) (i : ℕ) → is_inside b i ≡ true → is_section_name (content b (number.names b)) (number.name_off b i) ≡ true
    → (i == 0 || is_some (kind b i)) ≡ true → not (is_single (kind b i) && is_again b i) ≡ true → kept_total b (suc i) ≤ length b → AllHold (section_rules b i)
section_hold b i inside named known once short = rw (inside, named, known, once, most_test (kept_total b (suc i)) (length b) short) refl

-- what is kept of a section isn't more than it has
kept_most : (b : List ℕ) (i : ℕ) → kept_size b i ≤ file_size b i
kept_most b i = chosen (is_kind Data (kind b i) || is_kind Relocations (kind b i)) (file_size b i)
  where
    chosen : (y : Bool) (n : ℕ) → (if y then n else 0) ≤ n
    chosen true n = omega arith
    chosen false n = omega arith

target_hold : (b : List ℕ) (i : ℕ) → (not (number.type b i == SHT_REL) || is_target b i (number.info b i)) ≡ true → AllHold (target_rules b i)
target_hold b i h = rw h refl

-- the first name of a string table is empty
pub first_is_empty : (strings : List ℕ) → is_closed strings ≡ true → string_at strings 0 ≡ []
first_is_empty [] closed = refl
first_is_empty (c ∷ rest) closed =
    let first = (ends_from_closed (c ∷ rest) closed).first in
    string_is_text (c ∷ rest) 0 ∙ ap (λ (k : ℕ). before_nul (k ∷ rest)) first

first_is_name : (strings : List ℕ) → is_closed strings ≡ true → is_section_name strings 0 ≡ true
first_is_name strings closed =
    let some = (ends_from_closed strings closed).some in
    let there : nat_lt 0 (length strings) ≡ true = grind (arith, nat_tests) in
    and_from (nat_lt 0 (length strings)) (nat_le (length (string_at strings 0)) NAME_LIMIT) there (ap (λ (x : List ℕ). nat_le (length x) NAME_LIMIT) (first_is_empty strings closed))

module _ (b : List ℕ) (o : Order) (flags : ℕ) (s : ℕ → WrittenSection) (n : ℕ) (is : b ≡ file_of o flags s n) (w : IsWritable flags s n) where
  -- the contents of the sections don't overlap, so they are together no longer than the file
  kept_within : (i : ℕ) → i < n + 1 → kept_total b (suc i) ≤ length (contents s i)
  kept_within zero lt = omega arith
  kept_within (suc i) lt =
      let here : i < n = omega (arith, lt) in
      let size : file_size b (suc i) ≡ length (s i).content = ap (λ (k : ℕ). file_size b k) (next i) ∙ file_size_is b o flags s n is w i here in
      omega (arith, kept_within i (omega (arith, here)), kept_most b (suc i), size, offset_next s i)

  kept_short : (i : ℕ) → i < n + 1 → kept_total b (suc i) ≤ length b
  kept_short i lt =
      omega (arith, kept_within i lt, offset_grows s i n (omega (arith, lt)), ap length is, length-file_of o flags s n)

  zero_holds : AreSections s n → AllHold (section_rules b 0)
  zero_holds a =
      let named : is_section_name (content b (number.names b)) (number.name_off b 0) ≡ true =
      ap (λ (t : List ℕ). is_section_name t (number.name_off b 0)) (names_content b o flags s n is w)
      ∙ ap (λ (k : ℕ). is_section_name (s (n - 1)).content k) (has_zero_header b o flags s n is w).name_offset ∙ first_is_name (s (n - 1)).content a.names_closed in
      section_hold b 0 (zero_inside b o flags s n is w) named refl refl (kept_short 0 (omega arith))

  row_holds : AreSections s n → (i : ℕ) → i < n → AllHold (section_rules b (suc i))
  row_holds a i lt =
      let here : suc i < n + 1 = omega (arith, lt) in
      let inside : is_inside b (suc i) ≡ true = ap (λ (k : ℕ). is_inside b k) (next i) ∙ inside_is b o flags s n is w i lt in
      let at : number.name_off b (suc i) ≡ (s i).name_offset = ap (λ (k : ℕ). number.name_off b k) (next i) ∙ (has_header b o flags s n is w i lt).name_offset in
      let named : is_section_name (content b (number.names b)) (number.name_off b (suc i)) ≡ true =
      ap (λ (t : List ℕ). is_section_name t (number.name_off b (suc i))) (names_content b o flags s n is w)
      ∙ ap (λ (k : ℕ). is_section_name (s (n - 1)).content k) at ∙ a.named i lt in
      let kind_there = kind_is b o flags s n is w (suc i) here in
      let known : is_some (kind b (suc i)) ≡ true = ap (λ (k : Option Kind). is_some k) kind_there ∙ a.known i lt in
      let once : not (is_single (kind b (suc i)) && is_again b (suc i)) ≡ true =
      ap (λ (k : Option Kind). not (is_single k && is_again b (suc i))) kind_there
      ∙ ap (λ (x : Bool). not (is_single (written_kind s n (suc i)) && x)) (again_is b o flags s n is w (suc i) here) ∙ a.once i lt in
      section_hold b (suc i) inside named (or_right (suc i == 0) (is_some (kind b (suc i))) known) once (kept_short (suc i) here)

  section_holds : AreSections s n → (i : ℕ) → i < n + 1 → AllHold (section_rules b i)
  section_holds a zero lt = zero_holds a
  section_holds a (suc i) lt = row_holds a i (omega (arith, lt))

  -- ---- the targets of tables of relocations

  count_is : number.count b ≡ n + 1
  count_is = (has_file_header b o flags s n is w).count

  target_is : (i target : ℕ) → i < n + 1 → target < n + 1 → is_target b i target ≡ is_written_target s n i target
  target_is i target lt there =
      let its_name = row_name b o flags s n is w i lt in
      let target_name = row_name b o flags s n is w target there in
      let its_kind = kind_is b o flags s n is w i lt in
      let target_kind = kind_is b o flags s n is w target there in
      ap (λ (c : ℕ). target_test c target (name b i) (name b target) (kind b i) (kind b target)) count_is
      ∙ ap (λ (x : List ℕ). target_test (n + 1) target x (name b target) (kind b i) (kind b target)) its_name
      ∙ ap (λ (x : List ℕ). target_test (n + 1) target (written_name s n i) x (kind b i) (kind b target)) target_name
      ∙ ap (λ (k : Option Kind). target_test (n + 1) target (written_name s n i) (written_name s n target) k (kind b target)) its_kind
      ∙ ap (λ (k : Option Kind). target_test (n + 1) target (written_name s n i) (written_name s n target) (written_kind s n i) k) target_kind

  target_there : (i target : ℕ) → i < n + 1 → is_written_target s n i target ≡ true → is_target b i target ≡ true
  target_there i target lt h =
      let parts = and_parts (nat_lt 0 target && nat_lt target (n + 1)) (is_table_name (written_name s n i) (written_name s n target) && (not (is_kind Relocations (written_kind s n i)) || is_kind Data (written_kind s n target))) h in
      let below = and_parts (nat_lt 0 target) (nat_lt target (n + 1)) parts.0 in
      target_is i target lt (test_below target (n + 1) below.1) ∙ h

  row_target_holds : AreSections s n → (i : ℕ) → i < n → AllHold (target_rules b (suc i))
  row_target_holds a i lt =
      let type = row_type b o flags s n is w i lt in
      let info : number.info b (suc i) ≡ (s i).info = ap (λ (k : ℕ). number.info b k) (next i) ∙ (has_header b o flags s n is w i lt).info in
      let other = λ (t : ℕ). not (t == SHT_REL) in
      target_hold b (suc i) (elim (or_cases (other (s i).type) (is_written_target s n (suc i) (s i).info) (a.targets i lt)) [
        | inl not_one ↦ or_left (other (number.type b (suc i))) (is_target b (suc i) (number.info b (suc i))) (ap other type ∙ not_one)
        | inr fits ↦
            or_right (other (number.type b (suc i))) (is_target b (suc i) (number.info b (suc i)))
            (ap (λ (t : ℕ). is_target b (suc i) t) info ∙ target_there (suc i) (s i).info (omega (arith, lt)) fits)
      ])

  zero_target_holds : AllHold (target_rules b 0)
  zero_target_holds =
      target_hold b 0 (ap (λ (t : ℕ). not (t == SHT_REL) || is_target b 0 (number.info b 0)) (has_zero_header b o flags s n is w).type)

  target_holds : AreSections s n → (i : ℕ) → i < n + 1 → AllHold (target_rules b i)
  target_holds a zero lt = zero_target_holds
  target_holds a (suc i) lt = row_target_holds a i (omega (arith, lt))

  -- all rules on sections
  pub all_sections_hold : AreSections s n → AllHold (all_section_rules b)
  all_sections_hold a =
      both_hold (table_rules b) (each (number.count b) (section_rules b) ++ each (number.count b) (target_rules b)) (table_holds b o flags s n is w a.names_type a.names_closed)
      (both_hold (each (number.count b) (section_rules b)) (each (number.count b) (target_rules b))
      (all_hold (number.count b) (section_rules b) (λ i lt. section_holds a i (omega (arith, lt, count_is))))
      (all_hold (number.count b) (target_rules b) (λ i lt. target_holds a i (omega (arith, lt, count_is)))))
