-- The .BTF.ext of a canonical file is accepted, and says what that of its object says.
use Rattle.std.proofs.Common.{◌≡◌, ℕ, zero, suc, ◌+◌, ◌%◌, ◌^◌, ◌<◌, ◌≤◌, ◌==◌, ◌&&◌, Bool, true, false, not, Some, None, if◌then◌else◌, List, [], ◌∷◌, ◌++◌, length, get_or, inl, inr, refl, sym, ap, subst, ◌∙◌, lit<, length-append, arith}
use Rattle.std.specs.{Prelude.nat_lt, Prelude.nat_le, List.All, List.AllZip, List.flat_map}
use Rattle.std.proofs.lemmas.Bool.{cases_lt, and_from, ne_eqb}
use Rattle.bpf_words.specs.{declared.Order.Order, Words.word32}
use Rattle.bpf_words.proofs.WordLemmas.{length-word32}
use Rattle.bpf_elf.specs.{Header.FILE_LIMIT, Names.NAME_LIMIT, Names.string_at, Rules.AllHold}
use Rattle.bpf_elf.proofs.RuleLemmas.{both_hold}
use Rattle.btf_raw.specs.{Header.STRINGS_LIMIT}
use Rattle.btf_types.specs.Names.{names}
use Rattle.btf_types.proofs.Members.{Has}
use Rattle.bpf_object.specs.Faults.{ObjectRule}
use Rattle.bpf_object.specs.FunctionLines.{pairs_of, pair_in, is_recorded, keeps_lines}
use Rattle.bpf_object.specs.declared.extension.Part.{Part, TheVariants.Functions, TheVariants.Lines, TheVariants.Relocations}
use Rattle.bpf_object.specs.Objects.{Function, CoreRelocation, Group, ObjectTypes}
use Rattle.bpf_object.specs.Canonical.{strings_of, offset_of, function_strings, relocation_strings, extension_strings, types_strings, group_bytes, part_bytes, function_bytes, line_bytes, relocation_bytes, functions_part, lines_part, relocations_part, extension_bytes, has_extension}
use Rattle.bpf_object.specs.Extension.{Section, part_len, groups, head_rules, part_rules}
use Rattle.bpf_object.specs.Groups.{same_number, function_groups, relocation_groups}
use Rattle.bpf_object.specs.Lines.{lines_part as part_with_lines, pairs_rules, accesses_rules, section_rules, extension_rules}
use Rattle.bpf_object.proofs.{ReadBackTests.less_test, ReadBackTests.most_test}
use Rattle.bpf_object.proofs.CanonNames.{has_left, has_right, has_mapped, name_reads, name_inside}
use Rattle.bpf_object.proofs.CanonBtfKept.{has_flat}
use Rattle.bpf_object.proofs.CanonGroups.{FitsGroup, IsNamed, IsPartAt, groups_of_part, part_quarter, part_kept}
use Rattle.bpf_object.proofs.CanonExtensionHead.{header_len_is, functions_offset, functions_len, functions_there, lines_offset, lines_len, lines_there, relocations_offset, relocations_len, relocations_there, head_kept}
use Rattle.bpf_object.proofs.CanonFunctions.{is_kept_by, pairs_kept_back}
use Rattle.bpf_object.proofs.CanonExtensionValid.{no_function, no_core_relocation, are_apart, IsValidGroup, AreValidFunctions, AreValidRelocations}
use Rattle.bpf_object.proofs.CanonExtensionRecords.{function_size, line_size, relocation_size, AtFunctions, AtLines, AtRelocations, IsRead, AreNoted, functions_back, pairs_kept, relocations_back, accesses_kept}

-- what .BTF.ext says of code keeps the rules
pub record IsValidExtension (t : ObjectTypes) : Type 0 where
  pub functions : All AreValidFunctions t.functions
  pub apart : are_apart [] t.functions ≡ true
  pub relocations : All AreValidRelocations t.relocations

-- a section that keeps the rules and says the same
pub record SaysExtension (x : Section) (t : ObjectTypes) : Type 0 where
  pub rules : (symbols : List ObjectRule) → AllHold symbols → AllHold (extension_rules x symbols)
  pub lines : (name : List ℕ) (value size : ℕ) → is_kept_by t.functions name value size ≡ true → keeps_lines x name value size ≡ true
  pub functions : function_groups same_number x ≡ t.functions
  pub relocations : relocation_groups same_number x ≡ t.relocations

-- ---- which strings .BTF has

function_name_there : (t : ObjectTypes) (i : ℕ) (d : Group Function) → i < length t.functions → Has (types_strings t) (get_or t.functions i d).section
function_name_there t i d lt =
    let name = (get_or t.functions i d).section in
    has_right (names t.records) (extension_strings t) name
    (has_left (flat_map function_strings t.functions) (flat_map relocation_strings t.relocations) name (has_flat function_strings t.functions i d name lt (inl refl)))

relocation_string_there : (t : ObjectTypes) (i : ℕ) (d : Group CoreRelocation) (name : List ℕ) → i < length t.relocations → Has (relocation_strings (get_or t.relocations i d)) name
    → Has (types_strings t) name
relocation_string_there t i d name lt h =
    has_right (names t.records) (extension_strings t) name
    (has_right (flat_map function_strings t.functions) (flat_map relocation_strings t.relocations) name (has_flat relocation_strings t.relocations i d name lt h))

-- a valid group whose name is among these strings
record IsValidName {R : Type 0} (xs : List (List ℕ)) (gr : Group R) : Type 0 where
  group : IsValidGroup gr
  has : Has xs gr.section

group_fits : {R : Type 0} (xs : List (List ℕ)) → length (strings_of xs) ≤ STRINGS_LIMIT → (gr : Group R) → IsValidName xs gr → FitsGroup (offset_of xs) gr
group_fits xs short gr its = record { name = omega (arith, short, name_inside xs gr.section its.has its.group.section); few = its.group.few }

group_named : {R : Type 0} (xs : List (List ℕ)) (gr : Group R) → IsValidName xs gr → IsNamed (offset_of xs) (strings_of xs) gr
group_named xs gr its =
    let place = offset_of xs gr.section in
    let short = its.group.short in
    record {
      some = its.group.some;
      named =
          and_from (nat_lt place (length (strings_of xs))) (nat_le (length (string_at (strings_of xs) place)) NAME_LIMIT)
          (less_test place (length (strings_of xs)) (name_inside xs gr.section its.has its.group.section))
          (most_test (length (string_at (strings_of xs) place)) NAME_LIMIT (omega (arith, short, ap length (name_reads xs gr.section its.has its.group.section))));
    }

-- ---- it isn't empty

no_places : {A : Type 0} (P : A → ℕ → Type 0) (xs : List A) (places : List ℕ) → AllZip P xs places → xs ≡ [] → places ≡ []
no_places P [] [] at none = refl
no_places P [] (g ∷ places) at none = absurd at
no_places P (x ∷ xs) places at none = absurd cc

some_groups : (a b : ℕ) → not (a == 0 && b == 0) ≡ true → 0 < a + b
some_groups zero zero h = absurd cc
some_groups zero (suc b) h = omega arith
some_groups (suc a) b h = omega arith

some_bytes : {R : Type 0} (o : Order) (size : ℕ) (bytes : Group R → List ℕ) (gs : List (Group R)) → 0 < length gs → 0 < length (part_bytes o size bytes gs)
some_bytes o size bytes [] some = absurd (omega (arith, some))
some_bytes o size bytes (g ∷ gs) some = omega (arith, length-append (word32 o size) (flat_map bytes (g ∷ gs)), length-word32 o size)

module _ (o : Order) (start : ℕ) (t : ObjectTypes) (valid : IsValidExtension t) (strings_fit : length (strings_of (types_strings t)) ≤ STRINGS_LIMIT)
    (short : length (extension_bytes o (offset_of (types_strings t)) t) ≤ FILE_LIMIT) where
  abbrev xs : List (List ℕ)
  xs = types_strings t

  abbrev place : List ℕ → ℕ
  place = offset_of xs

  abbrev strings : List ℕ
  strings = strings_of xs

  -- the section
  abbrev pub written_section : Section
  written_section = record { order = o; start = start; bytes = extension_bytes o place t; strings = strings }

  abbrev x : Section
  x = written_section

  abbrev functions : List ℕ
  functions = functions_part o place t

  abbrev lines : List ℕ
  lines = lines_part o place t

  abbrev relocations : List ℕ
  relocations = relocations_part o place t

  -- ---- the names of groups

  function_name_valid : (i : ℕ) (d : Group Function) → i < length t.functions → IsValidName xs (get_or t.functions i d)
  function_name_valid i d lt = record { group = (valid.functions i d lt).group; has = function_name_there t i d lt }

  relocation_name_valid : (i : ℕ) (d : Group CoreRelocation) → i < length t.relocations → IsValidName xs (get_or t.relocations i d)
  relocation_name_valid i d lt =
      let gr = get_or t.relocations i d in
      record { group = (valid.relocations i d lt).group; has = relocation_string_there t i d gr.section lt (inl refl) }

  functions_fit : All (FitsGroup place) t.functions
  functions_fit i d lt = group_fits xs strings_fit (get_or t.functions i d) (function_name_valid i d lt)

  relocations_fit : All (FitsGroup place) t.relocations
  relocations_fit i d lt = group_fits xs strings_fit (get_or t.relocations i d) (relocation_name_valid i d lt)

  functions_named : All (IsNamed place strings) t.functions
  functions_named i d lt = group_named xs (get_or t.functions i d) (function_name_valid i d lt)

  relocations_named : All (IsNamed place strings) t.relocations
  relocations_named i d lt = group_named xs (get_or t.relocations i d) (relocation_name_valid i d lt)

  functions_read : All (λ gr. IsRead x place gr.section) t.functions
  functions_read i d lt = let its = function_name_valid i d lt in name_reads xs (get_or t.functions i d).section its.has its.group.section

  relocations_read : All (λ gr. IsRead x place gr.section) t.relocations
  relocations_read i d lt = let its = relocation_name_valid i d lt in name_reads xs (get_or t.relocations i d).section its.has its.group.section

  access_there : (i : ℕ) (d : Group CoreRelocation) → i < length t.relocations → (k : ℕ) → k < length (get_or t.relocations i d).records
      → Has xs (get_or (get_or t.relocations i d).records k no_core_relocation).access
  access_there i d lt k there =
      relocation_string_there t i d (get_or (get_or t.relocations i d).records k no_core_relocation).access lt
      (inr (has_mapped (λ r. r.access) (get_or t.relocations i d).records k no_core_relocation there))

  accesses_noted : All (AreNoted x place) t.relocations
  accesses_noted i d lt = record {
    inside = λ k there.
        name_inside xs (get_or (get_or t.relocations i d).records k no_core_relocation).access (access_there i d lt k there) ((valid.relocations i d lt).each k there).access;
    read = λ k there.
        name_reads xs (get_or (get_or t.relocations i d).records k no_core_relocation).access (access_there i d lt k there) ((valid.relocations i d lt).each k there).access;
  }

  -- ---- the parts

  functions_at : IsPartAt x Functions place (function_bytes o) (function_size o) no_function 32 functions
  functions_at =
      let head = header_len_is o start functions lines relocations strings short in
      let offset = functions_offset o start functions lines relocations strings short in
      record {
        start_is = omega (arith, head, offset);
        len_is = functions_len o start functions lines relocations strings short;
        there = functions_there o start functions lines relocations strings short;
        offset = ap (λ (n : ℕ). n % 4) offset;
      }

  functions_quarter : length functions % 4 ≡ 0
  functions_quarter = part_quarter x Functions place (function_bytes o) (function_size o) no_function 2 refl t.functions

  lines_quarter : length lines % 4 ≡ 0
  lines_quarter = part_quarter x Lines place (line_bytes o) (line_size o) no_function 4 refl t.functions

  lines_at : IsPartAt x Lines place (line_bytes o) (line_size o) no_function (32 + length functions) lines
  lines_at =
      let head = header_len_is o start functions lines relocations strings short in
      let offset = lines_offset o start functions lines relocations strings short in
      record {
        start_is = omega (arith, head, offset);
        len_is = lines_len o start functions lines relocations strings short;
        there = lines_there o start functions lines relocations strings short;
        offset = ap (λ (n : ℕ). n % 4) offset ∙ functions_quarter;
      }

  relocations_at : IsPartAt x Relocations place (relocation_bytes o place) (relocation_size o place) no_core_relocation (32 + (length functions + length lines)) relocations
  relocations_at =
      let head = header_len_is o start functions lines relocations strings short in
      let offset = relocations_offset o start functions lines relocations strings short in
      record {
        start_is = omega (arith, head, offset);
        len_is = relocations_len o start functions lines relocations strings short;
        there = relocations_there o start functions lines relocations strings short;
        offset = ap (λ (n : ℕ). n % 4) offset ∙ both_quarters (length functions) (length lines) functions_quarter lines_quarter;
      }
    where
      both_quarters : (a b : ℕ) → a % 4 ≡ 0 → b % 4 ≡ 0 → (a + b) % 4 ≡ 0
      both_quarters a b p q = omega (arith, p, q)

  function_places : AllZip (AtFunctions x place) t.functions (groups x Functions)
  function_places = groups_of_part x Functions place (function_bytes o) (function_size o) no_function t.functions 32 functions_at functions_fit

  line_offsets : AllZip (AtLines x place) t.functions (groups x Lines)
  line_offsets = groups_of_part x Lines place (line_bytes o) (line_size o) no_function t.functions (32 + length functions) lines_at functions_fit

  relocation_offsets : AllZip (AtRelocations x place) t.relocations (groups x Relocations)
  relocation_offsets =
      groups_of_part x Relocations place (relocation_bytes o place) (relocation_size o place) no_core_relocation t.relocations (32 + (length functions + length lines))
      relocations_at relocations_fit

  -- ---- the rules

  functions_kept : AllHold (part_rules x Functions)
  functions_kept = part_kept x Functions place (function_bytes o) (function_size o) no_function 2 refl t.functions 32 functions_at (lit< tt) functions_fit functions_named

  lines_kept : AllHold (part_rules x Lines)
  lines_kept = part_kept x Lines place (line_bytes o) (line_size o) no_function 4 refl t.functions (32 + length functions) lines_at (lit< tt) functions_fit functions_named

  relocations_kept : AllHold (part_rules x Relocations)
  relocations_kept =
      part_kept x Relocations place (relocation_bytes o place) (relocation_size o place) no_core_relocation 4 refl t.relocations (32 + (length functions + length lines))
      relocations_at (lit< tt) relocations_fit relocations_named

  some_parts : has_extension t ≡ true → 0 < length functions + length lines + length relocations
  some_parts has =
      let some = some_groups (length t.functions) (length t.relocations) has in
      elim (cases_lt 0 (length t.functions)) [
        | inl there ↦ omega (arith, some_bytes o 8 (group_bytes o place (function_bytes o)) t.functions there)
        | inr none ↦ omega (arith, some_bytes o 16 (group_bytes o place (relocation_bytes o place)) t.relocations (omega (arith, some, none)))
      ]

  strings_low : length strings < 2 ^ 32
  strings_low = omega (arith, strings_fit)

  -- the part that has the lines: that of functions, if both are empty
  has_lines : (gr : Group Function) (grs : List (Group Function)) → t.functions ≡ gr ∷ grs → part_with_lines x ≡ Lines
  has_lines gr grs some =
      let len = lines_len o start functions lines relocations strings short in
      let long : 0 < length lines = some_bytes o 16 (group_bytes o place (line_bytes o)) t.functions (omega (arith, ap length some)) in
      ap (λ (y : Bool). if y then Functions else Lines) (ne_eqb (part_len x Lines) 0 (λ e. omega (arith, e, len, long)))

  no_groups : t.functions ≡ [] → (y : Bool) → groups x (if y then Functions else Lines) ≡ []
  no_groups none true = no_places (AtFunctions x place) t.functions (groups x Functions) function_places none
  no_groups none false = no_places (AtLines x place) t.functions (groups x Lines) line_offsets none

  no_functions : t.functions ≡ [] → groups x Functions ≡ []
  no_functions none = no_groups none true

  no_lines : t.functions ≡ [] → groups x (part_with_lines x) ≡ []
  no_lines none = no_groups none (part_len x Lines == 0)

  pairs_hold : (gs : List (Group Function)) → t.functions ≡ gs → AllHold (pairs_rules x (part_with_lines x) [] (groups x Functions) (groups x (part_with_lines x)))
  pairs_hold [] none =
      subst (λ (fs : List ℕ). AllHold (pairs_rules x (part_with_lines x) [] fs (groups x (part_with_lines x)))) (sym (no_functions none))
      (subst (λ (ls : List ℕ). AllHold (pairs_rules x (part_with_lines x) [] [] ls)) (sym (no_lines none)) refl)
  pairs_hold (gr ∷ grs) some =
      subst (λ (p : Part). AllHold (pairs_rules x p [] (groups x Functions) (groups x p))) (sym (has_lines gr grs some))
      (pairs_kept x place [] t.functions (groups x Functions) (groups x Lines) valid.functions valid.apart functions_read function_places line_offsets)

  symbol_lines : (gs : List (Group Function)) → t.functions ≡ gs → (name : List ℕ) (value size : ℕ) → is_kept_by t.functions name value size ≡ true → keeps_lines x name value size ≡ true
  symbol_lines [] none name value size h =
      subst (λ (fs : List ℕ). elim (pair_in x (pairs_of fs (groups x (part_with_lines x))) name) [ None ↦ true | Some pair ↦ is_recorded x (part_with_lines x) pair value size ] ≡ true)
      (sym (no_functions none)) refl
  symbol_lines (gr ∷ grs) some name value size h =
      subst (λ (p : Part). elim (pair_in x (pairs_of (groups x Functions) (groups x p)) name) [ None ↦ true | Some pair ↦ is_recorded x p pair value size ] ≡ true)
      (sym (has_lines gr grs some))
      (pairs_kept_back x place t.functions (groups x Functions) (groups x Lines) name value size valid.functions functions_read function_places line_offsets h)

  accesses_hold : AllHold (accesses_rules x (groups x Relocations))
  accesses_hold = accesses_kept x place strings_low t.relocations (groups x Relocations) valid.relocations accesses_noted relocation_offsets

  section_kept : has_extension t ≡ true → AllHold (section_rules x)
  section_kept has =
      let pairs = pairs_rules x (part_with_lines x) [] (groups x Functions) (groups x (part_with_lines x)) in
      let head = head_kept o start functions lines relocations strings short (some_parts has) in
      both_hold (head_rules x) (part_rules x Functions ++ (part_rules x Lines ++ (part_rules x Relocations ++ pairs))) head
      (both_hold (part_rules x Functions) (part_rules x Lines ++ (part_rules x Relocations ++ pairs)) functions_kept
      (both_hold (part_rules x Lines) (part_rules x Relocations ++ pairs) lines_kept (both_hold (part_rules x Relocations) pairs relocations_kept (pairs_hold t.functions refl))))

  pub extension_said : has_extension t ≡ true → SaysExtension written_section t
  extension_said has = record {
    rules = λ symbols hold.
        both_hold (section_rules x) (symbols ++ accesses_rules x (groups x Relocations)) (section_kept has)
        (both_hold symbols (accesses_rules x (groups x Relocations)) hold accesses_hold);
    lines = symbol_lines t.functions refl;
    functions = functions_back x place t.functions (groups x Functions) valid.functions functions_read function_places;
    relocations = relocations_back x place strings_low t.relocations (groups x Relocations) valid.relocations relocations_read accesses_noted relocation_offsets;
  }
