-- What the rules on .BTF.ext say of its functions and CO-RE relocations.
use Rattle.std.proofs.Common.{◌≡◌, ℕ, zero, suc, ◌+◌, ◌-◌, ◌^◌, ◌<◌, ◌≤◌, ◌==◌, ◌&&◌, ◌||◌, Bool, true, not, List, [], ◌∷◌, ◌++◌, length, get_or, map, refl, sym, ap, subst, ◌∙◌, arith}
use Rattle.std.specs.Prelude.{nat_lt, nat_le}
use Rattle.std.specs.{List.All, Str.bytes_eq}
use Rattle.std.proofs.lemmas.Bool.{and_parts, and_from, ltb-true, leb-true}
use Rattle.std.proofs.lemmas.List.Elements.{All-nil, All-cons}
use Rattle.bpf_words.specs.Words.{IsBytes}
use Rattle.bpf_words.proofs.WordLemmas.{word32_at-below}
use Rattle.bpf_elf.specs.Names.{NAME_LIMIT}
use Rattle.bpf_elf.specs.Rules.{AllHold, each}
use Rattle.bpf_elf.proofs.RuleLemmas.{first_hold, rest_hold}
use Rattle.btf_raw.specs.Names.{IsWithoutNul}
use Rattle.bpf_object.specs.declared.extension.Part.{Part, TheVariants.Functions, TheVariants.Lines, TheVariants.Relocations}
use Rattle.bpf_object.specs.Objects.{Function, CoreRelocation, Group}
use Rattle.bpf_object.specs.Extension.{Section, word, group_count, group_name, groups, next_group, part_end, head_rules, group_rules, groups_rules, form_rules, part_rules, record_offset}
use Rattle.bpf_object.specs.Groups.{function_at, access_off, relocation_at, renewed_function, renewed_relocation, function_group, relocation_group, function_groups, relocation_groups}
use Rattle.bpf_object.specs.{Faults.ObjectRule, Kept.listed}
use Rattle.bpf_object.specs.Lines.{name_of, insn_off, all_of, ascends, lines_part, have_lines, is_among, is_pair, pairs_rules, section_rules}
use Rattle.bpf_object.proofs.CanonRules.{rule_holds, string_without_nul}
use Rattle.bpf_object.proofs.KeptLemmas.{length-all, get-all}

-- ---- valid groups

abbrev pub no_function : Function
no_function = record { offset = 0; type = 0 }

abbrev pub no_core_relocation : CoreRelocation
no_core_relocation = record { offset = 0; type = 0; access = []; kind = 0 }

-- the offsets of functions ascend
abbrev pub offsets_ascend : List Function → Bool
offsets_ascend fs = all_of (length fs) (λ k. k == 0 || nat_lt (get_or fs (k - 1) no_function).offset (get_or fs k no_function).offset)

-- the section and the number of records of a group
pub record IsValidGroup {R : Type 0} (gr : Group R) : Type 0 where
  pub section : IsWithoutNul gr.section
  pub short : length gr.section ≤ NAME_LIMIT
  pub some : 0 < length gr.records
  pub few : length gr.records < 2 ^ 32

pub record IsValidFunction (f : Function) : Type 0 where
  pub offset : f.offset < 2 ^ 32
  pub type : f.type < 2 ^ 32

pub record AreValidFunctions (gr : Group Function) : Type 0 where
  pub group : IsValidGroup gr
  pub each : (k : ℕ) → k < length gr.records → IsValidFunction (get_or gr.records k no_function)
  pub ascend : offsets_ascend gr.records ≡ true

pub record IsValidCore (r : CoreRelocation) : Type 0 where
  pub offset : r.offset < 2 ^ 32
  pub type : r.type < 2 ^ 32
  pub access : IsWithoutNul r.access
  pub kind : r.kind < 2 ^ 32

pub record AreValidRelocations (gr : Group CoreRelocation) : Type 0 where
  pub group : IsValidGroup gr
  pub each : (k : ℕ) → k < length gr.records → IsValidCore (get_or gr.records k no_core_relocation)

-- no two groups are of sections with one name, nor of one with an earlier name
abbrev pub are_apart : List (List ℕ) → List (Group Function) → Bool
are_apart earlier [] = true
are_apart earlier (gr ∷ gs) = not (is_among earlier gr.section) && are_apart (earlier ++ gr.section ∷ []) gs

-- ---- tests of the first numbers

pub all_same : (n : ℕ) (f g : ℕ → Bool) → ((k : ℕ) → k < n → f k ≡ g k) → all_of n f ≡ all_of n g
all_same zero f g same = refl
all_same (suc n) f g same =
    ap (λ (y : Bool). y && f n) (all_same n f g (λ k lt. same k (omega (arith, lt)))) ∙ ap (λ (y : Bool). all_of n g && y) (same n (omega arith))

-- the offsets of a group are those of these functions
pub ascends_is : (x : Section) (p : Part) (g : ℕ) (fs : List Function) → group_count x g ≡ length fs
    → ((k : ℕ) → k < length fs → insn_off x p g k ≡ (get_or fs k no_function).offset) → ascends x p g ≡ offsets_ascend fs
ascends_is x p g fs count each =
    ap (λ (n : ℕ). all_of n (λ k. k == 0 || nat_lt (insn_off x p g (k - 1)) (insn_off x p g k))) count
    ∙ all_same (length fs) (λ k. k == 0 || nat_lt (insn_off x p g (k - 1)) (insn_off x p g k))
    (λ k. k == 0 || nat_lt (get_or fs (k - 1) no_function).offset (get_or fs k no_function).offset)
    (λ k lt.
    ap (λ (a : ℕ). k == 0 || nat_lt a (insn_off x p g k)) (each (k - 1) (omega (arith, lt)))
    ∙ ap (λ (a : ℕ). k == 0 || nat_lt (get_or fs (k - 1) no_function).offset a) (each k lt))

-- ---- what a file that keeps the rules has

module _ (x : Section) (bytes : IsBytes x.bytes) (new : ℕ → ℕ) (low : (n : ℕ) → n < 2 ^ 32 → new n < 2 ^ 32) where
  abbrev function : ℕ → ℕ → Function
  function g k = renewed_function new (function_at x g k)

  abbrev relocation : ℕ → ℕ → CoreRelocation
  relocation g k = renewed_relocation new (relocation_at x g k)

  word_low : (i : ℕ) → word x i < 2 ^ 32
  word_low i = word32_at-below x.order x.bytes i bytes

  -- a group that keeps its rules
  pub record KeepsGroup (g : ℕ) : Type 0 where
    pub some : 0 < group_count x g
    pub short : length (name_of x g) ≤ NAME_LIMIT

  group_facts : (p : Part) (g : ℕ) → AllHold (group_rules x p g) → KeepsGroup g
  group_facts p g h =
      let first = rule_holds _ _ _ h in
      let counted = and_parts (nat_le (next_group x p g) (part_end x p)) (nat_lt 0 (group_count x g)) first.0 in
      let named = and_parts (nat_lt (group_name x g) (length x.strings)) (nat_le (length (name_of x g)) NAME_LIMIT) (rule_holds _ _ _ first.1).0 in
      record { some = ltb-true _ _ counted.1; short = leb-true _ _ named.1 }

  valid_group : {R : Type 0} (f : ℕ → R) (g : ℕ) → KeepsGroup g → IsValidGroup (record { section = name_of x g; records = listed (λ k. true) f (group_count x g) })
  valid_group f g keeps =
      let some = keeps.some in
      let low = word_low (g + 4) in
      record {
        section = string_without_nul x.strings (group_name x g);
        short = keeps.short;
        some = omega (arith, some, length-all f (group_count x g));
        few = omega (arith, low, length-all f (group_count x g));
      }

  -- ---- functions

  valid_functions : (p : Part) (f l : ℕ) → AllHold (group_rules x Functions f) → is_pair x p f l ≡ true → AreValidFunctions (function_group new x f)
  valid_functions p f l rules pair =
      let count = length-all (function f) (group_count x f) in
      let at : (k : ℕ) → k < length (function_group new x f).records → get_or (function_group new x f).records k no_function ≡ function f k =
      λ k lt. get-all (function f) (group_count x f) k no_function (omega (arith, lt, count)) in
      let rest = and_parts (bytes_eq (name_of x f) (name_of x l)) (ascends x Functions f && (ascends x p l && have_lines x p f l)) pair in
      let ascend = (and_parts (ascends x Functions f) (ascends x p l && have_lines x p f l) rest.1).0 in
      record {
        group = valid_group (function f) f (group_facts Functions f rules);
        each = λ k lt.
            subst IsValidFunction (sym (at k lt))
            (record { offset = word_low (record_offset Functions f k); type = low (word x (record_offset Functions f k + 4)) (word_low (record_offset Functions f k + 4)) });
        ascend =
            sym (ascends_is x Functions f (function_group new x f).records (sym count) (λ k lt. ap (λ (h : Function). h.offset) (sym (at k lt)))) ∙ ascend;
      }

  all_functions : (p : Part) (earlier : List (List ℕ)) (fs ls : List ℕ) → AllHold (groups_rules x Functions fs) → AllHold (pairs_rules x p earlier fs ls)
      → All AreValidFunctions (map (function_group new x) fs)
  all_functions p earlier [] ls rules pairs = All-nil AreValidFunctions
  all_functions p earlier (f ∷ fs) [] rules pairs = absurd cc
  all_functions p earlier (f ∷ fs) (l ∷ ls) rules pairs =
      let pair = rule_holds _ _ _ pairs in
      All-cons AreValidFunctions (function_group new x f) (map (function_group new x) fs)
      (valid_functions p f l (first_hold (group_rules x Functions f) (groups_rules x Functions fs) rules) pair.0)
      (all_functions p (earlier ++ name_of x f ∷ []) fs ls (rest_hold (group_rules x Functions f) (groups_rules x Functions fs) rules) (rule_holds _ _ _ pair.1).1)

  all_apart : (p : Part) (earlier : List (List ℕ)) (fs ls : List ℕ) → AllHold (pairs_rules x p earlier fs ls) → are_apart earlier (map (function_group new x) fs) ≡ true
  all_apart p earlier [] ls pairs = refl
  all_apart p earlier (f ∷ fs) [] pairs = absurd cc
  all_apart p earlier (f ∷ fs) (l ∷ ls) pairs =
      let other = rule_holds _ _ _ (rule_holds _ _ _ pairs).1 in
      and_from (not (is_among earlier (name_of x f))) (are_apart (earlier ++ name_of x f ∷ []) (map (function_group new x) fs)) other.0
      (all_apart p (earlier ++ name_of x f ∷ []) fs ls other.1)

  -- ---- CO-RE relocations

  valid_relocations : (g : ℕ) → AllHold (group_rules x Relocations g) → AreValidRelocations (relocation_group new x g)
  valid_relocations g rules =
      let count = length-all (relocation g) (group_count x g) in
      record {
        group = valid_group (relocation g) g (group_facts Relocations g rules);
        each = λ k lt.
            subst IsValidCore (sym (get-all (relocation g) (group_count x g) k no_core_relocation (omega (arith, lt, count))))
            (record {
              offset = word_low (record_offset Relocations g k);
              type = low (word x (record_offset Relocations g k + 4)) (word_low (record_offset Relocations g k + 4));
              access = string_without_nul x.strings (access_off x g k);
              kind = word_low (record_offset Relocations g k + 12);
            });
      }

  all_relocations : (gs : List ℕ) → AllHold (groups_rules x Relocations gs) → All AreValidRelocations (map (relocation_group new x) gs)
  all_relocations [] rules = All-nil AreValidRelocations
  all_relocations (g ∷ gs) rules =
      All-cons AreValidRelocations (relocation_group new x g) (map (relocation_group new x) gs)
      (valid_relocations g (first_hold (group_rules x Relocations g) (groups_rules x Relocations gs) rules))
      (all_relocations gs (rest_hold (group_rules x Relocations g) (groups_rules x Relocations gs) rules))

  -- ---- the section

  module _ (rules : AllHold (section_rules x)) where
    abbrev pair_rules : List ObjectRule
    pair_rules = pairs_rules x (lines_part x) [] (groups x Functions) (groups x (lines_part x))

    after_head : AllHold (part_rules x Functions ++ (part_rules x Lines ++ (part_rules x Relocations ++ pair_rules)))
    after_head = rest_hold (head_rules x) (part_rules x Functions ++ (part_rules x Lines ++ (part_rules x Relocations ++ pair_rules))) rules

    after_functions : AllHold (part_rules x Lines ++ (part_rules x Relocations ++ pair_rules))
    after_functions = rest_hold (part_rules x Functions) (part_rules x Lines ++ (part_rules x Relocations ++ pair_rules)) after_head

    after_lines : AllHold (part_rules x Relocations ++ pair_rules)
    after_lines = rest_hold (part_rules x Lines) (part_rules x Relocations ++ pair_rules) after_functions

    groups_of : (p : Part) → AllHold (part_rules x p) → AllHold (groups_rules x p (groups x p))
    groups_of p h = rest_hold (form_rules x p) (groups_rules x p (groups x p)) h

    pub held_pairs : AllHold (pairs_rules x (lines_part x) [] (groups x Functions) (groups x (lines_part x)))
    held_pairs = rest_hold (part_rules x Relocations) pair_rules after_lines

    pub held_functions : All AreValidFunctions (function_groups new x)
    held_functions =
        all_functions (lines_part x) [] (groups x Functions) (groups x (lines_part x))
        (groups_of Functions (first_hold (part_rules x Functions) (part_rules x Lines ++ (part_rules x Relocations ++ pair_rules)) after_head)) held_pairs

    pub held_apart : are_apart [] (function_groups new x) ≡ true
    held_apart = all_apart (lines_part x) [] (groups x Functions) (groups x (lines_part x)) held_pairs

    pub held_relocations : All AreValidRelocations (relocation_groups new x)
    held_relocations = all_relocations (groups x Relocations) (groups_of Relocations (first_hold (part_rules x Relocations) pair_rules after_lines))
