-- The rule on the symbols of functions, by the functions of an object.
use Rattle.std.proofs.Common.{◌≡◌, ℕ, zero, suc, ◌+◌, ◌<◌, ◌==◌, ◌&&◌, ◌||◌, Bool, true, false, cond, not, Option, Some, None, List, [], ◌∷◌, ◌++◌, length, get_or, map, inl, inr, refl, sym, ap, ◌∙◌, subst, arith}
use Rattle.std.specs.Prelude.{nat_lt, nat_le}
use Rattle.std.specs.{List.All, List.AllZip, List.find, Str.bytes_eq}
use Rattle.std.proofs.lemmas.Bool.{cases_Bool, and_parts, or_cases, or_left, or_right, not-true, not_from_false, eqb-true}
use Rattle.std.proofs.lemmas.List.Elements.{All-head, All-tail}
use Rattle.bpf_elf.specs.Rules.{AllHold}
use Rattle.bpf_elf.proofs.KindLemmas.{true_false}
use Rattle.bpf_object.specs.declared.{extension.Part.Part}
use Rattle.bpf_object.specs.declared.extension.Part.TheVariants.{Functions, Lines}
use Rattle.bpf_object.specs.Extension.{Section, group_count}
use Rattle.bpf_object.specs.FunctionLines.{pairs_of, pair_in, has_record_within, is_recorded}
use Rattle.bpf_object.specs.Groups.{function_at, renewed_function, function_group}
use Rattle.bpf_object.specs.Lines.{name_of, insn_off, any_of, ascends, has_record, have_lines, is_pair, pairs_rules}
use Rattle.bpf_object.specs.Objects.{Function, Group}
use Rattle.bpf_object.proofs.CanonExtensionRecords.{AtFunctions, AtLines, IsRead, function_offset, line_offset, function_name}
use Rattle.bpf_object.proofs.CanonExtensionValid.{no_function, AreValidFunctions}
use Rattle.bpf_object.proofs.CanonRules.{rule_holds}
use Rattle.bpf_object.proofs.KeptLemmas.{length-all, get-all}
use Rattle.bpf_object.proofs.TestLemmas.{all_holds, any_found, any_none}

-- ---- the rule

-- a function has an offset, or one from an offset to below another
abbrev pub has_function : List Function → ℕ → Bool
has_function fs off = any_of (length fs) (λ k. (get_or fs k no_function).offset == off)

abbrev pub has_function_within : List Function → ℕ → ℕ → Bool
has_function_within fs from to = any_of (length fs) (λ k. nat_le from (get_or fs k no_function).offset && nat_lt (get_or fs k no_function).offset to)

abbrev pub is_kept_in : List Function → ℕ → ℕ → Bool
is_kept_in fs value size = has_function fs value || not (has_function_within fs value (value + size))

-- a symbol of a function in the section with a name has a record at its value, or none in its bytes, if there are records of that section
abbrev pub is_kept_by : List (Group Function) → List ℕ → ℕ → ℕ → Bool
is_kept_by gs name value size = elim (find (λ gr. bytes_eq gr.section name) gs) [ None ↦ true | Some gr ↦ is_kept_in gr.records value size ]

-- ---- tests of the first numbers

any_same : (n : ℕ) (f g : ℕ → Bool) → ((k : ℕ) → k < n → f k ≡ g k) → any_of n f ≡ any_of n g
any_same zero f g same = refl
any_same (suc n) f g same =
    ap (λ (y : Bool). y || f n) (any_same n f g (λ k lt. same k (omega (arith, lt)))) ∙ ap (λ (y : Bool). any_of n g || y) (same n (omega arith))

any_index : (n : ℕ) (test : ℕ → Bool) → any_of n test ≡ true → (k : ℕ) × ((k < n) × (test k ≡ true))
any_index zero test h = absurd (true_false (sym h))
any_index (suc n) test h = elim (or_cases (any_of n test) (test n) h) [
  | inl before ↦ let there = any_index n test before in (there.0, (omega (arith, there.1.0), there.1.1))
  | inr here ↦ (n, (omega arith, here))
]

either_kept : {A B : Type 0} (t : Bool) (a : A) (b : B) (others : Option A) (rest : Option B) (P : A → Bool) (Q : B → Bool) → (P a ≡ true → Q b ≡ true)
    → (elim others [ None ↦ true | Some x ↦ P x ] ≡ true → elim rest [ None ↦ true | Some x ↦ Q x ] ≡ true)
    → elim (cond t (Some a) others) [ None ↦ true | Some x ↦ P x ] ≡ true → elim (cond t (Some b) rest) [ None ↦ true | Some x ↦ Q x ] ≡ true
either_kept true a b others rest P Q first next h = first h
either_kept false a b others rest P Q first next h = next h

-- ---- the functions of a section that keeps its rules

module _ (x : Section) (p : Part) (new : ℕ → ℕ) where
  offset_at : (f k : ℕ) → k < group_count x f → (get_or (function_group new x f).records k no_function).offset ≡ insn_off x Functions f k
  offset_at f k lt = ap (λ (h : Function). h.offset) (get-all (λ k. renewed_function new (function_at x f k)) (group_count x f) k no_function lt)

  function_there : (f off : ℕ) → has_record x Functions f off ≡ true → has_function (function_group new x f).records off ≡ true
  function_there f off h =
      let it = any_index (group_count x f) (λ k. insn_off x Functions f k == off) h in
      any_found (length (function_group new x f).records) it.0 (λ k. (get_or (function_group new x f).records k no_function).offset == off)
      (omega (arith, it.1.0, length-all (λ k. renewed_function new (function_at x f k)) (group_count x f))) (ap (λ (n : ℕ). n == off) (offset_at f it.0 it.1.0) ∙ it.1.1)

  -- if no line is there, no function is
  none_within : (f l from to : ℕ) → have_lines x p f l ≡ true → has_record_within x p l from to ≡ false → has_function_within (function_group new x f).records from to ≡ false
  none_within f l from to lines none =
      let fs = (function_group new x f).records in
      let test = λ (k : ℕ). nat_le from (get_or fs k no_function).offset && nat_lt (get_or fs k no_function).offset to in
      any_none (length fs) test
      (λ k lt. elim (cases_Bool (test k)) [
        | inr other ↦ other
        | inl within ↦
            let there : k < group_count x f = omega (arith, lt, length-all (λ k. renewed_function new (function_at x f k)) (group_count x f)) in
            let line = any_index (group_count x l) (λ j. insn_off x p l j == insn_off x Functions f k)
            (all_holds (group_count x f) k (λ i. has_record x p l (insn_off x Functions f i)) there lines) in
            let same : (get_or fs k no_function).offset ≡ insn_off x p l line.0 = offset_at f k there ∙ sym (eqb-true _ _ line.1.1) in
            let found : has_record_within x p l from to ≡ true =
            any_found (group_count x l) line.0 (λ j. nat_le from (insn_off x p l j) && nat_lt (insn_off x p l j) to) line.1.0
            (ap (λ (n : ℕ). nat_le from n && nat_lt n to) (sym same) ∙ within) in
            absurd (true_false (sym found ∙ none))
      ])

  pair_keeps : (f l value size : ℕ) → is_pair x p f l ≡ true → is_recorded x p (record { functions = f; lines = l }) value size ≡ true
      → is_kept_in (function_group new x f).records value size ≡ true
  pair_keeps f l value size pair h =
      let fs = (function_group new x f).records in
      let within = has_record_within x p l value (value + size) in
      let rest = and_parts (bytes_eq (name_of x f) (name_of x l)) (ascends x Functions f && (ascends x p l && have_lines x p f l)) pair in
      let lines = (and_parts (ascends x p l) (have_lines x p f l) (and_parts (ascends x Functions f) (ascends x p l && have_lines x p f l) rest.1).1).1 in
      elim (or_cases (has_record x Functions f value) (not within) h) [
        | inl there ↦ or_left (has_function fs value) (not (has_function_within fs value (value + size))) (function_there f value there)
        | inr none ↦
            or_right (has_function fs value) (not (has_function_within fs value (value + size)))
            (not_from_false (has_function_within fs value (value + size)) (none_within f l value (value + size) lines (not-true within none)))
      ]

  pub pairs_keep : (earlier : List (List ℕ)) (fs ls name : List ℕ) (value size : ℕ) → AllHold (pairs_rules x p earlier fs ls)
      → elim (pair_in x (pairs_of fs ls) name) [ None ↦ true | Some pair ↦ is_recorded x p pair value size ] ≡ true → is_kept_by (map (function_group new x) fs) name value size ≡ true
  pairs_keep earlier [] ls name value size rules h = refl
  pairs_keep earlier (f ∷ fs) [] name value size rules h = absurd cc
  pairs_keep earlier (f ∷ fs) (l ∷ ls) name value size rules h =
      let pair = rule_holds _ _ _ rules in
      either_kept (bytes_eq (name_of x f) name) (record { functions = f; lines = l }) (function_group new x f) (pair_in x (pairs_of fs ls) name)
      (find (λ gr. bytes_eq gr.section name) (map (function_group new x) fs)) (λ q. is_recorded x p q value size) (λ gr. is_kept_in gr.records value size)
      (pair_keeps f l value size pair.0) (pairs_keep (earlier ++ name_of x f ∷ []) fs ls name value size (rule_holds _ _ _ pair.1).1) h

-- ---- the functions of a canonical file

module _ (x : Section) (place : List ℕ → ℕ) where
  function_is : (gr : Group Function) (f : ℕ) → AreValidFunctions gr → AtFunctions x place gr f → (off : ℕ) → has_function gr.records off ≡ has_record x Functions f off
  function_is gr f valid at off =
      sym (ap (λ (n : ℕ). any_of n (λ k. insn_off x Functions f k == off)) at.count
      ∙ any_same (length gr.records) (λ k. insn_off x Functions f k == off) (λ k. (get_or gr.records k no_function).offset == off)
      (λ k lt. ap (λ (n : ℕ). n == off) (function_offset x place gr f valid at k lt)))

  within_is : (gr : Group Function) (l : ℕ) → AreValidFunctions gr → AtLines x place gr l → (from to : ℕ) → has_function_within gr.records from to ≡ has_record_within x Lines l from to
  within_is gr l valid at from to =
      sym (ap (λ (n : ℕ). any_of n (λ k. nat_le from (insn_off x Lines l k) && nat_lt (insn_off x Lines l k) to)) at.count
      ∙ any_same (length gr.records) (λ k. nat_le from (insn_off x Lines l k) && nat_lt (insn_off x Lines l k) to)
      (λ k. nat_le from (get_or gr.records k no_function).offset && nat_lt (get_or gr.records k no_function).offset to)
      (λ k lt. ap (λ (n : ℕ). nat_le from n && nat_lt n to) (line_offset x place gr l valid at k lt)))

  recorded_is : (gr : Group Function) (f l value size : ℕ) → AreValidFunctions gr → AtFunctions x place gr f → AtLines x place gr l
      → is_kept_in gr.records value size ≡ is_recorded x Lines (record { functions = f; lines = l }) value size
  recorded_is gr f l value size valid at line =
      ap (λ (y : Bool). y || not (has_function_within gr.records value (value + size))) (function_is gr f valid at value)
      ∙ ap (λ (y : Bool). has_record x Functions f value || not y) (within_is gr l valid line value (value + size))

  pub pairs_kept_back : (gs : List (Group Function)) (fs ls name : List ℕ) (value size : ℕ) → All AreValidFunctions gs → All (λ gr. IsRead x place gr.section) gs
      → AllZip (AtFunctions x place) gs fs → AllZip (AtLines x place) gs ls → is_kept_by gs name value size ≡ true
      → elim (pair_in x (pairs_of fs ls) name) [ None ↦ true | Some pair ↦ is_recorded x Lines pair value size ] ≡ true
  pairs_kept_back [] [] ls name value size valid read at lines h = refl
  pairs_kept_back [] (f ∷ fs) ls name value size valid read at lines h = absurd at
  pairs_kept_back (gr ∷ gs) [] ls name value size valid read at lines h = refl
  pairs_kept_back (gr ∷ gs) (f ∷ fs) [] name value size valid read at lines h = refl
  pairs_kept_back (gr ∷ gs) (f ∷ fs) (l ∷ ls) name value size valid read at lines h =
      let named = function_name x place gr f (All-head (λ h. IsRead x place h.section) gr gs read) at.0 in
      let same = recorded_is gr f l value size (All-head AreValidFunctions gr gs valid) at.0 lines.0 in
      let rest = pairs_kept_back gs fs ls name value size (All-tail AreValidFunctions gr gs valid) (All-tail (λ h. IsRead x place h.section) gr gs read) at.1 lines.1 in
      subst (λ (n : List ℕ). elim (cond (bytes_eq n name) (Some (record { functions = f; lines = l })) (pair_in x (pairs_of fs ls) name)) [
        | None ↦ true
        | Some pair ↦ is_recorded x Lines pair value size
      ] ≡ true) (sym named)
      (either_kept (bytes_eq gr.section name) gr (record { functions = f; lines = l }) (find (λ g. bytes_eq g.section name) gs) (pair_in x (pairs_of fs ls) name)
      (λ g. is_kept_in g.records value size) (λ q. is_recorded x Lines q value size) (λ k. sym same ∙ k) rest h)
