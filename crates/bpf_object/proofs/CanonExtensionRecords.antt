-- The functions, lines and CO-RE relocations of .BTF.ext, read back where they are written.
use Rattle.std.proofs.Common.{◌≡◌, ℕ, zero, suc, ◌+◌, ◌^◌, ◌<◌, ◌==◌, ◌&&◌, Bool, true, not, List, [], ◌∷◌, ◌++◌, length, get_or, map, refl, sym, ap, subst, ◌∙◌, length-append, arith}
use Rattle.std.specs.Prelude.{nat_lt}
use Rattle.std.specs.{List.All, List.AllZip, Str.bytes_eq}
use Rattle.std.proofs.lemmas.Bool.{and_from, and_parts}
use Rattle.std.proofs.lemmas.List.Elements.{All-head, All-tail}
use Rattle.bpf_words.specs.declared.Order.{Order, TheVariants.Little, TheVariants.Big}
use Rattle.bpf_words.specs.Words.{word32}
use Rattle.bpf_words.proofs.WordLemmas.{length-word32}
use Rattle.bpf_elf.specs.Names.{string_at}
use Rattle.bpf_elf.specs.Rules.{AllHold, each}
use Rattle.bpf_elf.proofs.RuleLemmas.{both_hold}
use Rattle.btf_types.proofs.StringLemmas.Texts.{bytes_eq-same}
use Rattle.bpf_object.specs.declared.extension.Part.{TheVariants.Functions, TheVariants.Lines, TheVariants.Relocations}
use Rattle.bpf_object.specs.Objects.{Function, CoreRelocation, Group}
use Rattle.bpf_object.specs.Canonical.{function_bytes, line_bytes, relocation_bytes}
use Rattle.bpf_object.specs.Extension.{Section, word, group_count, record_size, record_offset}
use Rattle.bpf_object.specs.Groups.{same_number, function_at, relocation_at, function_group, relocation_group}
use Rattle.bpf_object.specs.Kept.{listed}
use Rattle.bpf_object.specs.Lines.{name_of, insn_off, all_of, ascends, has_record, have_lines, is_among, is_pair, pairs_rules, access_rules, accesses_rules}
use Rattle.bpf_object.proofs.{CanonLists.listed_is, CanonLists.number_all, ReadBackKinds.all_hold, ReadBackTests.equal_test, ReadBackTests.less_test, TestLemmas.any_found}
use Rattle.bpf_object.proofs.CanonExtensionValid.{no_function, no_core_relocation, ascends_is, are_apart, AreValidFunctions, IsValidCore, AreValidRelocations}
use Rattle.bpf_object.proofs.CanonGroups.{IsGroupAt}
use Rattle.bpf_object.proofs.ReadBackWords.{HasBytes, has_first, has_rest, read_32}

-- ---- sizes

pub function_size : (o : Order) (f : Function) → length (function_bytes o f) ≡ record_size Functions
function_size Little f = refl
function_size Big f = refl

pub line_size : (o : Order) (f : Function) → length (line_bytes o f) ≡ record_size Lines
line_size Little f = refl
line_size Big f = refl

pub relocation_size : (o : Order) (place : List ℕ → ℕ) (r : CoreRelocation) → length (relocation_bytes o place r) ≡ record_size Relocations
relocation_size Little place r = refl
relocation_size Big place r = refl

-- ---- lists of all values

-- a list whose elements are read back
all_back : {R : Type 0} (f : ℕ → R) (n : ℕ) (rs : List R) (d : R) → n ≡ length rs → ((k : ℕ) → k < length rs → f k ≡ get_or rs k d) → listed (λ k. true) f n ≡ rs
all_back f n rs d count each =
    let number = λ (k : ℕ). number_all (λ j. true) k (λ j below. refl) in
    listed_is (λ k. true) f n rs d (number n ∙ count) (λ k there is. each k (omega (arith, there, count)) ∙ ap (λ (m : ℕ). get_or rs m d) (sym (number k)))

same_group : {R : Type 0} (a b : Group R) → a.section ≡ b.section → a.records ≡ b.records → a ≡ b
same_group a b p q = λ k. record { section = p k; records = q k }

same_function : (a b : Function) → a.offset ≡ b.offset → a.type ≡ b.type → a ≡ b
same_function a b p q = λ k. record { offset = p k; type = q k }

same_core : (a b : CoreRelocation) → a.offset ≡ b.offset → a.type ≡ b.type → a.access ≡ b.access → a.kind ≡ b.kind → a ≡ b
same_core a b p q r s = λ k. record { offset = p k; type = q k; access = r k; kind = s k }

pub all_from : (n : ℕ) (test : ℕ → Bool) → ((k : ℕ) → k < n → test k ≡ true) → all_of n test ≡ true
all_from zero test each = refl
all_from (suc n) test each = and_from (all_of n test) (test n) (all_from n test (λ k lt. each k (omega (arith, lt)))) (each n (omega arith))

-- ---- a section whose strings are at these offsets

module _ (x : Section) (place : List ℕ → ℕ) where
  abbrev pub AtFunctions : Group Function → ℕ → Type 0
  AtFunctions gr g = IsGroupAt x Functions place (function_bytes x.order) (function_size x.order) no_function gr g

  abbrev pub AtLines : Group Function → ℕ → Type 0
  AtLines gr g = IsGroupAt x Lines place (line_bytes x.order) (line_size x.order) no_function gr g

  abbrev pub AtRelocations : Group CoreRelocation → ℕ → Type 0
  AtRelocations gr g = IsGroupAt x Relocations place (relocation_bytes x.order place) (relocation_size x.order place) no_core_relocation gr g

  -- a string is read at its offset
  abbrev pub IsRead : List ℕ → Type 0
  IsRead name = string_at x.strings (place name) ≡ name

  -- ---- functions and lines

  pub function_offset : (gr : Group Function) (g : ℕ) → AreValidFunctions gr → AtFunctions gr g → (k : ℕ) → k < length gr.records
      → insn_off x Functions g k ≡ (get_or gr.records k no_function).offset
  function_offset gr g valid at k lt =
      let f = get_or gr.records k no_function in
      let here = at.rows k lt in
      read_32 x.order x.bytes (record_offset Functions g k) f.offset (has_first x.bytes (record_offset Functions g k) (word32 x.order f.offset) (word32 x.order f.type) here) (valid.each k lt).offset

  function_type : (gr : Group Function) (g : ℕ) → AreValidFunctions gr → AtFunctions gr g → (k : ℕ) → k < length gr.records
      → word x (record_offset Functions g k + 4) ≡ (get_or gr.records k no_function).type
  function_type gr g valid at k lt =
      let f = get_or gr.records k no_function in
      let here = at.rows k lt in
      read_32 x.order x.bytes (record_offset Functions g k + 4) f.type
      (has_rest x.bytes (record_offset Functions g k) 4 (word32 x.order f.offset) (word32 x.order f.type) here (length-word32 x.order f.offset)) (valid.each k lt).type

  pub line_offset : (gr : Group Function) (g : ℕ) → AreValidFunctions gr → AtLines gr g → (k : ℕ) → k < length gr.records
      → insn_off x Lines g k ≡ (get_or gr.records k no_function).offset
  line_offset gr g valid at k lt =
      let f = get_or gr.records k no_function in
      let pos = record_offset Lines g k in
      let first = word32 x.order f.offset in
      let zero_word = word32 x.order 0 in
      let here = at.rows k lt in
      read_32 x.order x.bytes pos f.offset
      (has_first x.bytes pos first zero_word (has_first x.bytes pos (first ++ zero_word) zero_word (has_first x.bytes pos (first ++ zero_word ++ zero_word) zero_word here)))
      (valid.each k lt).offset

  pub function_name : (gr : Group Function) (g : ℕ) → IsRead gr.section → AtFunctions gr g → name_of x g ≡ gr.section
  function_name gr g read at = ap (λ (off : ℕ). string_at x.strings off) at.name ∙ read

  function_back : (gr : Group Function) (g : ℕ) → AreValidFunctions gr → IsRead gr.section → AtFunctions gr g → function_group same_number x g ≡ gr
  function_back gr g valid read at =
      same_group (function_group same_number x g) gr (function_name gr g read at)
      (all_back (function_at x g) (group_count x g) gr.records no_function at.count
      (λ k lt.
      same_function (function_at x g k) (get_or gr.records k no_function) (function_offset gr g valid at k lt) (function_type gr g valid at k lt)))

  pub functions_back : (gs : List (Group Function)) (places : List ℕ) → All AreValidFunctions gs → All (λ gr. IsRead gr.section) gs → AllZip AtFunctions gs places
      → map (function_group same_number x) places ≡ gs
  functions_back [] [] valid read at = refl
  functions_back [] (g ∷ places) valid read at = absurd at
  functions_back (gr ∷ gs) [] valid read at = absurd at
  functions_back (gr ∷ gs) (g ∷ places) valid read at =
      let first = function_back gr g (All-head AreValidFunctions gr gs valid) (All-head (λ h. IsRead h.section) gr gs read) at.0 in
      let rest = functions_back gs places (All-tail AreValidFunctions gr gs valid) (All-tail (λ h. IsRead h.section) gr gs read) at.1 in
      ap (λ (h : Group Function). h ∷ map (function_group same_number x) places) first ∙ ap (λ (hs : List (Group Function)). gr ∷ hs) rest

  pair_kept : (gr : Group Function) (f l : ℕ) → AreValidFunctions gr → AtFunctions gr f → AtLines gr l → is_pair x Lines f l ≡ true
  pair_kept gr f l valid at line =
      let name : bytes_eq (name_of x f) (name_of x l) ≡ true =
      ap (λ (off : ℕ). bytes_eq (string_at x.strings off) (name_of x l)) (at.name ∙ sym line.name) ∙ bytes_eq-same (name_of x l) in
      let functions_ascend : ascends x Functions f ≡ true = ascends_is x Functions f gr.records at.count (function_offset gr f valid at) ∙ valid.ascend in
      let lines_ascend : ascends x Lines l ≡ true = ascends_is x Lines l gr.records line.count (line_offset gr l valid line) ∙ valid.ascend in
      let functions_count = at.count in
      let lines_count = line.count in
      let lines : have_lines x Lines f l ≡ true =
      all_from (group_count x f) (λ k. has_record x Lines l (insn_off x Functions f k))
      (λ k lt.
      any_found (group_count x l) k (λ j. insn_off x Lines l j == insn_off x Functions f k) (omega (arith, lt, functions_count, lines_count))
      (equal_test (insn_off x Lines l k) (insn_off x Functions f k)
      (line_offset gr l valid line k (omega (arith, lt, functions_count)) ∙ sym (function_offset gr f valid at k (omega (arith, lt, functions_count)))))) in
      and_from (bytes_eq (name_of x f) (name_of x l)) (ascends x Functions f && (ascends x Lines l && have_lines x Lines f l)) name
      (and_from (ascends x Functions f) (ascends x Lines l && have_lines x Lines f l) functions_ascend (and_from (ascends x Lines l) (have_lines x Lines f l) lines_ascend lines))

  pub pairs_kept : (earlier : List (List ℕ)) (gs : List (Group Function)) (fs ls : List ℕ) → All AreValidFunctions gs → are_apart earlier gs ≡ true → All (λ gr. IsRead gr.section) gs
      → AllZip AtFunctions gs fs → AllZip AtLines gs ls → AllHold (pairs_rules x Lines earlier fs ls)
  pairs_kept earlier [] [] [] valid apart read at lines = refl
  pairs_kept earlier [] [] (l ∷ ls) valid apart read at lines = absurd lines
  pairs_kept earlier [] (f ∷ fs) ls valid apart read at lines = absurd at
  pairs_kept earlier (gr ∷ gs) [] ls valid apart read at lines = absurd at
  pairs_kept earlier (gr ∷ gs) (f ∷ fs) [] valid apart read at lines = absurd lines
  pairs_kept earlier (gr ∷ gs) (f ∷ fs) (l ∷ ls) valid apart read at lines =
      let pair = pair_kept gr f l (All-head AreValidFunctions gr gs valid) at.0 lines.0 in
      let name = function_name gr f (All-head (λ h. IsRead h.section) gr gs read) at.0 in
      let parts = and_parts (not (is_among earlier gr.section)) (are_apart (earlier ++ gr.section ∷ []) gs) apart in
      let other : not (is_among earlier (name_of x f)) ≡ true = ap (λ (n : List ℕ). not (is_among earlier n)) name ∙ parts.0 in
      let rest = pairs_kept (earlier ++ gr.section ∷ []) gs fs ls (All-tail AreValidFunctions gr gs valid) parts.1 (All-tail (λ h. IsRead h.section) gr gs read) at.1 lines.1 in
      let after : AllHold (pairs_rules x Lines (earlier ++ name_of x f ∷ []) fs ls) =
      subst (λ (n : List ℕ). AllHold (pairs_rules x Lines (earlier ++ n ∷ []) fs ls)) (sym name) rest in
      rw (pair, other) after

  -- ---- CO-RE relocations

  -- the access strings of a group are read at their offsets
  pub record AreNoted (gr : Group CoreRelocation) : Type 0 where
    pub inside : (k : ℕ) → k < length gr.records → place (get_or gr.records k no_core_relocation).access < length x.strings
    pub read : (k : ℕ) → k < length gr.records → IsRead (get_or gr.records k no_core_relocation).access

  record IsCoreAt (r : CoreRelocation) (pos : ℕ) : Type 0 where
    offset : word x pos ≡ r.offset
    type : word x (pos + 4) ≡ r.type
    access : word x (pos + 8) ≡ place r.access
    kind : word x (pos + 12) ≡ r.kind

  core_there : (r : CoreRelocation) (pos : ℕ) → IsValidCore r → place r.access < 2 ^ 32 → HasBytes x.bytes pos (relocation_bytes x.order place r) → IsCoreAt r pos
  core_there r pos valid low h =
      let a = word32 x.order r.offset in
      let b = word32 x.order r.type in
      let c = word32 x.order (place r.access) in
      let e = word32 x.order r.kind in
      let three : HasBytes x.bytes pos (a ++ b ++ c) = has_first x.bytes pos (a ++ b ++ c) e h in
      let two : HasBytes x.bytes pos (a ++ b) = has_first x.bytes pos (a ++ b) c three in
      let two_size : length (a ++ b) ≡ 8 = omega (arith, length-append a b, length-word32 x.order r.offset, length-word32 x.order r.type) in
      let three_size : length (a ++ b ++ c) ≡ 12 = omega (arith, two_size, length-append (a ++ b) c, length-word32 x.order (place r.access)) in
      record {
        offset = read_32 x.order x.bytes pos r.offset (has_first x.bytes pos a b two) valid.offset;
        type = read_32 x.order x.bytes (pos + 4) r.type (has_rest x.bytes pos 4 a b two (length-word32 x.order r.offset)) valid.type;
        access = read_32 x.order x.bytes (pos + 8) (place r.access) (has_rest x.bytes pos 8 (a ++ b) c three two_size) low;
        kind = read_32 x.order x.bytes (pos + 12) r.kind (has_rest x.bytes pos 12 (a ++ b ++ c) e h three_size) valid.kind;
      }

  module _ (short : length x.strings < 2 ^ 32) where
    core_at : (gr : Group CoreRelocation) (g : ℕ) → AreValidRelocations gr → AreNoted gr → AtRelocations gr g → (k : ℕ) → k < length gr.records
        → IsCoreAt (get_or gr.records k no_core_relocation) (record_offset Relocations g k)
    core_at gr g valid noted at k lt =
        let inside = noted.inside k lt in
        core_there (get_or gr.records k no_core_relocation) (record_offset Relocations g k) (valid.each k lt) (omega (arith, short, inside)) (at.rows k lt)

    relocation_back : (gr : Group CoreRelocation) (g : ℕ) → AreValidRelocations gr → IsRead gr.section → AreNoted gr → AtRelocations gr g → relocation_group same_number x g ≡ gr
    relocation_back gr g valid read noted at =
        same_group (relocation_group same_number x g) gr (ap (λ (off : ℕ). string_at x.strings off) at.name ∙ read)
        (all_back (relocation_at x g) (group_count x g) gr.records no_core_relocation at.count
        (λ k lt.
        let here = core_at gr g valid noted at k lt in
        same_core (relocation_at x g k) (get_or gr.records k no_core_relocation) here.offset here.type (ap (λ (off : ℕ). string_at x.strings off) here.access ∙ noted.read k lt) here.kind))

    pub relocations_back : (gs : List (Group CoreRelocation)) (places : List ℕ) → All AreValidRelocations gs → All (λ gr. IsRead gr.section) gs → All AreNoted gs
        → AllZip AtRelocations gs places → map (relocation_group same_number x) places ≡ gs
    relocations_back [] [] valid read noted at = refl
    relocations_back [] (g ∷ places) valid read noted at = absurd at
    relocations_back (gr ∷ gs) [] valid read noted at = absurd at
    relocations_back (gr ∷ gs) (g ∷ places) valid read noted at =
        let first = relocation_back gr g (All-head AreValidRelocations gr gs valid) (All-head (λ h. IsRead h.section) gr gs read) (All-head AreNoted gr gs noted) at.0 in
        let rest = relocations_back gs places (All-tail AreValidRelocations gr gs valid) (All-tail (λ h. IsRead h.section) gr gs read) (All-tail AreNoted gr gs noted) at.1 in
        ap (λ (h : Group CoreRelocation). h ∷ map (relocation_group same_number x) places) first ∙ ap (λ (hs : List (Group CoreRelocation)). gr ∷ hs) rest

    access_kept : (gr : Group CoreRelocation) (g : ℕ) → AreValidRelocations gr → AreNoted gr → AtRelocations gr g → (k : ℕ) → k < group_count x g → AllHold (access_rules x g k)
    access_kept gr g valid noted at k lt =
        let count = at.count in
        let there : k < length gr.records = omega (arith, lt, count) in
        let inside = noted.inside k there in
        let here = (core_at gr g valid noted at k there).access in
        let low : nat_lt (word x (record_offset Relocations g k + 8)) (length x.strings) ≡ true =
        less_test (word x (record_offset Relocations g k + 8)) (length x.strings) (omega (arith, here, inside)) in
        rw low refl

    pub accesses_kept : (gs : List (Group CoreRelocation)) (places : List ℕ) → All AreValidRelocations gs → All AreNoted gs → AllZip AtRelocations gs places → AllHold (accesses_rules x places)
    accesses_kept [] [] valid noted at = refl
    accesses_kept [] (g ∷ places) valid noted at = absurd at
    accesses_kept (gr ∷ gs) [] valid noted at = absurd at
    accesses_kept (gr ∷ gs) (g ∷ places) valid noted at =
        both_hold (each (group_count x g) (access_rules x g)) (accesses_rules x places)
        (all_hold (group_count x g) (access_rules x g) (access_kept gr g (All-head AreValidRelocations gr gs valid) (All-head AreNoted gr gs noted) at.0))
        (accesses_kept gs places (All-tail AreValidRelocations gr gs valid) (All-tail AreNoted gr gs noted) at.1)
