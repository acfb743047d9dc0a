-- The canonical file of an object is the file of a list of sections, which are written one after the other.
use Rattle.std.proofs.Common.{◌≡◌, ℕ, zero, suc, ◌+◌, ◌*◌, ◌<◌, ◌≤◌, ◌==◌, ◌&&◌, cond, Bool, true, false, inl, inr, Result, Ok, Err, MatchResult, Option, Some, None, List, [], ◌∷◌, ◌++◌, length, map, replicate, refl, sym, ap, ◌∙◌, subst, append-nil, append_assoc, length-append, arith}
use Rattle.std.specs.Prelude.{codes, nat_lt, nat_le, if◌then◌else◌}
use Rattle.std.specs.List.{flat_map}
use Rattle.std.proofs.lemmas.Bool.Decides.{nat_tests}
use Rattle.std.proofs.lemmas.List.{length-map, Concat.flat_map-append}
use Rattle.bpf_words.specs.declared.Order.{Order}
use Rattle.bpf_elf.specs.{ElfRules.IsElf, Numbers.count, Numbers.order_of, Numbers.flags_of}
use Rattle.bpf_elf.specs.Kinds.{SHT_PROGBITS, SHT_SYMTAB, SHT_STRTAB}
use Rattle.bpf_elf.specs.Symbols.{symbol_count, is_kept_symbol, is_local, st_info}
use Rattle.btf_types.specs.Names.{kept, table_of, offset_within}
use Rattle.bpf_object.specs.declared.fault.ObjectError.{ObjectError}
use Rattle.bpf_object.specs.declared.fault.ObjectError.TheVariants as errors
use Rattle.bpf_object.specs.Canonical.{strings_of, offset_of, types_strings, file_strings, first_global, has_extension, symbol_bytes, written_section, own_section, btf_bytes, extension_bytes, types_names, symtab_number, types_sections, last_sections, written_sections, canonical}
use Rattle.bpf_object.specs.Denotes.{object_of, result_limit}
use Rattle.bpf_object.specs.private.Fields.{encode}
use Rattle.bpf_object.specs.File.{WrittenSection, ident, padding}
use Rattle.bpf_object.specs.private.FileOf.{header_fields, padded, contents, headers, file_of, is_small_file}
use Rattle.bpf_object.specs.private.FileWriter.{FileSoFar, Holds, IsFileOf}
use Rattle.bpf_object.specs.Kept.{listed, number_of, is_kept_section, kept_section, kept_sections, kept_symbol, kept_symbols}
use Rattle.bpf_object.specs.private.Names.{Strings, Extends}
use Rattle.bpf_object.specs.ObjectFaults.{FailsToFit}
use Rattle.bpf_object.specs.Objects.{KeptSymbol, Object, ObjectTypes}
use Rattle.bpf_object.specs.private.ObjectWriter.{FailsToWrite, HasWritten, names_with, both_with, symtab_of, first_names, first_written, symbols_first, last_names, last_written, AreContents, fits}
use Rattle.bpf_object.specs.private.SymbolRows.{globals_from}
use Rattle.bpf_object.specs.private.Written.{btf_content, extension_content}
use Rattle.bpf_object.proofs.{CanonLists.length-listed, CanonRules.few_sections, KeptLemmas.number_below}
use Rattle.bpf_object.proofs.FileOfLemmas.{file_same}
use Rattle.bpf_object.proofs.FileWriterLemmas.{length-headers, length-header_fields}
use Rattle.bpf_object.proofs.ObjectWriterLemmas.{extends_part, extends_own, fails_more, same_more}
use Rattle.bpf_object.proofs.ReadBackTests.{over_test}

canonical_is : (x : Object) → canonical x ≡ file_of x.order x.flags (written_sections x)
unfolding canonical
canonical_is x = file_same (written_sections x) x.order x.flags

length-file_of : (o : Order) (flags : ℕ) (ss : List WrittenSection) → length (file_of o flags ss) ≡ 64 + length (contents ss) + 64 * (length ss + 1)
length-file_of o flags ss =
    let head = ident o ++ encode o (header_fields flags (64 + length (contents ss)) (length ss + 1)) in
    omega (
      arith,
      length-append head (contents ss ++ (replicate 64 0 ++ headers o 64 ss)),
      length-append (contents ss) (replicate 64 0 ++ headers o 64 ss),
      length-append (replicate 64 0) (headers o 64 ss),
      length-header_fields o flags (64 + length (contents ss)) (length ss + 1),
      length-headers o 64 ss,
    )

length-canonical : (x : Object) → length (canonical x) ≡ 64 + length (contents (written_sections x)) + 64 * (length (written_sections x) + 1)
length-canonical x = ap length (canonical_is x) ∙ length-file_of x.order x.flags (written_sections x)

-- ---- a file with a long section is long

long_section : (x : Object) (xs ys : List WrittenSection) (w : WrittenSection) (limit : ℕ) → written_sections x ≡ xs ++ w ∷ ys → limit < length w.content → limit < length (canonical x)
long_section x xs ys w limit same long =
    omega (
      arith,
      long,
      length-canonical x,
      ap (λ (ss : List WrittenSection). length (contents ss)) same,
      ap length (flat_map-append (λ (s : WrittenSection). padded s.content) xs (w ∷ ys)),
      length-append (contents xs) (contents (w ∷ ys)),
      length-append (padded w.content) (contents ys),
      length-append w.content (padding (length w.content)),
    )

module _ (b : List ℕ) (t : ObjectTypes) where
  abbrev typed : Object
  typed = object_of b (Some t)

  abbrev typed_place : List ℕ → ℕ
  typed_place = offset_of (file_strings typed)

  kept_part : List WrittenSection
  kept_part = map (written_section (order_of b) typed_place (symtab_number typed)) (kept_sections b)

  types_part : WrittenSection
  types_part = own_section (typed_place (codes ".BTF")) SHT_PROGBITS (btf_bytes (order_of b) t) 0 0 4 0

  extension_part : WrittenSection
  extension_part = own_section (typed_place (codes ".BTF.ext")) SHT_PROGBITS (extension_bytes (order_of b) (offset_of (types_strings t)) t) 0 0 4 0

  pub types_too_long : (limit : ℕ) → limit < length (btf_bytes (order_of b) t) → limit < length (canonical typed)
  unfolding kept_part types_part extension_part
  types_too_long limit long = long_section typed kept_part ((if has_extension t then extension_part ∷ [] else []) ++ last_sections typed) types_part limit refl long

  pub extension_too_long : (limit : ℕ) → has_extension t ≡ true → limit < length (extension_bytes (order_of b) (offset_of (types_strings t)) t) → limit < length (canonical typed)
  unfolding kept_part types_part extension_part
  extension_too_long limit has long =
      long_section typed (kept_part ++ types_part ∷ []) (last_sections typed) extension_part limit
      (ap (λ (y : Bool). kept_part ++ ((types_part ∷ (if y then extension_part ∷ [] else [])) ++ last_sections typed)) has
      ∙ sym (append_assoc kept_part (types_part ∷ []) (extension_part ∷ last_sections typed))) long

strings_too_long : (x : Object) (limit : ℕ) → limit < length (strings_of (file_strings x)) → limit < length (canonical x)
strings_too_long x limit long =
    let place = offset_of (file_strings x) in
    let xs = map (written_section x.order place (symtab_number x)) x.sections in
    let ys = types_sections x.order place x.types in
    let symbols = own_section (place (codes ".symtab")) SHT_SYMTAB (flat_map (symbol_bytes x.order place) x.symbols) (symtab_number x + 1) (first_global x.symbols) 8 24 in
    let strings = own_section (place (codes ".strtab")) SHT_STRTAB (strings_of (file_strings x)) 0 0 1 0 in
    long_section x ((xs ++ ys) ++ symbols ∷ []) [] strings limit (sym (append_assoc (xs ++ ys) (symbols ∷ []) (strings ∷ []) ∙ append_assoc xs ys (symbols ∷ strings ∷ []))) long

-- ---- the sections can be counted

two_at_most : (x : Bool) (a c : WrittenSection) → length (a ∷ cond x (c ∷ []) []) ≤ 2
two_at_most true a c = omega arith
two_at_most false a c = omega arith

few_types : (o : Order) (place : List ℕ → ℕ) (t : Option ObjectTypes) → length (types_sections o place t) ≤ 2
few_types o place None = omega arith
few_types o place (Some t) =
    two_at_most (has_extension t) (own_section (place (codes ".BTF")) SHT_PROGBITS (btf_bytes o t) 0 0 4 0)
    (own_section (place (codes ".BTF.ext")) SHT_PROGBITS (extension_bytes o (offset_of (types_strings t)) t) 0 0 4 0)

few_written : (b : List ℕ) (t : Option ObjectTypes) → IsElf b → length (written_sections (object_of b t)) + 1 < 65536
few_written b t elf =
    let x = object_of b t in
    let place = offset_of (file_strings x) in
    let one = written_section (order_of b) place (symtab_number x) in
    let types = types_sections (order_of b) place t in
    omega (
      arith,
      length-append (map one (kept_sections b)) (types ++ last_sections x),
      length-map (kept_sections b) one,
      length-append types (last_sections x),
      few_types (order_of b) place t,
      length-listed (is_kept_section b) (kept_section b) (count b),
      number_below (is_kept_section b) (count b),
      few_sections b elf,
    )

-- ---- whether the file fits

right_of : (x y : Bool) → (x && y) ≡ true → y ≡ true
right_of true y both = both
right_of false y both = absurd cc

right_fails : (x y : Bool) → x ≡ true → (x && y) ≡ false → y ≡ false
right_fails true y is fails = fails
right_fails false y is fails = absurd cc

few_test : (n : ℕ) → n < 65536 → nat_lt n 65536 ≡ true
few_test n few = grind (arith, nat_tests)

pub object_written : {A : Type 0} (items : A → List ℕ) (b : List ℕ) (t : Option ObjectTypes) (r : Result A ObjectError) → IsElf b
    → MatchResult r (λ out. IsFileOf (result_limit (length b)) (order_of b) (flags_of b) (written_sections (object_of b t)) (items out))
    (FailsToWrite (result_limit (length b)) (file_strings (object_of b t)) (written_sections (object_of b t)))
    → MatchResult r (λ out. (fits b t ≡ true) × (items out ≡ canonical (object_of b t))) (FailsToFit (fits b t))
object_written items b t (Ok out) elf is =
    let x = object_of b t in
    (ap (λ (n : ℕ). nat_le n (result_limit (length b))) (length-canonical x) ∙ right_of _ _ is.small, is.bytes ∙ sym (canonical_is x))
object_written items b t (Err (errors.Fault f)) elf is =
    let x = object_of b t in
    let limit = result_limit (length b) in (
      elim is.0 [
        | inl large ↦ ap (λ (n : ℕ). nat_le n limit) (length-canonical x) ∙ right_fails _ _ (few_test (length (written_sections x) + 1) (few_written b t elf)) large
        | inr long ↦ over_test (length (canonical x)) limit (strings_too_long x limit long)
      ],
      is.1,
    )
object_written items b t (Err errors.Memory) elf is = is

-- ---- the sections with the types

names_in : (o : Order) (t : ObjectTypes) (has : Bool) → has_extension t ≡ has
    → types_names (Some t) ≡ names_with (btf_content o (Some t)) (extension_content o (Some t))
names_in o t true is = rw is refl
names_in o t false is = rw is refl

names_same : (o : Order) (t : Option ObjectTypes) → types_names t ≡ names_with (btf_content o t) (extension_content o t)
names_same o None = refl
names_same o (Some t) = names_in o t (has_extension t) refl

sections_in : (o : Order) (place : List ℕ → ℕ) (t : ObjectTypes) (has : Bool) → has_extension t ≡ has
    → types_sections o place (Some t) ≡ both_with (btf_content o (Some t)) (extension_content o (Some t)) place
sections_in o place t true is = rw is refl
sections_in o place t false is = rw is refl

sections_same : (o : Order) (place : List ℕ → ℕ) (t : Option ObjectTypes) → types_sections o place t ≡ both_with (btf_content o t) (extension_content o t) place
sections_same o place None = refl
sections_same o place (Some t) = sections_in o place t (has_extension t) refl

-- ---- the last local symbol decides where the global ones begin

first_of_two : (x y : Bool) (n first : ℕ) → cond (cond x (suc n) first == 0) (cond y 1 0) (suc (cond x (suc n) first))
    ≡ cond x (suc (suc n)) (cond (first == 0) (cond y 1 0) (suc first))
first_of_two true y n first = let other : (suc n == 0) ≡ false = grind (arith, nat_tests) in rw other refl
first_of_two false y n first = refl

first_global_more : (xs : List KeptSymbol) (s : KeptSymbol) → first_global (xs ++ s ∷ []) ≡ cond (is_local s.info) (suc (length xs)) (first_global xs)
first_global_more [] s = refl
first_global_more (x ∷ xs) s =
    ap (λ (n : ℕ). cond (n == 0) (cond (is_local x.info) 1 0) (suc n)) (first_global_more xs s)
    ∙ first_of_two (is_local s.info) (is_local x.info) (length xs) (first_global xs)

first_by : (kept is : Bool) (xs : List KeptSymbol) (s : KeptSymbol) (n : ℕ) → is ≡ is_local s.info → length xs ≡ n
    → first_global (xs ++ cond kept (s ∷ []) []) ≡ cond (kept && is) (cond kept (suc n) n) (first_global xs)
first_by true is xs s n same long = rw (same, ← long) (first_global_more xs s)
first_by false is xs s n same long = ap first_global (append-nil xs)

first_global_is : (b : List ℕ) (n : ℕ) → first_global (listed (is_kept_symbol b) (kept_symbol b) n) ≡ globals_from b n
first_global_is b zero = refl
first_global_is b (suc n) =
    first_by (is_kept_symbol b n) (is_local (st_info b n)) (listed (is_kept_symbol b) (kept_symbol b) n) (kept_symbol b n)
    (number_of (is_kept_symbol b) n) refl (length-listed (is_kept_symbol b) (kept_symbol b) n)
    ∙ ap (cond (is_kept_symbol b n && is_local (st_info b n)) (number_of (is_kept_symbol b) (suc n))) (first_global_is b n)

-- ---- offsets depend on the strings that are kept

offset_same : (xs ys : List (List ℕ)) (x : List ℕ) → kept xs ≡ kept ys → offset_of xs x ≡ offset_of ys x
offset_same xs ys [] same = refl
offset_same xs ys (c ∷ x) same = ap (λ (l : List (List ℕ)). offset_within l (c ∷ x)) same

places_same : (xs ys : List (List ℕ)) → kept xs ≡ kept ys → offset_of xs ≡ offset_of ys
places_same xs ys same = λ k x. offset_same xs ys x same k

last_same : (b : List ℕ) (link : ℕ) (xs ys : List (List ℕ)) → kept xs ≡ kept ys → last_written b link xs ≡ last_written b link ys
last_same b link xs ys same =
    let last : (List ℕ → ℕ) → List ℕ → List WrittenSection = λ place strings.
    own_section (place (codes ".symtab")) SHT_SYMTAB (symbols_first b (symbol_count b) place) link (globals_from b (symbol_count b)) 8 24
    ∷ own_section (place (codes ".strtab")) SHT_STRTAB strings 0 0 1 0 ∷ [] in
    ap (λ (place : List ℕ → ℕ). last place (strings_of xs)) (places_same xs ys same) ∙ ap (λ (l : List (List ℕ)). last (offset_of ys) (table_of l)) same

fails_same : (limit : ℕ) (xs ys : List (List ℕ)) (ss ts : List WrittenSection) (e : ObjectError) → kept xs ≡ kept ys → ss ≡ ts → FailsToWrite limit xs ss e → FailsToWrite limit ys ts e
fails_same limit xs ys ss ts (errors.Fault f) strings sections fails = (
  elim fails.0 [
    | inl large ↦ inl (subst (λ (l : List WrittenSection). is_small_file limit l ≡ false) sections large)
    | inr long ↦ inr (subst (λ (l : List (List ℕ)). limit < length (table_of l)) strings long)
  ],
  fails.1,
)
fails_same limit xs ys ss ts errors.Memory strings sections fails = fails

-- ---- what is written is the list of the object

module _ (b : List ℕ) (t : Option ObjectTypes) (types extension : Option (List ℕ)) (are : AreContents (order_of b) t types extension) (symtab : ℕ) (numbered : symtab ≡ symtab_of b types extension) where
  abbrev x : Object
  x = object_of b t

  abbrev strings : List (List ℕ)
  strings = file_strings x

  abbrev place : List ℕ → ℕ
  place = offset_of strings

  abbrev limit : ℕ
  limit = result_limit (length b)

  names_are : types_names t ≡ names_with types extension
  names_are =
      names_same (order_of b) t ∙ ap (λ (c : Option (List ℕ)). names_with c (extension_content (order_of b) t)) (sym are.types_are)
      ∙ ap (names_with types) (sym are.extension_is)

  types_are : both_with types extension place ≡ types_sections (order_of b) place t
  types_are =
      ap (λ (c : Option (List ℕ)). both_with c extension place) are.types_are
      ∙ ap (λ (c : Option (List ℕ)). both_with (btf_content (order_of b) t) c place) are.extension_is ∙ sym (sections_same (order_of b) place t)

  strings_are : strings ≡ first_names b types extension ++ last_names b
  strings_are =
      let sections = map (λ s. s.name) (kept_sections b) in
      let own = codes ".symtab" ∷ codes ".strtab" ∷ [] in
      let symbols = map (λ s. s.name) (kept_symbols b) in
      ap (λ (names : List (List ℕ)). ((sections ++ names) ++ own) ++ symbols) names_are ∙ append_assoc (sections ++ names_with types extension) own symbols

  number_is : symtab ≡ symtab_number x
  number_is = numbered ∙ ap (λ (names : List (List ℕ)). 1 + length (kept_sections b) + length names) (sym names_are)

  last_is : last_written b (symtab_number x + 1) strings ≡ last_sections x
  last_is =
      ap (λ (n : ℕ). own_section (place (codes ".symtab")) SHT_SYMTAB (symbols_first b (symbol_count b) place) (symtab_number x + 1) n 8 24
      ∷ own_section (place (codes ".strtab")) SHT_STRTAB (strings_of strings) 0 0 1 0 ∷ []) (sym (first_global_is b (symbol_count b)))

  sections_are : first_written b symtab types extension place ++ last_written b (symtab + 1) strings ≡ written_sections x
  sections_are =
      let sections : ℕ → List WrittenSection = λ n. map (written_section (order_of b) place n) (kept_sections b) in
      ap (λ (n : ℕ). (sections n ++ both_with types extension place) ++ last_written b (n + 1) strings) number_is
      ∙ append_assoc (sections (symtab_number x)) (both_with types extension place) (last_written b (symtab_number x + 1) strings)
      ∙ ap (λ (l : List WrittenSection). sections (symtab_number x) ++ (l ++ last_written b (symtab_number x + 1) strings)) types_are
      ∙ ap (λ (l : List WrittenSection). sections (symtab_number x) ++ (types_sections (order_of b) place t ++ l)) last_is

  module _ (n0 : Strings) (f0 : FileSoFar) (empty : n0.texts ≡ []) (start : Holds limit [] f0) where
    first_extends : Extends strings (kept (n0.texts ++ first_names b types extension))
    first_extends =
        subst (λ (l : List (List ℕ)). Extends strings (kept (l ++ first_names b types extension))) (sym empty)
        (extends_part strings (first_names b types extension) (last_names b) (subst (λ (l : List (List ℕ)). Extends strings (kept l)) strings_are (extends_own strings)))

    pub all_fail : (e : ObjectError)
        → ((all : List (List ℕ)) → Extends all (kept (n0.texts ++ first_names b types extension)) → (before : List WrittenSection) → Holds limit before f0
        → FailsToWrite limit all (before ++ first_written b symtab types extension (offset_of all)) e) → FailsToWrite limit strings (written_sections x) e
    all_fail e fails =
        subst (λ (l : List WrittenSection). FailsToWrite limit strings l e) sections_are
        (fails_more limit strings (first_written b symtab types extension place) (last_written b (symtab + 1) strings) e (fails strings first_extends [] start))

    -- what follows the sections so far
    module _ (n1 : Strings) (f1 : FileSoFar) (order : f0.order ≡ order_of b)
        (first : (all : List (List ℕ)) → Extends all (kept (n0.texts ++ first_names b types extension)) → HasWritten limit (first_names b types extension) (first_written b symtab types extension (offset_of all)) n0 n1 f0 f1) where
      abbrev first_list : List WrittenSection
      first_list = first_written b symtab types extension place

      abbrev all : List (List ℕ)
      all = n1.texts ++ last_names b

      one : HasWritten limit (first_names b types extension) first_list n0 n1 f0 f1
      one = first strings first_extends

      held : Holds limit first_list f1 × (f1.order ≡ f0.order)
      held = one.held [] start

      kept_is : kept all ≡ kept strings
      kept_is =
          same_more n1.texts (first_names b types extension) (last_names b) (one.texts ∙ ap (λ (l : List (List ℕ)). kept (l ++ first_names b types extension)) empty)
          ∙ ap kept (sym strings_are)

      whole : first_list ++ last_written b (symtab + 1) all ≡ written_sections x
      whole = ap (λ (l : List WrittenSection). first_list ++ l) (last_same b (symtab + 1) all strings kept_is) ∙ sections_are

      by_result : {A : Type 0} (items : A → List ℕ) (r : Result A ObjectError)
          → MatchResult r (λ out. IsFileOf limit f1.order (flags_of b) (first_list ++ last_written b (symtab + 1) all) (items out)) (FailsToWrite limit all (first_list ++ last_written b (symtab + 1) all))
          → MatchResult r (λ out. IsFileOf limit (order_of b) (flags_of b) (written_sections x) (items out)) (FailsToWrite limit strings (written_sections x))
      by_result items (Ok out) is =
          subst (λ (l : List WrittenSection). IsFileOf limit (order_of b) (flags_of b) l (items out)) whole
          (subst (λ (o : Order). IsFileOf limit o (flags_of b) (first_list ++ last_written b (symtab + 1) all) (items out)) (held.1 ∙ order) is)
      by_result items (Err e) fails = fails_same limit all strings (first_list ++ last_written b (symtab + 1) all) (written_sections x) e kept_is whole fails

      pub all_done : {A : Type 0} (items : A → List ℕ) (r : Result A ObjectError)
          → ((ss : List WrittenSection) → Holds limit ss f1
          → MatchResult r (λ out. IsFileOf limit f1.order (flags_of b) (ss ++ last_written b (symtab + 1) all) (items out)) (FailsToWrite limit all (ss ++ last_written b (symtab + 1) all)))
          → MatchResult r (λ out. IsFileOf limit (order_of b) (flags_of b) (written_sections x) (items out)) (FailsToWrite limit strings (written_sections x))
      all_done items r tail = by_result items r (tail first_list held.0)
