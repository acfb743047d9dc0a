-- The canonical file of an object that a file denotes denotes this object.
use Rattle.std.proofs.Common.{◌≡◌, ℕ, ◌≤◌, ◌==◌, ◌&&◌, Bool, true, false, not, List, [], ◌∷◌, Option, Some, None, length, if◌then◌else◌, inl, inr, refl, sym, ap, subst, ◌∙◌, arith}
use Rattle.std.specs.Prelude.{nat_le}
use Rattle.std.proofs.lemmas.Bool.{and_parts, and_from, cases_Bool, leb-true, eqb-true, ne_eqb, not-false}
use Rattle.bpf_words.specs.{Words.IsBytes}
use Rattle.bpf_elf.specs.{Header.FILE_LIMIT, Numbers.offset, Sections.content, Rules.AllHold}
use Rattle.bpf_elf.proofs.SectionFacts.{content_short}
use Rattle.bpf_object.specs.Objects.{ObjectTypes, Object}
use Rattle.bpf_object.specs.Canonical.{strings_of, offset_of, types_strings, has_extension, btf_bytes, extension_bytes, canonical}
use Rattle.bpf_object.specs.Denotes.{extension_at, extension_of, rules_of_extension, object_of, object_types, HoldsTypes, TypesAre, types_fit, result_limit, is_small, Denotes}
use Rattle.bpf_object.specs.Extension.{Section}
use Rattle.bpf_object.specs.Groups.{same_number, function_groups, relocation_groups}
use Rattle.bpf_object.specs.{FunctionLines.functions_rules, Lines.extension_rules}
use Rattle.bpf_object.proofs.ReadBackTests.{equal_test, most_test}
use Rattle.bpf_object.proofs.CanonValid.{ValidObject, IsSmall}
use Rattle.bpf_object.proofs.CanonReads.{order_back, object_back}
use Rattle.bpf_object.proofs.CanonSymbols.{canonical_is_elf}
use Rattle.bpf_object.proofs.CanonAcceptedSymbols.{object_is_valid}
use Rattle.bpf_object.proofs.CanonTypes.{types_back, no_types_back, extension_back, no_extension_back, no_extension_of_back}
use Rattle.bpf_object.proofs.CanonBtfKept.{small_types, canonical_words, strings_short, canonical_records, canonical_types_kept, canonical_encode}
use Rattle.bpf_object.proofs.OrderedAgain.{range_stays, ordered_is}
use Rattle.bpf_object.specs.TypeOrder.{new_number, ordered}
use Rattle.std.specs.List.{range_with_len}
use Rattle.btf_types.specs.Sections.{records_in}
use Rattle.bpf_object.proofs.CanonExtensionKept.{SaysExtension, written_section, extension_said}
use Rattle.bpf_object.proofs.CanonFunctionSymbols.{KeepsFunctions, symbol_keeps, keeps_rules}
use Rattle.bpf_object.proofs.CanonFew.{few_written}
use Rattle.bpf_object.proofs.CanonHeld.{AreValidTypes, types_are_valid, functions_are_kept, no_functions, no_relocations}
use Rattle.bpf_object.proofs.DenotesOne.{denotes_one}

-- ---- what is_small says

record SmallParts (x : Object) : Type 0 where
  types : types_fit x ≡ true
  short : length (canonical x) ≤ FILE_LIMIT

small_parts : (n : ℕ) (x : Object) → is_small n x ≡ true → SmallParts x
small_parts n x small =
    let parts = and_parts (types_fit x) (nat_le (length (canonical x)) (result_limit n)) small in
    let within : length (canonical x) ≤ result_limit n = leb-true _ _ parts.1 in
    record { types = parts.0; short = omega (arith, within) }

-- a canonical file isn't too large for itself
small_again : (x : Object) → SmallParts x → is_small (length (canonical x)) x ≡ true
small_again x small =
    let short = small.short in
    and_from (types_fit x) (nat_le (length (canonical x)) (result_limit (length (canonical x)))) small.types
    (most_test (length (canonical x)) (result_limit (length (canonical x))) (omega (arith, short)))

-- ---- .BTF.ext

-- what the .BTF.ext of a file says, with these strings
record SaysOf (c strings : List ℕ) (t : ObjectTypes) : Type 0 where
  rules : AllHold (rules_of_extension c strings)
  functions : function_groups same_number (extension_of c strings) ≡ t.functions
  relocations : relocation_groups same_number (extension_of c strings) ≡ t.relocations

same_section : (x y : Section) → x.order ≡ y.order → x.start ≡ y.start → x.bytes ≡ y.bytes → x.strings ≡ y.strings → x ≡ y
same_section x y a b c d = λ k. record { order = a k; start = b k; bytes = c k; strings = d k }

no_elements : {A : Type 0} (xs : List A) → length xs ≡ 0 → [] ≡ xs
no_elements [] none = refl
no_elements (x ∷ xs) none = absurd (omega (arith, none))

both_none : (a b : ℕ) → not (a == 0 && b == 0) ≡ false → (a ≡ 0) × (b ≡ 0)
both_none a b h =
    let both = and_parts (a == 0) (b == 0) (not-false (a == 0 && b == 0) h) in
    (eqb-true a 0 both.0, eqb-true b 0 both.1)

module _ (x : Object) (valid : ValidObject x) (small : IsSmall x) (t : ObjectTypes) (is : x.types ≡ Some t) (few : length (btf_bytes x.order t) ≤ 15728640) (types : AreValidTypes t)
    (functions : KeepsFunctions x t.functions) where
  abbrev strings : List ℕ
  strings = strings_of (types_strings t)

  -- its symbols are those of the object
  kept : KeepsFunctions (object_of (canonical x) x.types) t.functions
  kept = subst (λ (y : Object). KeepsFunctions y t.functions) (sym (object_back x valid small)) functions

  -- there is one
  with_extension : has_extension t ≡ true → SaysOf (canonical x) strings t
  with_extension has =
      let c = canonical x in
      let here = extension_back x valid small t is has in
      let bytes = extension_bytes x.order (offset_of (types_strings t)) t in
      let some = here.some in
      let there : (extension_at c == 0) ≡ false = ne_eqb (extension_at c) 0 (λ e. omega (arith, e, some)) in
      let whole : (extension_of c strings).bytes ≡ bytes = ap (λ (y : Bool). if y then [] else content c (extension_at c)) there ∙ here.bytes_are in
      let start = offset c (extension_at c) in
      let short = strings_short x valid small t is few types.records in
      let fits : length bytes ≤ FILE_LIMIT = subst (λ (xs : List ℕ). length xs ≤ FILE_LIMIT) here.bytes_are (content_short c (extension_at c) small.short) in
      let said = extension_said x.order start t types.extension short fits has in
      let same : written_section x.order start t types.extension short fits ≡ extension_of c strings =
      same_section (record { order = x.order; start = start; bytes = bytes; strings = strings }) (extension_of c strings) (sym (order_back x valid small)) refl (sym whole) refl in
      let says : SaysExtension (extension_of c strings) t = subst (λ (s : Section). SaysExtension s t) same said in
      let symbols : AllHold (functions_rules c (extension_of c strings)) =
      keeps_rules c (extension_of c strings) t.functions says.lines (symbol_keeps c (canonical_is_elf x valid small) x.types t.functions kept) in
      record {
        rules =
            subst (λ (y : Bool). AllHold (if y then [] else extension_rules (extension_of c strings) (functions_rules c (extension_of c strings)))) (sym there)
            (says.rules (functions_rules c (extension_of c strings)) symbols);
        functions = says.functions;
        relocations = says.relocations;
      }

  -- there is none
  without_extension : has_extension t ≡ false → SaysOf (canonical x) strings t
  without_extension none =
      let c = canonical x in
      let at : (extension_at c == 0) ≡ true = equal_test (extension_at c) 0 (no_extension_of_back x valid small t is none) in
      let empty : (extension_of c strings).bytes ≡ [] = ap (λ (y : Bool). if y then [] else content c (extension_at c)) at in
      let lengths = both_none (length t.functions) (length t.relocations) none in
      record {
        rules = subst (λ (y : Bool). AllHold (if y then [] else extension_rules (extension_of c strings) (functions_rules c (extension_of c strings)))) (sym at) refl;
        functions = no_functions same_number (extension_of c strings) empty ∙ no_elements t.functions lengths.0;
        relocations = no_relocations same_number (extension_of c strings) empty ∙ no_elements t.relocations lengths.1;
      }

  canonical_extension : SaysOf (canonical x) strings t
  canonical_extension = elim (cases_Bool (has_extension t)) [ inl has ↦ with_extension has | inr none ↦ without_extension none ]

  -- ---- the types

  same_types : (u v : ObjectTypes) → u.records ≡ v.records → u.functions ≡ v.functions → u.relocations ≡ v.relocations → u ≡ v
  same_types u v a b c = λ k. record { records = a k; functions = b k; relocations = c k }

  pub canonical_holds : HoldsTypes (canonical x) t
  canonical_holds =
      let here = types_back x valid small t is in
      let says = canonical_extension in
      let w = canonical_words x.order t in
      let ids = range_with_len 1 (length w.frames) in
      let stays : same_number ≡ new_number ids = sym (λ i n. range_stays (length w.frames) n i) in
      record {
        sections = w;
        there = here.some;
        types = canonical_types_kept x valid small t is few types.records types.free;
        extension = says.rules;
        ids = ids;
        sorted = types.in_order w (canonical_encode x valid small t is few types.records);
        whole =
            same_types t (object_types (new_number ids) (ordered ids w) (extension_of (canonical x) strings))
            (sym (canonical_records x valid small t is few types.records) ∙ ap records_in (sym (ordered_is w)))
            (sym says.functions ∙ ap (λ (new : ℕ → ℕ). function_groups new (extension_of (canonical x) strings)) stays)
            (sym says.relocations ∙ ap (λ (new : ℕ → ℕ). relocation_groups new (extension_of (canonical x) strings)) stays);
      }

no_types_are : (x : Object) → ValidObject x → IsSmall x → x.types ≡ None → TypesAre (canonical x) None
no_types_are x valid small is =
    let none : (extension_at (canonical x) == 0) ≡ true = equal_test (extension_at (canonical x)) 0 (no_extension_back x valid small is) in
    (no_types_back x valid small is, rw none refl)

-- the types of the canonical file, if those of the file are these
types_are : (b : List ℕ) (x : Object) → IsBytes b → Denotes b x → ValidObject x → IsSmall x → types_fit x ≡ true → (o : Option ObjectTypes) → x.types ≡ o → TypesAre b o
    → TypesAre (canonical x) o
types_are b x bytes d valid small fit None is held = no_types_are x valid small is
types_are b x bytes d valid small fit (Some t) is held =
    canonical_holds x valid small t is (small_types x t is fit) (types_are_valid b t bytes held)
    (subst (λ (y : Object). KeepsFunctions y t.functions) (sym d.whole) (functions_are_kept b x.types t bytes d.elf held))

pub denoted_valid : (b : List ℕ) (x : Object) → IsBytes b → Denotes b x → ValidObject x
denoted_valid b x bytes d = subst ValidObject (sym d.whole) (object_is_valid b bytes d.elf x.types)

pub canonical_denotes : (b : List ℕ) (x : Object) → IsBytes b → Denotes b x → Denotes (canonical x) x
canonical_denotes b x bytes d =
    let valid = denoted_valid b x bytes d in
    let parts = small_parts (length b) x d.small in
    let small : IsSmall x = record { few = few_written b x bytes d; short = parts.short } in
    record {
      elf = canonical_is_elf x valid small;
      types = types_are b x bytes d valid small parts.types x.types refl d.types;
      whole = sym (object_back x valid small);
      small = small_again x parts;
    }

-- a canonical file is its own canonical file
pub canonical_own : (b : List ℕ) (x y : Object) → IsBytes b → Denotes b x → Denotes (canonical x) y → canonical y ≡ canonical x
canonical_own b x y bytes d e = ap canonical (denotes_one (canonical x) y x e (canonical_denotes b x bytes d))

-- objects with the same canonical file are equal
pub canonical_apart : (a b : List ℕ) (x y : Object) → IsBytes a → IsBytes b → Denotes a x → Denotes b y → canonical x ≡ canonical y → x ≡ y
canonical_apart a b x y left right d e same =
    denotes_one (canonical y) x y (subst (λ (c : List ℕ). Denotes c x) same (canonical_denotes a x left d)) (canonical_denotes b y right e)
