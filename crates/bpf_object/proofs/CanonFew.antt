-- The canonical file of an accepted file doesn't have more sections.
use Rattle.std.proofs.Common.{◌≡◌, ℕ, zero, suc, ◌+◌, ◌<◌, ◌≤◌, ◌==◌, ◌&&◌, ◌||◌, Bool, true, false, cond, not, List, [], ◌∷◌, Option, Some, None, length, codes, if◌then◌else◌, inl, inr, refl, sym, ap, ◌∙◌, arith}
use Rattle.std.specs.Prelude.{is_some}
use Rattle.std.proofs.lemmas.Bool.{cases_Bool, cases_lt, eqb-true}
use Rattle.bpf_words.specs.Words.{IsBytes}
use Rattle.bpf_elf.specs.declared.kinds.Kind.{Kind}
use Rattle.bpf_elf.specs.declared.kinds.Kind.TheVariants.{Data, Relocations, Symbols, Types, Extension, Dropped}
use Rattle.bpf_elf.specs.Numbers as number
use Rattle.bpf_elf.specs.Numbers.{order_of}
use Rattle.bpf_elf.specs.Kinds.{SHT_STRTAB, kind_of, if_fits, is_kind}
use Rattle.bpf_elf.specs.Header.{SHN_LORESERVE}
use Rattle.bpf_elf.specs.Sections.{content, kind, name, section_of}
use Rattle.bpf_elf.specs.ElfRules.{IsElf}
use Rattle.bpf_elf.proofs.KindLemmas.{true_false}
use Rattle.bpf_elf.proofs.RuleLemmas.{first_of_there}
use Rattle.bpf_object.specs.Objects.{Function, CoreRelocation, Group, ObjectTypes, Object}
use Rattle.bpf_object.specs.Canonical.{has_extension, types_names, written_sections}
use Rattle.bpf_object.specs.Kept.{number_of}
use Rattle.bpf_object.specs.TypeOrder.{new_number}
use Rattle.bpf_object.specs.Denotes.{extension_at, extension_of, object_of, HoldsTypes, TypesAre, Denotes}
use Rattle.bpf_object.specs.Groups.{relocation_groups}
use Rattle.bpf_object.proofs.CanonLists.{number_less}
use Rattle.bpf_object.proofs.CanonRows.{row_count, row_count_is}
use Rattle.bpf_object.proofs.CanonRules.{zero_bytes, word_zero, left_false, HasNamesTable, few_sections, section_facts, symbol_table_facts, names_facts}
use Rattle.bpf_object.proofs.CanonAccepted.{section_count_is}
use Rattle.bpf_object.proofs.CanonHeld.{no_functions, no_relocations}
use Rattle.bpf_object.proofs.ReadBackTests.{equal_test}

-- ---- each section has one kind at most

abbrev kept_kind : Option Kind → Bool
kept_kind o = is_kind Data o || is_kind Relocations o

one_kind : (o : Option Kind) (a s d t e z n : ℕ) → a + s + d + t + e + z ≤ n
    → cond (kept_kind o) (suc a) a + cond (is_kind Symbols o) (suc s) s + cond (is_kind Dropped o) (suc d) d + cond (is_kind Types o) (suc t) t
    + cond (is_kind Extension o) (suc e) e + cond (not (is_some o)) (suc z) z ≤ suc n
one_kind None a s d t e z n le = omega (arith, le)
one_kind (Some Data) a s d t e z n le = omega (arith, le)
one_kind (Some Relocations) a s d t e z n le = omega (arith, le)
one_kind (Some Symbols) a s d t e z n le = omega (arith, le)
one_kind (Some Dropped) a s d t e z n le = omega (arith, le)
one_kind (Some Types) a s d t e z n le = omega (arith, le)
one_kind (Some Extension) a s d t e z n le = omega (arith, le)

-- so the numbers of those of each kind are at most that of all
all_kinds : (k : ℕ → Option Kind) (n : ℕ)
    → number_of (λ i. kept_kind (k i)) n + number_of (λ i. is_kind Symbols (k i)) n + number_of (λ i. is_kind Dropped (k i)) n + number_of (λ i. is_kind Types (k i)) n
    + number_of (λ i. is_kind Extension (k i)) n + number_of (λ i. not (is_some (k i))) n ≤ n
all_kinds k zero = omega arith
all_kinds k (suc n) =
    one_kind (k n) (number_of (λ i. kept_kind (k i)) n) (number_of (λ i. is_kind Symbols (k i)) n) (number_of (λ i. is_kind Dropped (k i)) n) (number_of (λ i. is_kind Types (k i)) n)
    (number_of (λ i. is_kind Extension (k i)) n) (number_of (λ i. not (is_some (k i))) n) n (all_kinds k n)

some_of : (test : ℕ → Bool) (i n : ℕ) → i < n → test i ≡ true → 0 < number_of test n
some_of test i n lt is = omega (arith, number_less test i n lt is)

-- ---- the names are in a section that is dropped

strings_dropped : (name : List ℕ) (flags : ℕ) → is_some (kind_of SHT_STRTAB name flags) ≡ true → is_kind Dropped (kind_of SHT_STRTAB name flags) ≡ true
unfolding kind_of
strings_dropped name flags is = fits _ is
  where
    fits : (y : Bool) → is_some (if_fits y Dropped) ≡ true → is_kind Dropped (if_fits y Dropped) ≡ true
    fits true is = refl
    fits false is = absurd cc

module _ (b : List ℕ) (elf : IsElf b) where
  names : HasNamesTable b
  names = names_facts b elf

  first_type : number.type b 0 ≡ 0
  first_type =
      word_zero (order_of b) b (number.header_offset b 0 + 4)
      (λ i from lt. zero_bytes b (number.table b) 64 names.first i (omega (arith, from)) (omega (arith, lt)))

  names_other : (number.names b == 0) ≡ false
  names_other = elim (cases_Bool (number.names b == 0)) [
    | inl same ↦
        let first : number.type b (number.names b) ≡ 0 = ap (λ (i : ℕ). number.type b i) (eqb-true _ _ same) ∙ first_type in
        absurd (omega (arith, first, names.type))
    | inr other ↦ other
  ]

  names_dropped : is_kind Dropped (kind b (number.names b)) ≡ true
  names_dropped =
      let i = number.names b in
      let is : kind b i ≡ kind_of SHT_STRTAB (name b i) (number.flags b i) =
      ap (λ (y : Bool). if y then None else kind_of (number.type b i) (name b i) (number.flags b i)) names_other
      ∙ ap (λ (t : ℕ). kind_of t (name b i) (number.flags b i)) names.type in
      let known : is_some (kind b i) ≡ true = left_false (i == 0) (is_some (kind b i)) (section_facts b elf i names.there).known names_other in
      ap (λ (o : Option Kind). is_kind Dropped o) is ∙ strings_dropped (name b i) (number.flags b i) (ap (λ (o : Option Kind). is_some o) (sym is) ∙ known)

  -- a section of a kind that is found
  found : (k : Kind) → 0 < section_of b k (number.count b) → 0 < number_of (λ i. is_kind k (kind b i)) (number.count b)
  found k some =
      let there = first_of_there (number.count b) (section_of b k (number.count b)) (λ i. is_kind k (kind b i)) refl some in
      some_of (λ i. is_kind k (kind b i)) (section_of b k (number.count b)) (number.count b) there.0 there.1

-- ---- the sections that are written anew

-- without a section .BTF.ext there are no groups of it
no_extension : (b : List ℕ) (t : ObjectTypes) → HoldsTypes b t → (extension_at b == 0) ≡ true → has_extension t ≡ false
no_extension b t held none =
    let x = extension_of b held.sections.strings in
    let new = new_number held.ids in
    let empty : x.bytes ≡ [] = ap (λ (y : Bool). if y then [] else content b (extension_at b)) none in
    ap (λ (u : ObjectTypes). has_extension u) held.whole
    ∙ ap (λ (fs : List (Group Function)). not (length fs == 0 && length (relocation_groups new x) == 0)) (no_functions new x empty)
    ∙ ap (λ (rs : List (Group CoreRelocation)). not (length rs == 0)) (no_relocations new x empty)

extension_there : (b : List ℕ) (t : ObjectTypes) → HoldsTypes b t → has_extension t ≡ true → 0 < extension_at b
extension_there b t held has = elim (cases_lt 0 (extension_at b)) [
  | inl some ↦ some
  | inr none ↦ absurd (true_false (sym has ∙ no_extension b t held (equal_test (extension_at b) 0 (omega (arith, none)))))
]

module _ (b : List ℕ) (elf : IsElf b) where
  abbrev most : ℕ
  most = number_of (λ i. is_kind Types (kind b i)) (number.count b) + number_of (λ i. is_kind Extension (kind b i)) (number.count b)

  names_count : (t : ObjectTypes) → HoldsTypes b t → (y : Bool) → has_extension t ≡ y → length (codes ".BTF" ∷ (if y then codes ".BTF.ext" ∷ [] else [])) ≤ most
  names_count t held true is = omega (arith, found b elf Types held.there, found b elf Extension (extension_there b t held is))
  names_count t held false is = omega (arith, found b elf Types held.there)

  types_count : (o : Option ObjectTypes) → TypesAre b o → length (types_names o) ≤ most
  types_count None held = omega arith
  types_count (Some t) held = names_count t held (has_extension t) refl

  -- the canonical file doesn't have more sections
  fewer_sections : IsBytes b → (o : Option ObjectTypes) → TypesAre b o → length (written_sections (object_of b o)) + 1 ≤ number.count b
  unfolding row_count
  fewer_sections bytes o held =
      let table = symbol_table_facts b elf in
      let there = (names_facts b elf).there in
      omega (
        arith,
        row_count_is (object_of b o),
        section_count_is b bytes elf o,
        all_kinds (λ i. kind b i) (number.count b),
        found b elf Symbols table.there,
        some_of (λ i. is_kind Dropped (kind b i)) (number.names b) (number.count b) there (names_dropped b elf),
        some_of (λ i. not (is_some (kind b i))) 0 (number.count b) (omega (arith, there)) refl,
        types_count o held,
      )

-- so they can be counted
pub few_written : (b : List ℕ) (x : Object) → IsBytes b → Denotes b x → length (written_sections x) + 1 < SHN_LORESERVE
few_written b x bytes d =
    omega (
      arith,
      ap (λ (y : Object). length (written_sections y)) d.whole,
      fewer_sections b d.elf bytes x.types d.types,
      few_sections b d.elf,
    )
