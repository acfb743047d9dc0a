-- The rule on the names of records is about their kinds and names alone, in any order.
use Rattle.std.proofs.Common.{◌≡◌, ℕ, ◌<◌, ◌==◌, ◌&&◌, true, false, not, List, [], ◌∷◌, length, get_or, refl, sym, ap, ◌∙◌, inl, inr, eq-eqb}
use Rattle.std.specs.Str.{bytes_eq}
use Rattle.std.proofs.lemmas.Bool.{cases_Bool, eqb-true, and_cases, and_from, and_parts, and_left, and_right, or_parts, or_from, not-true}
use Rattle.std.proofs.lemmas.List.{get_or_default}
use Rattle.std.proofs.lemmas.List.Folds.{list_any_at, list_any_none, Any-from_list_any}
use Rattle.std.proofs.lemmas.List.Elements.{All-from_get_or}
use Rattle.std.proofs.lemmas.Slice.Eq.{bytes_eq-Decides}
use Rattle.bpf_elf.specs.Names.{string_at}
use Rattle.bpf_elf.specs.Rules.{AllHold, each}
use Rattle.bpf_elf.proofs.RuleLemmas.{rest_hold, each_holds}
use Rattle.btf_raw.specs.KindNumbers.{FWD, FUNC, VAR, TYPE_TAG}
use Rattle.btf_raw.specs.Kinds.{one_of}
use Rattle.btf_raw.specs.Frames.{kind, name_word}
use Rattle.btf_types.specs.Sections.{SectionWords}
use Rattle.bpf_object.specs.Types.{TypesSection, form_rules, records_start, rules_of, is_func_name, is_dotted, is_taken, name_rules, all_rules}
use Rattle.bpf_object.specs.{TypesFaults.KeepsTypes}
use Rattle.bpf_object.proofs.{CanonRules.rule_holds}

-- ---- records of these kinds and names keep the rule

pub record AreApart (n : ℕ) (kind_at : ℕ → ℕ) (name_at : ℕ → List ℕ) : Type 0 where
  pub funcs : (i j : ℕ) → i < n → j < n → kind_at i ≡ VAR → kind_at j ≡ FUNC → name_at i ≡ name_at j → ⊥
  pub dots : (i : ℕ) → i < n → one_of (VAR ∷ FWD ∷ TYPE_TAG ∷ []) (kind_at i) ≡ true → is_dotted (name_at i) ≡ false

-- others, each with the kind and the name of one of these
pub record IsOneOf (n : ℕ) (kind_at : ℕ → ℕ) (name_at : ℕ → List ℕ) (k : ℕ) (name : List ℕ) : Type 0 where
  pub to : ℕ
  pub there : to < n
  pub kind_is : k ≡ kind_at to
  pub name_is : name ≡ name_at to

pub apart_among : (n m : ℕ) (kind_at other_kind : ℕ → ℕ) (name_at other_name : ℕ → List ℕ) → AreApart n kind_at name_at
    → ((i : ℕ) → i < m → IsOneOf n kind_at name_at (other_kind i) (other_name i)) → AreApart m other_kind other_name
apart_among n m kind_at other_kind name_at other_name apart are = record {
  funcs = λ i j low high var func same.
      let a = are i low in
      let b = are j high in
      apart.funcs a.to b.to a.there b.there (sym a.kind_is ∙ var) (sym b.kind_is ∙ func) (sym a.name_is ∙ same ∙ b.name_is);
  dots = λ i low moved.
      let a = are i low in
      ap is_dotted a.name_is ∙ apart.dots a.to a.there (ap (one_of (VAR ∷ FWD ∷ TYPE_TAG ∷ [])) (sym a.kind_is) ∙ moved);
}

-- ---- the records of a section

abbrev pub kind_in : SectionWords → ℕ → ℕ
kind_in s k = kind (get_or s.frames k [])

abbrev pub name_in : SectionWords → ℕ → List ℕ
name_in s k = string_at s.strings (name_word (get_or s.frames k []))

abbrev pub AreApartIn : SectionWords → Type 0
AreApartIn s = AreApart (length s.frames) (kind_in s) (name_in s)

module _ (s : SectionWords) where
  pub func_found : (j : ℕ) (name : List ℕ) → j < length s.frames → kind_in s j ≡ FUNC → name_in s j ≡ name → is_func_name s name ≡ true
  func_found j name low func same =
      list_any_at (λ f. kind f == FUNC && bytes_eq (string_at s.strings (name_word f)) name) s.frames j [] low
      (and_from (kind_in s j == FUNC) (bytes_eq (name_in s j) name) (eq-eqb (kind_in s j) FUNC func) ((bytes_eq-Decides (name_in s j) name).1 same))

  pub func_there : (name : List ℕ) → is_func_name s name ≡ true → (j : ℕ) × (j < length s.frames) × (kind_in s j ≡ FUNC) × (name_in s j ≡ name)
  func_there name is =
      let any = Any-from_list_any (λ f. kind f == FUNC && bytes_eq (string_at s.strings (name_word f)) name) s.frames is in
      let f = any.1 in
      let at : f ≡ get_or s.frames any.0 [] = sym any.3 ∙ get_or_default s.frames any.0 f [] any.2 in
      let both = and_parts (kind f == FUNC) (bytes_eq (string_at s.strings (name_word f)) name) any.4 in (
        any.0,
        any.2,
        ap kind (sym at) ∙ eqb-true (kind f) FUNC both.0,
        ap (λ (g : List ℕ). string_at s.strings (name_word g)) (sym at) ∙ (bytes_eq-Decides (string_at s.strings (name_word f)) name).0 both.1,
      )

  no_func : (name : List ℕ) → ((j : ℕ) → j < length s.frames → kind_in s j ≡ FUNC → name_in s j ≡ name → ⊥) → is_func_name s name ≡ false
  no_func name none =
      let test = λ (f : List ℕ). kind f == FUNC && bytes_eq (string_at s.strings (name_word f)) name in
      list_any_none test s.frames
      (All-from_get_or (λ f. test f ≡ false) s.frames [] (λ j low. elim (cases_Bool (kind_in s j == FUNC)) [
        | inr other ↦ and_left (kind_in s j == FUNC) (bytes_eq (name_in s j) name) other
        | inl func ↦ elim (cases_Bool (bytes_eq (name_in s j) name)) [
          | inr differs ↦ and_right (kind_in s j == FUNC) (bytes_eq (name_in s j) name) differs
          | inl same ↦ absurd (none j low (eqb-true (kind_in s j) FUNC func) ((bytes_eq-Decides (name_in s j) name).0 same))
        ]
      ]))

  pub apart_in : ((k : ℕ) → k < length s.frames → is_taken s (kind_in s k) (name_in s k) ≡ false) → AreApartIn s
  apart_in free = record {
    funcs = λ i j low high var func same.
        let none = (or_parts (kind_in s i == VAR && is_func_name s (name_in s i)) (one_of (VAR ∷ FWD ∷ TYPE_TAG ∷ []) (kind_in s i) && is_dotted (name_in s i)) (free i low)).0 in
        let found : (kind_in s i == VAR && is_func_name s (name_in s i)) ≡ true =
        and_from (kind_in s i == VAR) (is_func_name s (name_in s i)) (eq-eqb (kind_in s i) VAR var) (func_found j (name_in s i) high func (sym same)) in
        cc;
    dots = λ i low here.
        let none = (or_parts (kind_in s i == VAR && is_func_name s (name_in s i)) (one_of (VAR ∷ FWD ∷ TYPE_TAG ∷ []) (kind_in s i) && is_dotted (name_in s i)) (free i low)).1 in
        elim (and_cases (one_of (VAR ∷ FWD ∷ TYPE_TAG ∷ []) (kind_in s i)) (is_dotted (name_in s i)) none) [
          | inl other ↦ absurd cc
          | inr plain ↦ plain
        ];
  }

  pub not_taken : AreApartIn s → (k : ℕ) → k < length s.frames → is_taken s (kind_in s k) (name_in s k) ≡ false
  not_taken apart k low =
      let here = one_of (VAR ∷ FWD ∷ TYPE_TAG ∷ []) (kind_in s k) in
      let left : (kind_in s k == VAR && is_func_name s (name_in s k)) ≡ false = elim (cases_Bool (kind_in s k == VAR)) [
        | inr other ↦ and_left (kind_in s k == VAR) (is_func_name s (name_in s k)) other
        | inl var ↦
            and_right (kind_in s k == VAR) (is_func_name s (name_in s k))
            (no_func (name_in s k) (λ j high func same. apart.funcs k j low high (eqb-true (kind_in s k) VAR var) func (sym same)))
      ] in
      let right : (here && is_dotted (name_in s k)) ≡ false = elim (cases_Bool here) [
        | inr other ↦ and_left here (is_dotted (name_in s k)) other
        | inl is ↦ and_right here (is_dotted (name_in s k)) (apart.dots k low is)
      ] in
      or_from (kind_in s k == VAR && is_func_name s (name_in s k)) (here && is_dotted (name_in s k)) left right

  -- their rules hold
  pub names_kept : (start : ℕ) → AreApartIn s → (k : ℕ) → k < length s.frames → AllHold (name_rules start s k)
  names_kept start apart k low =
      let free : not (is_taken s (kind_in s k) (name_in s k)) ≡ true = ap not (not_taken apart k low) in
      rw free refl

-- those of a file that keeps the rules
pub apart_kept : (x : TypesSection) (s : SectionWords) → KeepsTypes x s → AreApartIn s
apart_kept x s keeps =
    let n = length s.frames in
    let start = records_start x s in
    let names = rest_hold (each n (rules_of start s)) (each n (name_rules start s)) (rest_hold (form_rules x s) (all_rules start s) keeps.rules) in
    apart_in s (λ k low. not-true (is_taken s (kind_in s k) (name_in s k)) (rule_holds _ _ _ (each_holds n k (name_rules start s) low names)).0)
