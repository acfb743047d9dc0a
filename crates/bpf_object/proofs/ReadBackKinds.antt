-- The kinds of the sections of a written file.
use Rattle.std.proofs.Common.{◌≡◌, ℕ, zero, suc, ◌+◌, ◌-◌, ◌<◌, ◌≤◌, ◌==◌, false, Bool, List, Option, Some, None, if◌then◌else◌, refl, ap, ◌∙◌, arith}
use Rattle.std.specs.Prelude.{nat_lt}
use Rattle.std.proofs.lemmas.Bool.Decides.{nat_tests}
use Rattle.bpf_words.specs.declared.Order.{Order}
use Rattle.bpf_elf.specs.declared.kinds.Kind.{Kind}
use Rattle.bpf_elf.specs.declared.kinds.Kind.TheVariants.{Symbols}
use Rattle.bpf_elf.specs.Rules.{Rule, AllHold, each, first_of}
use Rattle.bpf_elf.specs.Numbers as number
use Rattle.bpf_elf.specs.Names.{string_at}
use Rattle.bpf_elf.specs.Kinds.{kind_of, is_kind}
use Rattle.bpf_elf.specs.Sections.{kind, name, section_of, is_again}
use Rattle.bpf_elf.specs.Symbols.{symbols}
use Rattle.bpf_elf.proofs.RuleLemmas.{both_hold}
use Rattle.bpf_object.specs.File.{WrittenSection, file_of}
use Rattle.bpf_object.proofs.ReadBackFile.{IsWritable, has_file_header, has_header}
use Rattle.bpf_object.proofs.ReadBackRules.{name_is, zero_name_is}

-- the name that a row of the table of section headers has in the last section; the first row has the first name
abbrev pub written_name : (ℕ → WrittenSection) → ℕ → ℕ → List ℕ
written_name s n zero = string_at (s (n - 1)).content 0
written_name s n (suc i) = string_at (s (n - 1)).content (s i).name_offset

-- its type and flags
abbrev pub written_type : (ℕ → WrittenSection) → ℕ → ℕ
written_type s zero = 0
written_type s (suc i) = (s i).type

abbrev pub written_flags : (ℕ → WrittenSection) → ℕ → ℕ
written_flags s zero = 0
written_flags s (suc i) = (s i).flags

-- its kind, of which the first row has none
abbrev pub written_kind : (ℕ → WrittenSection) → ℕ → ℕ → Option Kind
written_kind s n zero = None
written_kind s n (suc i) = kind_of (s i).type (written_name s n (suc i)) (s i).flags

-- the first of the first rows that has a kind; 0 if none has
abbrev pub written_section : (ℕ → WrittenSection) → ℕ → Kind → ℕ → ℕ
written_section s n k m = first_of m (λ i. is_kind k (written_kind s n i))

abbrev pub is_found : (Kind → ℕ) → Option Kind → Bool
is_found section (Some k) = nat_lt 0 (section k)
is_found section None = false

-- an earlier row has the same kind
abbrev pub is_written_again : (ℕ → WrittenSection) → ℕ → ℕ → Bool
is_written_again s n i = is_found (λ k. written_section s n k i) (written_kind s n i)

-- ---- sequences of rules and tests

-- rules that each hold
pub all_hold : {C : Type 0} (n : ℕ) (rules : ℕ → List (Rule C)) → ((i : ℕ) → i < n → AllHold (rules i)) → AllHold (each n rules)
all_hold zero rules h = refl
all_hold (suc n) rules h = both_hold (each n rules) (rules n) (all_hold n rules (λ i lt. h i (omega (arith, lt)))) (h n (omega arith))

first_same : (m : ℕ) (p q : ℕ → Bool) → ((i : ℕ) → i < m → p i ≡ q i) → first_of m p ≡ first_of m q
first_same zero p q same = refl
first_same (suc m) p q same =
    let before : first_of m p ≡ first_of m q = first_same m p q (λ i lt. same i (omega (arith, lt))) in
    let here : p m ≡ q m = same m (omega arith) in
    rw (before, here) refl

found_same : (o : Option Kind) (f g : Kind → ℕ) → ((k : Kind) → f k ≡ g k) → is_found f o ≡ is_found g o
found_same (Some k) f g same = ap (λ (x : ℕ). nat_lt 0 x) (same k)
found_same None f g same = refl

pub next : (i : ℕ) → suc i ≡ i + 1
next i = omega arith

not_first : (i : ℕ) → (suc i == 0) ≡ false
not_first i = grind (arith, nat_tests)

module _ (b : List ℕ) (o : Order) (flags : ℕ) (s : ℕ → WrittenSection) (n : ℕ) (is : b ≡ file_of o flags s n) (w : IsWritable flags s n) where
  pub row_type : (i : ℕ) → i < n → number.type b (suc i) ≡ (s i).type
  row_type i lt = ap (λ (k : ℕ). number.type b k) (next i) ∙ (has_header b o flags s n is w i lt).type

  pub row_name : (i : ℕ) → i < n + 1 → name b i ≡ written_name s n i
  row_name zero lt = zero_name_is b o flags s n is w
  row_name (suc i) lt = ap (λ (k : ℕ). name b k) (next i) ∙ name_is b o flags s n is w i (omega (arith, lt))

  pub row_flags : (i : ℕ) → i < n → number.flags b (suc i) ≡ (s i).flags
  row_flags i lt = ap (λ (k : ℕ). number.flags b k) (next i) ∙ (has_header b o flags s n is w i lt).flags

  pub kind_is : (i : ℕ) → i < n + 1 → kind b i ≡ written_kind s n i
  kind_is zero lt = refl
  kind_is (suc i) lt =
      let below : i < n = omega (arith, lt) in
      ap (λ (x : Bool). if x then None else kind_of (number.type b (suc i)) (name b (suc i)) (number.flags b (suc i))) (not_first i)
      ∙ ap (λ (t : ℕ). kind_of t (name b (suc i)) (number.flags b (suc i))) (row_type i below)
      ∙ ap (λ (t : List ℕ). kind_of (s i).type t (number.flags b (suc i))) (row_name (suc i) lt)
      ∙ ap (λ (t : ℕ). kind_of (s i).type (written_name s n (suc i)) t) (row_flags i below)

  pub section_of_is : (k : Kind) (m : ℕ) → m ≤ n + 1 → section_of b k m ≡ written_section s n k m
  section_of_is k m le = first_same m (λ i. is_kind k (kind b i)) (λ i. is_kind k (written_kind s n i)) (λ i lt. ap (λ (o : Option Kind). is_kind k o) (kind_is i (omega (arith, lt, le))))

  pub again_is : (i : ℕ) → i < n + 1 → is_again b i ≡ is_written_again s n i
  again_is i lt =
      ap (λ (o : Option Kind). is_found (λ k. section_of b k i) o) (kind_is i lt)
      ∙ found_same (written_kind s n i) (λ k. section_of b k i) (λ k. written_section s n k i) (λ k. section_of_is k i (omega (arith, lt)))

  pub symbols_are : symbols b ≡ written_section s n Symbols (n + 1)
  symbols_are = ap (λ (m : ℕ). section_of b Symbols m) (has_file_header b o flags s n is w).count ∙ section_of_is Symbols (n + 1) (omega arith)
