-- A section cut after each NUL: each string in it is a suffix of one of its pieces, and suffixes of different pieces aren't longer in total.
use Rattle.std.proofs.Common.{◌≡◌, ◌≢◌, ℕ, zero, suc, ◌+◌, ◌≤◌, Bool, not, inl, inr, List, [], ◌∷◌, ◌++◌, length, refl, sym, ap, ◌∙◌, subst, arith, append_assoc}
use Rattle.std.specs.List.{filter, flat_map, All}
use Rattle.std.proofs.lemmas.Bool.{both_ways, not-true, cases_Bool, cases_lt, cases_eq, cond-true, cond-false}
use Rattle.std.proofs.lemmas.List.{length-append, Elements.All-nil, Elements.All-cons, Elements.All-head, Elements.All-tail}
use Rattle.btf_raw.specs.Names.{IsWithoutNul}
use Rattle.btf_types.specs.{Names.with_nul, strings.SharedNames.is_suffix}
use Rattle.btf_types.proofs.Members.{Has, Has-from_filter}
use Rattle.btf_types.proofs.StringLemmas.{Texts.IsWithoutNul-suffix, Distinct.NoRepeats, Distinct.NoRepeats-filter}
use Rattle.btf_types.proofs.StringLemmas.Suffixes.{Ends, split_ends, Ends-length, Ends-from_suffix, suffix_from_Ends}

abbrev pub texts : List (List ℕ) → List ℕ
texts ks = flat_map with_nul ks

-- two strings without NUL, each followed by NUL, that begin the same list are equal
nul_same : (m x f a : List ℕ) → IsWithoutNul m → IsWithoutNul x → m ++ 0 ∷ f ≡ x ++ 0 ∷ a → m ≡ x
nul_same [] [] f a n o e = refl
nul_same [] (b ∷ x) f a n o e = absurd (let z : 0 ≡ b = cc in o zero (omega arith) (sym z))
nul_same (b ∷ m) [] f a n o e = absurd (let z : b ≡ 0 = cc in n zero (omega arith) z)
nul_same (b ∷ m) (c ∷ x) f a n o e =
    let heads : b ≡ c = cc in
    let tails : m ++ 0 ∷ f ≡ x ++ 0 ∷ a = cc in
    let i = nul_same m x f a (λ k h z. n (suc k) (omega (arith, h)) z) (λ k h z. o (suc k) (omega (arith, h)) z) tails in
    cc

-- a string in the bytes of the pieces is a suffix of one of the pieces
pub ends_string : (ss : List (List ℕ)) (before x after : List ℕ) → All IsWithoutNul ss → IsWithoutNul x → before ++ x ++ 0 ∷ after ≡ texts ss → (s : List ℕ) × Has ss s × Ends x s
ends_string [] before x after ns n e = absurd (omega (arith, ap length e, length-append (before ++ x) (0 ∷ after)))
ends_string (s ∷ ss) before x after ns n e =
    let whole : before ++ (x ++ 0 ∷ after) ≡ s ++ 0 ∷ texts ss = sym (append_assoc before x (0 ∷ after)) ∙ e ∙ append_assoc s (0 ∷ []) (texts ss) in
    elim (cases_lt (length s) (length before)) [
      | inl l ↦
          let m = split_ends before (s ++ 0 ∷ []) (x ++ 0 ∷ after) (texts ss) (sym (append_assoc before x (0 ∷ after)) ∙ e) (omega (arith, l, length-append s (0 ∷ []))) in
          let i = ends_string ss m.0 x after (All-tail IsWithoutNul s ss ns) n (append_assoc m.0 x (0 ∷ after) ∙ m.2) in
          (i.0, inr i.1, i.2)
      | inr l ↦
          let m = split_ends s before (0 ∷ texts ss) (x ++ 0 ∷ after) (sym whole) l in
          (s, inl refl, (before, m.1 ∙ ap (λ (t : List ℕ). before ++ t) (nul_same m.0 x (texts ss) after (IsWithoutNul-suffix before m.0 (subst IsWithoutNul m.1 (All-head IsWithoutNul s ss ns))) n m.2)))
    ]

-- a section that ends with NUL can be cut
pub record Cut (front : List ℕ) : Type 0 where
  pub strings : List (List ℕ)
  pub last : List ℕ
  pub all : All IsWithoutNul strings
  pub last_all : IsWithoutNul last
  pub whole : front ≡ texts strings ++ last

cons_text : (b : ℕ) (x : List ℕ) → b ≢ 0 → IsWithoutNul x → IsWithoutNul (b ∷ x)
cons_text b x n o zero h = n
cons_text b x n o (suc i) h = o i (omega (arith, h))

before_last : (b : ℕ) (s : List ℕ) → b ≢ 0 → Cut s → Cut (b ∷ s)
before_last b s n c = cut_from c.strings c.last c.all c.last_all c.whole where
  cut_from : (ss : List (List ℕ)) (last : List ℕ) → All IsWithoutNul ss → IsWithoutNul last → s ≡ texts ss ++ last → Cut (b ∷ s)
  cut_from [] last all last_all whole = record { strings = []; last = b ∷ last; all = all; last_all = cons_text b last n last_all; whole = ap (λ (t : List ℕ). b ∷ t) whole }
  cut_from (t ∷ ss) last all last_all whole = record {
    strings = (b ∷ t) ∷ ss;
    last = last;
    all = All-cons IsWithoutNul (b ∷ t) ss (cons_text b t n (All-head IsWithoutNul t ss all)) (All-tail IsWithoutNul t ss all);
    last_all = last_all;
    whole = ap (λ (t : List ℕ). b ∷ t) whole;
  }

pub cut : (s : List ℕ) → Cut s
cut [] = record { strings = []; last = []; all = All-nil IsWithoutNul; last_all = λ i h e. omega (arith, h); whole = refl }
cut (b ∷ s) = elim (cases_eq b 0) [
  | inl e ↦
      let c = cut s in
      record { strings = [] ∷ c.strings; last = c.last; all = All-cons IsWithoutNul [] c.strings (λ i h e. omega (arith, h)) c.all; last_all = c.last_all; whole = cc }
  | inr n ↦ before_last b s n (cut s)
]

-- the strings that pass a test and the others make up all of them
parted : (p : List ℕ → Bool) (hs : List (List ℕ)) → length (texts hs) ≡ length (texts (filter p hs)) + length (texts (filter (λ h. not (p h)) hs))
parted p [] = refl
parted p (h ∷ hs) =
    let q : List ℕ → Bool = λ x. not (p x) in
    let rest = parted p hs in
    let whole = length-append (with_nul h) (texts hs) in
    elim (cases_Bool (p h)) [
      | inl t ↦
          let yes : filter p (h ∷ hs) ≡ h ∷ filter p hs = cond-true (p h) (h ∷ filter p hs) (filter p hs) t in
          let no : filter q (h ∷ hs) ≡ filter q hs = cond-false (q h) (h ∷ filter q hs) (filter q hs) (ap not t) in
          omega (arith, rest, whole, ap (λ (l : List (List ℕ)). length (texts l)) yes, ap (λ (l : List (List ℕ)). length (texts l)) no, length-append (with_nul h) (texts (filter p hs)))
      | inr f ↦
          let yes : filter p (h ∷ hs) ≡ filter p hs = cond-false (p h) (h ∷ filter p hs) (filter p hs) f in
          let no : filter q (h ∷ hs) ≡ h ∷ filter q hs = cond-true (q h) (h ∷ filter q hs) (filter q hs) (ap not f) in
          omega (arith, rest, whole, ap (λ (l : List (List ℕ)). length (texts l)) yes, ap (λ (l : List (List ℕ)). length (texts l)) no, length-append (with_nul h) (texts (filter q hs)))
    ]

pub fewer : (p : List ℕ → Bool) (hs : List (List ℕ)) → length (texts (filter p hs)) ≤ length (texts hs)
fewer p hs = omega (arith, parted p hs)

-- the length of at most one string
one_room : (hs : List (List ℕ)) (n : ℕ) → NoRepeats hs → ((h g : List ℕ) → Has hs h → Has hs g → h ≡ g) → ((h : List ℕ) → Has hs h → length h ≤ n) → length (texts hs) ≤ n + 1
one_room [] n distinct same below = omega arith
one_room (h ∷ []) n distinct same below = omega (arith, below h (inl refl), length-append (with_nul h) [], length-append h (0 ∷ []))
one_room (h ∷ g ∷ hs) n (alone, rest) same below = absurd (alone (inl (same g h (inr (inl refl)) (inl refl))))

-- Distinct hosts, each a suffix of one of the strings, aren't longer in total than the strings.
pub fits : (ss hs : List (List ℕ)) → NoRepeats hs → ((h g s : List ℕ) → Has hs h → Has hs g → Ends h s → Ends g s → h ≡ g) → ((h : List ℕ) → Has hs h → (s : List ℕ) × Has ss s × Ends h s) → length (texts hs) ≤ length (texts ss)
fits [] [] n apart ends = omega arith
fits [] (h ∷ hs) n apart ends = absurd (ends h (inl refl)).1
fits (s ∷ ss) hs n apart ends =
    let p : List ℕ → Bool = λ h. is_suffix h s in
    let q : List ℕ → Bool = λ h. not (p h) in
    let first : length (texts (filter p hs)) ≤ length s + 1 =
    one_room (filter p hs) (length s) (NoRepeats-filter p hs n)
    (λ h g i j.
    let a = Has-from_filter p hs h i in
    let b = Has-from_filter p hs g j in
    apart h g s a.0 b.0 (Ends-from_suffix h s a.1) (Ends-from_suffix g s b.1))
    (λ h i. Ends-length h s (Ends-from_suffix h s ((Has-from_filter p hs h i).1))) in
    let rest : length (texts (filter q hs)) ≤ length (texts ss) =
    fits ss (filter q hs) (NoRepeats-filter q hs n)
    (λ h g t i j. apart h g t ((Has-from_filter q hs h i).0) ((Has-from_filter q hs g j).0))
    (λ h i.
    let a = Has-from_filter q hs h i in
    let e = ends h a.0 in
    elim e.1 [
      | inl same ↦ absurd (both_ways (p h) (not-true (p h) a.1) (suffix_from_Ends h s (subst (Ends h) (sym same) e.2)))
      | inr has ↦ (e.0, has, e.2)
    ]) in
    omega (arith, first, rest, parted p hs, length-append (with_nul s) (texts ss), length-append s (0 ∷ []))
