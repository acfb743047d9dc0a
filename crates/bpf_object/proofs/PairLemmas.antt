-- Pairs of groups by the names of their sections, while they are checked.
use Rattle.std.proofs.Common.{◌≡◌, ℕ, ◌+◌, ◌<◌, ◌||◌, ◌&&◌, Bool, true, false, cond, not, Option, Some, None, List, [], ◌∷◌, ◌++◌, length, map, inl, inr, refl, sym, ap, ◌∙◌, subst, append_assoc, length-append, arith}
use Rattle.std.specs.Prelude.{⊤, is_some, option_copied, slice_index_or, MatchOption}
use Rattle.std.specs.{Borrow.Bor, List.All, List.find, Str.bytes_eq}
use Rattle.std.specs.{Cmp.nat_cmp_is, Cmp.Lexicographic.slice_cmp, declared.cmp.Ordering.Ordering, Ordering.is_eq, Ordering.nat_cmp, Ordering.ordering_then}
use Rattle.std.specs.declared.cmp.Ordering.TheVariants.{Less, Equal, Greater}
use Rattle.std.proofs.lemmas.Bool.{cases_Bool, cases_lt, and_parts, not-true}
use Rattle.std.proofs.lemmas.List.{map-append, get_or_append_left, get_or_push}
use Rattle.std.proofs.lemmas.Map.Text.{is_eq-slice_cmp}
use Rattle.bpf_elf.specs.Rules.{first_broken}
use Rattle.btf_types.proofs.StringLemmas.Texts.{same_text}
use Rattle.bpf_object.specs.declared.{extension.Part.Part, pairs.Pair.Pair, source.Source.Source}
use Rattle.bpf_object.specs.declared.extension.Part.TheVariants.{Functions}
use Rattle.bpf_object.specs.Extension.{Section, groups}
use Rattle.bpf_object.specs.FunctionLines.{pairs_of, pair_in}
use Rattle.bpf_object.specs.Lines.{name_of, is_among, ascends, have_lines, is_pair, pairs_rules}
use Rattle.bpf_object.specs.private.Cursors.{rest_of}
use Rattle.bpf_object.specs.private.Pairs.{PairsByName, pair_for, StoresPair, IsPair, HasPairs}
use Rattle.bpf_object.specs.Sources.{section, HasGroup}

-- ---- names as keys

same_then : (a b : Ordering) → is_eq b ≡ false → is_eq (ordering_then a b) ≡ false
same_then Less b e = refl
same_then Equal b e = e
same_then Greater b e = refl

-- two names have the same key if and only if they are equal
same_key : (x y : List ℕ) → is_eq (ordering_then (nat_cmp (length x) (length y)) (slice_cmp nat_cmp x y)) ≡ bytes_eq x y
same_key x y = elim (cases_Bool (bytes_eq x y)) [
  | inl same ↦
      let long : length x ≡ length y = ap (λ (t : List ℕ). length t) (same_text x y same) in
      ap (λ (o : Ordering). is_eq (ordering_then o (slice_cmp nat_cmp x y))) (sym (nat_cmp_is (length x) (length y) Equal long)) ∙ is_eq-slice_cmp x y
  | inr other ↦ same_then (nat_cmp (length x) (length y)) (slice_cmp nat_cmp x y) (is_eq-slice_cmp x y ∙ other) ∙ sym other
]

-- what a map has for each name after a pair was stored
pub pair_updated : (old new : PairsByName) (x : List ℕ) (pair : Pair)
    → ((y : List ℕ) → pair_for new y ≡ cond (is_eq (ordering_then (nat_cmp (length x) (length y)) (slice_cmp nat_cmp x y))) (Some pair) (pair_for old y))
    → StoresPair old new x pair
pair_updated old new x pair h y = h y ∙ ap (λ (b : Bool). cond b (Some pair) (pair_for old y)) (same_key x y)

pub no_pairs : (by_name : PairsByName) (name : List ℕ) → by_name.entries ≡ [] → pair_for by_name name ≡ None
no_pairs by_name name none = rw none refl

-- ---- lists of pairs

-- the names of their sections
abbrev pub names_of : Section → List Pair → List (List ℕ)
names_of s pairs = map (λ pair. name_of s pair.functions) pairs

any_or_none : {A : Type 0} (t : Bool) (x : A) (rest : Option A) (any : Bool) → any ≡ is_some rest → (t || any) ≡ is_some (cond t (Some x) rest)
any_or_none true x rest any e = refl
any_or_none false x rest any e = e

pub among_found : (s : Section) (pairs : List Pair) (name : List ℕ) → is_among (names_of s pairs) name ≡ is_some (pair_in s pairs name)
among_found s [] name = refl
among_found s (pair ∷ pairs) name =
    any_or_none (bytes_eq (name_of s pair.functions) name) pair (pair_in s pairs name) (is_among (names_of s pairs) name) (among_found s pairs name)

-- the first that passes, if there is one more
or_last : {A : Type 0} → Option A → Option A → Option A
or_last (Some y) last = Some y
or_last None last = last

chosen_last : {A : Type 0} (t : Bool) (x : A) (found last all : Option A) → all ≡ or_last found last → cond t (Some x) all ≡ or_last (cond t (Some x) found) last
unfolding or_last
chosen_last true x found last all e = refl
chosen_last false x found last all e = e

find_more : {A : Type 0} (test : A → Bool) (xs : List A) (x : A) → find test (xs ++ x ∷ []) ≡ or_last (find test xs) (cond (test x) (Some x) None)
unfolding or_last
find_more test [] x = refl
find_more test (y ∷ xs) x = chosen_last (test y) y (find test xs) (cond (test x) (Some x) None) (find test (xs ++ x ∷ [])) (find_more test xs x)

last_known : {A : Type 0} (found : Option A) → or_last found None ≡ found
unfolding or_last
last_known (Some x) = refl
last_known None = refl

last_new : {A : Type 0} (found last : Option A) → found ≡ None → or_last found last ≡ last
unfolding or_last
last_new found last none = rw none refl

not_some : {A : Type 0} (found : Option A) → is_some found ≡ false → found ≡ None
not_some (Some x) e = absurd cc
not_some None e = refl

-- ---- one pair more

module _ (x : Source) (p : Part) (pairs : List Pair) (old new : PairsByName) (pair : Pair) (has : HasPairs x p pairs old) (there : IsPair x p pair)
    (is_new : pair_for old (name_of (section x) pair.functions) ≡ None) (stores : StoresPair old new (name_of (section x) pair.functions) pair) where
  abbrev s : Section
  s = section x

  abbrev name : List ℕ
  name = name_of s pair.functions

  found_more : (y : List ℕ) → pair_for new y ≡ pair_in s (pairs ++ pair ∷ []) y
  found_more y = elim (cases_Bool (bytes_eq name y)) [
    | inl same ↦
        let none : pair_in s pairs y ≡ None = ap (pair_in s pairs) (sym (same_text name y same)) ∙ sym (has.found name) ∙ is_new in
        stores y ∙ ap (λ (b : Bool). cond b (Some pair) (pair_for old y)) same
        ∙ sym (find_more (λ q. bytes_eq (name_of s q.functions) y) pairs pair ∙ last_new (pair_in s pairs y) (cond (bytes_eq name y) (Some pair) None) none
        ∙ ap (λ (b : Bool). cond b (Some pair) None) same)
    | inr other ↦
        stores y ∙ ap (λ (b : Bool). cond b (Some pair) (pair_for old y)) other ∙ has.found y
        ∙ sym (find_more (λ q. bytes_eq (name_of s q.functions) y) pairs pair
        ∙ ap (λ (b : Bool). or_last (pair_in s pairs y) (cond b (Some pair) None)) other ∙ last_known (pair_in s pairs y))
  ]

  one_of : (t : Bool) (q : Pair) (before : Option Pair) → cond t (Some pair) before ≡ Some q → (before ≡ Some q → IsPair x p q) → IsPair x p q
  one_of true q before e h = let same : pair ≡ q = cc in subst (IsPair x p) same there
  one_of false q before e h = h e

  pub has_more : HasPairs x p (pairs ++ pair ∷ []) new
  has_more = record {
    found = found_more;
    each = λ y q e. one_of (bytes_eq name y) q (pair_for old y) (sym (stores y) ∙ e) (has.each y q);
  }

pub has_none : (x : Source) (p : Part) (by_name : PairsByName) → by_name.entries ≡ [] → HasPairs x p [] by_name
has_none x p by_name none = record { found = λ y. no_pairs by_name y none; each = λ y q e. absurd (some_none q (sym (no_pairs by_name y none) ∙ e)) }
  where
    some_none : (q : Pair) → None ≡ Some q → ⊥
    some_none q e = cc

-- what a check of groups at the same index says of them
pub pair_there : (x : Source) (p : Part) (f l : ℕ) → HasGroup x Functions f → HasGroup x p l → is_pair (section x) p f l ≡ true → IsPair x p (record { functions = f; lines = l })
pair_there x p f l functions lines is =
    let s = section x in
    let rest = and_parts (bytes_eq (name_of s f) (name_of s l)) (ascends s Functions f && (ascends s p l && have_lines s p f l)) is in
    let both = and_parts (ascends s Functions f) (ascends s p l && have_lines s p f l) rest.1 in
    record { functions = functions; lines = lines; functions_ascend = both.0; lines_ascend = (and_parts (ascends s p l) (have_lines s p f l) both.1).0 }

-- ---- the groups that a loop over both parts has left

pub record IsLeft (x : Source) (p : Part) (by_name : PairsByName) (functions lines : Option ℕ) : Type 0 where
  pub pairs : List Pair
  pub rules : first_broken (pairs_rules (section x) p [] (groups (section x) Functions) (groups (section x) p))
      ≡ first_broken (pairs_rules (section x) p (names_of (section x) pairs) (rest_of (section x) Functions functions) (rest_of (section x) p lines))
  pub whole : pairs ++ pairs_of (rest_of (section x) Functions functions) (rest_of (section x) p lines) ≡ pairs_of (groups (section x) Functions) (groups (section x) p)
  pub has : HasPairs x p pairs by_name
  pub functions_left : All (HasGroup x Functions) (rest_of (section x) Functions functions)
  pub lines_left : All (HasGroup x p) (rest_of (section x) p lines)

pub names_more : (s : Section) (pairs : List Pair) (pair : Pair) → names_of s (pairs ++ pair ∷ []) ≡ names_of s pairs ++ name_of s pair.functions ∷ []
names_more s pairs pair = map-append (λ q. name_of s q.functions) pairs (pair ∷ [])

-- the pair that is checked next
pub whole_after : (s : Section) (p : Part) (pairs all : List Pair) (f l : ℕ) (functions lines fs ls : Option ℕ) → functions ≡ Some f → lines ≡ Some l
    → rest_of s Functions (Some f) ≡ f ∷ rest_of s Functions fs → rest_of s p (Some l) ≡ l ∷ rest_of s p ls
    → pairs ++ pairs_of (rest_of s Functions functions) (rest_of s p lines) ≡ all
    → (pairs ++ record { functions = f; lines = l } ∷ []) ++ pairs_of (rest_of s Functions fs) (rest_of s p ls) ≡ all
whole_after s p pairs all f l functions lines fs ls there here first second whole =
    let more = pairs_of (rest_of s Functions fs) (rest_of s p ls) in
    let split : pairs_of (rest_of s Functions functions) (rest_of s p lines) ≡ record { functions = f; lines = l } ∷ more =
    ap (λ (gs : List ℕ). pairs_of gs (rest_of s p lines)) (ap (rest_of s Functions) there ∙ first)
    ∙ ap (λ (gs : List ℕ). pairs_of (f ∷ rest_of s Functions fs) gs) (ap (rest_of s p) here ∙ second) in
    append_assoc pairs (record { functions = f; lines = l } ∷ []) more ∙ ap (λ (qs : List Pair). pairs ++ qs) (sym split) ∙ whole

-- the rules on that pair, as they are checked
pub pair_rules_are : (x : Source) (p : Part) (pairs : List Pair) (by_name : PairsByName) (f l : ℕ) → HasPairs x p pairs by_name
    → is_some (pair_for by_name (name_of (section x) f)) ≡ is_among (names_of (section x) pairs) (name_of (section x) f)
pair_rules_are x p pairs by_name f l has =
    ap (λ (o : Option Pair). is_some o) (has.found (name_of (section x) f)) ∙ sym (among_found (section x) pairs (name_of (section x) f))

pub new_name : (by_name : PairsByName) (name : List ℕ) → not (is_some (pair_for by_name name)) ≡ true → pair_for by_name name ≡ None
new_name by_name name h = not_some (pair_for by_name name) (not-true (is_some (pair_for by_name name)) h)

-- one value more
pub pair_pushed : (old new : List (Option Pair)) (pair : Option Pair) (n : ℕ) (f : ℕ → Option Pair) → new ≡ old ++ pair ∷ [] → length old ≡ n
    → ((i : ℕ) → i < n → slice_index_or old i None ≡ f i) → pair ≡ f n → (length new ≡ n + 1) × ((i : ℕ) → i < n + 1 → slice_index_or new i None ≡ f i)
pair_pushed old new pair n f is len each value = (
  ap length is ∙ length-append old (pair ∷ []) ∙ omega (arith, len),
  λ i lt. ap (λ (xs : List (Option Pair)). slice_index_or xs i None) is ∙ elim (cases_lt i n) [
    | inl below ↦ get_or_append_left old (pair ∷ []) None i (omega (arith, below, len)) ∙ each i below
    | inr from ↦
        let same : n ≡ i = omega (arith, lt, from) in
        get_or_push old pair None i (len ∙ same) ∙ value ∙ ap f same
  ],
)

-- the pair of a section, if it has one
pub pair_known : (x : Source) (p : Part) (o : Option Pair) → ((pair : Pair) → o ≡ Some pair → IsPair x p pair) → MatchOption o ⊤ (IsPair x p)
pair_known x p (Some pair) h = h pair refl
pair_known x p None h = tt
