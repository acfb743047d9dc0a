-- Which names of VAR a FUNC has: names that are sorted and looked up.
use Rattle.std.proofs.Common.{◌≡◌, ℕ, zero, suc, ◌+◌, ◌-◌, ◌<◌, ◌≤◌, ◌==◌, ◌&&◌, ◌||◌, ◌↔◌, Bool, true, false, cond, Result, Ok, Err, List, [], ◌∷◌, ◌++◌, length, get_or, set, map, take, drop, refl, sym, ap, subst, ◌∙◌, inl, inr, eq-eqb, arith}
use Rattle.std.specs.{Borrow.Bor, Cmp.Lexicographic.slice_cmp, List.All, List.Contains, List.dedup, List.filter, List.take_while, Prelude.not, Prelude.nat_lt, Prelude.MatchResult}
use Rattle.std.specs.List.Sorted.{IsPermutation, IsBinarySearchResult, IsPartitionPoint}
use Rattle.std.specs.Ordering.{nat_cmp}
use Rattle.std.specs.declared.cmp.Ordering.{Ordering}
use Rattle.std.specs.declared.cmp.Ordering.TheVariants.{Less, Equal, Greater}
use Rattle.std.specs.Result.{is_ok}
use Rattle.std.proofs.lemmas.Bool.{cases_Bool, cases_lt, cases_eq, eqb-true, ne_eqb, ltb-true, and_parts, false_from_ne_true}
use Rattle.std.proofs.lemmas.Cmp.{tied_itself, nat_list_cmp_total}
use Rattle.std.proofs.lemmas.List.{get_or-map, length-map, get_or-set_same, get_or-set_other, get_or-drop, append-nil, map-append, map_push, map_more, drop-drop, Sums.take_while-cons}
use Rattle.std.proofs.lemmas.List.Elements.{All-contains, Contains-get_or, filter_more}
use Rattle.std.proofs.lemmas.List.Kept.{Contains-dedup_nat, Contains-from_dedup}
use Rattle.std.proofs.lemmas.List.Sorted.{Contains-permutation, IsPermutation-sym, IsPermutation-map, searchable_from_sorted}
use Rattle.std.proofs.lemmas.Map.Lookups.{exact_bytes}
use Rattle.bpf_elf.specs.{Names.is_closed, Names.string_at, Rules.rule}
use Rattle.btf_raw.specs.{KindNumbers.FWD, KindNumbers.FUNC, KindNumbers.VAR, KindNumbers.TYPE_TAG, Kinds.one_of}
use Rattle.btf_raw.specs.Frames.{name_word, kind}
use Rattle.btf_raw.proofs.Texts.{TextAt-inside}
use Rattle.btf_types.specs.{Names.head_name, Reading.record_of, Valid.facts, Encoding.Encodes, Sections.SectionWords, Sections.records_in}
use Rattle.btf_types.specs.tables.TableInvariant.{IsTable}
use Rattle.btf_types.proofs.{Encoded.numbers, Lists.zip_at}
use Rattle.btf_types.proofs.Members.{Has, Has-from_Contains, Contains-from_Has}
use Rattle.bpf_object.specs.declared.fault.ObjectCause.TheVariants as cause
use Rattle.bpf_object.specs.Types.{record_offset, is_func_name, is_taken, name_rules}
use Rattle.bpf_object.specs.private.NameRanks.{text_key, name_key}
use Rattle.bpf_object.specs.private.TakenNames.{names_of, key_of, AreSorted, AreFuncNames, IsMarked, AreMarks, is_taken as is_marked_taken}
use Rattle.bpf_object.proofs.{CanonBtfRules.no_record, ReadBackStrings.closed_from_ends}
use Rattle.bpf_object.proofs.NameRules.{kind_in, name_in, func_found, func_there}

-- ---- the offsets of the names of the records of a kind

names_more : (k : ℕ) (fs : List (List ℕ)) (i : ℕ) → i < length fs → names_of k (take (i + 1) fs) ≡ names_of k (take i fs) ++ cond (kind (get_or fs i []) == k) (name_word (get_or fs i []) ∷ []) []
names_more k fs i lt =
    let f = get_or fs i [] in
    ap (map name_word) (filter_more (λ g. kind g == k) fs i [] lt) ∙ map-append name_word (filter (λ g. kind g == k) (take i fs)) (cond (kind f == k) (f ∷ []) [])
    ∙ ap (λ (ws : List ℕ). names_of k (take i fs) ++ ws) (mapped (kind f == k) f)
  where
    mapped : (b : Bool) (f : List ℕ) → map name_word (cond b (f ∷ []) []) ≡ cond b (name_word f ∷ []) []
    mapped true f = refl
    mapped false f = refl

pub names_pushed : (k : ℕ) (fs : List (List ℕ)) (i : ℕ) (f old new : List ℕ) (word : ℕ) → i < length fs → get_or fs i [] ≡ f → kind f ≡ k → word ≡ name_word f → old ≡ names_of k (take i fs)
    → new ≡ old ++ word ∷ [] → new ≡ names_of k (take (i + 1) fs)
names_pushed k fs i f old new word lt at is of before pushed =
    let here : (kind (get_or fs i []) == k) ≡ true = eq-eqb (kind (get_or fs i [])) k (ap kind at ∙ is) in
    let more : names_of k (take (i + 1) fs) ≡ names_of k (take i fs) ++ name_word (get_or fs i []) ∷ [] =
    names_more k fs i lt ∙ ap (λ (b : Bool). names_of k (take i fs) ++ cond b (name_word (get_or fs i []) ∷ []) []) here in
    pushed ∙ ap (λ (l : List ℕ). l ++ word ∷ []) before ∙ ap (λ (w : ℕ). names_of k (take i fs) ++ w ∷ []) (of ∙ ap name_word (sym at)) ∙ sym more

pub names_stay : (k : ℕ) (fs : List (List ℕ)) (i : ℕ) (f old new : List ℕ) → i < length fs → get_or fs i [] ≡ f → (kind f ≡ k → ⊥) → old ≡ names_of k (take i fs) → new ≡ old → new ≡ names_of k (take (i + 1) fs)
names_stay k fs i f old new lt at other before same =
    let here : (kind (get_or fs i []) == k) ≡ false = ne_eqb (kind (get_or fs i [])) k (λ e. other (sym (ap kind at) ∙ e)) in
    let more : names_of k (take (i + 1) fs) ≡ names_of k (take i fs) ++ [] =
    names_more k fs i lt ∙ ap (λ (b : Bool). names_of k (take i fs) ++ cond b (name_word (get_or fs i []) ∷ []) []) here in
    same ∙ before ∙ sym (append-nil (names_of k (take i fs))) ∙ sym more

-- the same numbers, each once
pub each_once : (xs ys zs : List ℕ) → IsPermutation xs ys → zs ≡ dedup ◌==◌ ys → (x : ℕ) → Contains zs x ↔ Contains xs x
each_once xs ys zs moved is x = (
  λ has. Contains-permutation ys xs x (IsPermutation-sym xs ys moved) (Contains-from_dedup ◌==◌ ys x (subst (λ (l : List ℕ). Contains l x) is has)),
  λ has. subst (λ (l : List ℕ). Contains l x) (sym is) (Contains-dedup_nat ys x (Contains-permutation xs ys x moved has)),
)

has_name : (k : ℕ) (fs : List (List ℕ)) (j : ℕ) → j < length fs → kind (get_or fs j []) ≡ k → Has (names_of k fs) (name_word (get_or fs j []))
has_name k [] j lt is = absurd (omega (arith, lt))
has_name k (f ∷ fs) zero lt is = let here : (kind f == k) ≡ true = eq-eqb (kind f) k is in rw here (inl refl)
has_name k (f ∷ fs) (suc j) lt is = elim (cases_Bool (kind f == k)) [
  | inl here ↦ rw here (inr (has_name k fs j (omega (arith, lt)) is))
  | inr other ↦ rw other (has_name k fs j (omega (arith, lt)) is)
]

-- a record of the kind with this offset of its name
pub record HasName (k : ℕ) (fs : List (List ℕ)) (off : ℕ) : Type 0 where
  pub index : ℕ
  pub there : index < length fs
  pub kind_is : kind (get_or fs index []) ≡ k
  pub name_is : name_word (get_or fs index []) ≡ off

later_name : (k : ℕ) (f : List ℕ) (fs : List (List ℕ)) (off : ℕ) → HasName k fs off → HasName k (f ∷ fs) off
later_name k f fs off it = record {
  index = suc it.index;
  there = (let low = it.there in omega (arith, low));
  kind_is = it.kind_is;
  name_is = it.name_is;
}

first_name : (k : ℕ) (f : List ℕ) (fs : List (List ℕ)) (off : ℕ) → (kind f == k) ≡ true → Has (name_word f ∷ names_of k fs) off → (Has (names_of k fs) off → HasName k fs off) → HasName k (f ∷ fs) off
first_name k f fs off here (inl e) rest = record { index = 0; there = omega arith; kind_is = eqb-true (kind f) k here; name_is = e }
first_name k f fs off here (inr has) rest = later_name k f fs off (rest has)

name_from : (k : ℕ) (fs : List (List ℕ)) (off : ℕ) → Has (names_of k fs) off → HasName k fs off
name_from k [] off has = absurd has
name_from k (f ∷ fs) off has = elim (cases_Bool (kind f == k)) [
  | inl here ↦ first_name k f fs off here (rw here at has) (name_from k fs off)
  | inr other ↦ later_name k f fs off (name_from k fs off (rw other at has))
]

pub contains_name : (k : ℕ) (fs : List (List ℕ)) (j : ℕ) → j < length fs → kind (get_or fs j []) ≡ k → Contains (names_of k fs) (name_word (get_or fs j []))
contains_name k fs j lt is = Contains-from_Has (names_of k fs) (name_word (get_or fs j [])) (has_name k fs j lt is)

pub named_record : (k : ℕ) (fs : List (List ℕ)) (off : ℕ) → Contains (names_of k fs) off → HasName k fs off
named_record k fs off has = name_from k fs off (Has-from_Contains (names_of k fs) off has)

-- ---- the string at an offset

inside_drop : (p : ℕ → Bool) (xs : List ℕ) (d : ℕ) → d ≤ length (take_while p xs) → drop d (take_while p xs) ≡ take_while p (drop d xs)
inside_drop p xs zero le = refl
inside_drop p [] (suc d) le = refl
inside_drop p (x ∷ xs) (suc d) le = elim (cases_Bool (p x)) [
  | inl pass ↦
      let front : take_while p (x ∷ xs) ≡ x ∷ take_while p xs = take_while-cons p x xs ∙ rw pass refl in
      ap (drop (suc d)) front ∙ inside_drop p xs d (omega (arith, le, ap length front))
  | inr stop ↦
      let front : take_while p (x ∷ xs) ≡ [] = take_while-cons p x xs ∙ rw stop refl in
      absurd (omega (arith, le, ap length front))
]

-- one that is inside another
pub string_inside : (strings : List ℕ) (off last : ℕ) (known : List ℕ) → known ≡ string_at strings last → last ≤ off → off - last ≤ length known → drop (off - last) known ≡ string_at strings off
string_inside strings off last known is from to =
    let d = off - last in
    let at : last + d ≡ off = omega (arith, from) in
    ap (drop d) is ∙ inside_drop (λ c. not (c == 0)) (drop last strings) d (omega (arith, to, ap length is))
    ∙ ap (take_while (λ c. not (c == 0))) (drop-drop d last strings ∙ ap (λ (n : ℕ). drop n strings) at)

-- ---- names that are looked up

map_found : {X : Type 0} (f : X → List ℕ) (xs : List X) (y : List ℕ) → Contains (map f xs) y → (k : ℕ) × (k < length xs) × ((d : X) → f (get_or xs k d) ≡ y)
map_found f xs y (k, lt, e) =
    let low : k < length xs = omega (arith, lt, length-map xs f) in
    (k, low, λ d. sym (get_or-map f xs k d y low) ∙ e)

map_has : {X : Type 0} (f : X → List ℕ) (xs : List X) (k : ℕ) (d : X) (y : List ℕ) → k < length xs → f (get_or xs k d) ≡ y → Contains (map f xs) y
map_has f xs k d y lt e = (k, omega (arith, lt, length-map xs f), get_or-map f xs k d y lt ∙ e)

-- the names at the offsets of those of FUNC
module _ (s : SectionWords) (offsets : List ℕ) (names sorted : List (ℕ × Bor (List ℕ))) where
  pub are_func_names : ((off : ℕ) → Contains offsets off ↔ Contains (names_of FUNC s.frames) off) → map key_of names ≡ map (name_key s.strings) offsets → IsPermutation names sorted → AreSorted sorted → AreFuncNames s sorted
  are_func_names own keys moved in_order = record { sorted = in_order; all = λ text. (found text, has text) }
    where
      same : IsPermutation (map key_of names) (map key_of sorted)
      same = IsPermutation-map key_of names sorted moved

      found : (text : List ℕ) → Contains (map key_of sorted) (text_key text) → is_func_name s text ≡ true
      found text has =
          let first : Contains (map (name_key s.strings) offsets) (text_key text) =
          subst (λ (ks : List (List ℕ)). Contains ks (text_key text)) keys
          (Contains-permutation (map key_of sorted) (map key_of names) (text_key text) (IsPermutation-sym (map key_of names) (map key_of sorted) same) has) in
          let at = map_found (name_key s.strings) offsets (text_key text) first in
          let off = get_or offsets at.0 0 in
          let it = named_record FUNC s.frames off ((own off).0 (Contains-get_or offsets at.0 0 at.1)) in
          func_found s it.index text it.there it.kind_is (ap (string_at s.strings) it.name_is ∙ same_text (at.2 0))
        where
          same_text : {a b : List ℕ} → text_key a ≡ text_key b → a ≡ b
          same_text e = cc

      has : (text : List ℕ) → is_func_name s text ≡ true → Contains (map key_of sorted) (text_key text)
      has text is =
          let it = func_there s text is in
          let off = name_word (get_or s.frames it.0 []) in
          let among = (own off).1 (contains_name FUNC s.frames it.0 it.1 it.2) in
          let key : name_key s.strings (get_or offsets among.0 off) ≡ text_key text = ap (name_key s.strings) among.2 ∙ ap text_key it.3 in
          Contains-permutation (map key_of names) (map key_of sorted) (text_key text) same
          (subst (λ (ks : List (List ℕ)). Contains ks (text_key text)) (sym keys) (map_has (name_key s.strings) offsets among.0 off (text_key text) among.1 key))

apart_keys : (a b : List ℕ) (o : Ordering) → slice_cmp nat_cmp a b ≡ o → (o ≡ Equal → ⊥) → a ≡ b → ⊥
apart_keys a b o is other same = other (sym is ∙ ap (λ (c : List ℕ). slice_cmp nat_cmp c b) same ∙ tied_itself nat_list_cmp_total b)

-- what a search among sorted names says
pub among_sorted : (names : List (ℕ × Bor (List ℕ))) (x : ℕ × Bor (List ℕ)) (r : Result ℕ ℕ) → AreSorted names → MatchResult r (λ i. i < length names) (λ i. i ≤ length names)
    → IsBinarySearchResult (λ y. slice_cmp nat_cmp (key_of y) (key_of x)) names r → (is_ok r ≡ true) ↔ Contains (map key_of names) (key_of x)
among_sorted names x (Ok i) sorted low equal = (λ _. map_has key_of names i x (key_of x) low (exact_bytes _ _ (equal x)), λ _. refl)
among_sorted names x (Err i) sorted high split = (λ e. absurd cc, λ has. absurd (none (map_found key_of names (key_of x) has)))
  where
    parts : IsPartitionPoint (λ y. slice_cmp nat_cmp (key_of y) (key_of x) ≡ Less) (λ y. slice_cmp nat_cmp (key_of y) (key_of x) ≡ Greater) names i
    parts = split (searchable_from_sorted nat_list_cmp_total key_of names (key_of x) sorted)

    none : (k : ℕ) × (k < length names) × ((d : ℕ × Bor (List ℕ)) → key_of (get_or names k d) ≡ key_of x) → ⊥
    none (k, lt, same) = elim (cases_lt k i) [
      | inl before ↦ apart_keys (key_of (get_or names k x)) (key_of x) Less (parts.0 k x (omega arith) before) (λ e. cc) (same x)
      | inr from ↦ apart_keys (key_of (get_or names k x)) (key_of x) Greater (parts.1 k x from lt) (λ e. cc) (same x)
    ]

-- ---- marks

-- one mark more: marks at the same offset are the same
pub marks_more : (strings : List ℕ) (names : List (ℕ × Bor (List ℕ))) (offsets : List ℕ) (marks : List Bool) (k : ℕ) (b : Bool) → get_or offsets k 0 < length marks
    → (b ≡ true) ↔ Contains (map key_of names) (name_key strings (get_or offsets k 0)) → ((i : ℕ) → i < k → IsMarked strings names marks (get_or offsets i 0))
    → (i : ℕ) → i < k + 1 → IsMarked strings names (set marks (get_or offsets k 0) b) (get_or offsets i 0)
marks_more strings names offsets marks k b there own before i low = elim (cases_eq (get_or offsets i 0) (get_or offsets k 0)) [
  | inl e ↦
      subst (λ (off : ℕ). IsMarked strings names (set marks (get_or offsets k 0) b) off) (sym e)
      (subst (λ (v : Bool). (v ≡ true) ↔ Contains (map key_of names) (name_key strings (get_or offsets k 0))) (sym (get_or-set_same marks (get_or offsets k 0) b false there)) own)
  | inr other ↦
      subst (λ (v : Bool). (v ≡ true) ↔ Contains (map key_of names) (name_key strings (get_or offsets i 0))) (sym (get_or-set_other marks (get_or offsets k 0) (get_or offsets i 0) b false other))
      (before i (elim (cases_eq i k) [ inl last ↦ absurd (other (ap (λ (j : ℕ). get_or offsets j 0) last)) | inr differs ↦ omega (arith, low, differs) ]))
]

-- one name more
pub keys_more : (strings offsets : List ℕ) (i : ℕ) (names new : List (ℕ × Bor (List ℕ))) (x : ℕ × Bor (List ℕ)) → i < length offsets → new ≡ names ++ x ∷ [] → key_of x ≡ name_key strings (get_or offsets i 0)
    → map key_of names ≡ map (name_key strings) (take i offsets) → map key_of new ≡ map (name_key strings) (take (i + 1) offsets)
keys_more strings offsets i names new x lt pushed key before =
    let old = map (name_key strings) (take i offsets) in
    ap (map key_of) pushed ∙ map_push key_of names x ∙ ap (λ (ks : List (List ℕ)). ks ++ key_of x ∷ []) before ∙ ap (λ (k : List ℕ). old ++ k ∷ []) key
    ∙ sym (map_more (name_key strings) offsets i 0 lt)

pub as_many : (strings offsets : List ℕ) (names : List (ℕ × Bor (List ℕ))) → map key_of names ≡ map (name_key strings) offsets → length names ≡ length offsets
as_many strings offsets names keys = sym (length-map names key_of) ∙ ap length keys ∙ length-map offsets (name_key strings)

-- the key of a name at an index
pub key_at : (strings : List ℕ) (offsets : List ℕ) (names : List (ℕ × Bor (List ℕ))) (k : ℕ) (x : ℕ × Bor (List ℕ)) → map key_of names ≡ map (name_key strings) offsets → k < length names → x ≡ get_or names k x
    → key_of x ≡ name_key strings (get_or offsets k 0)
key_at strings offsets names k x keys lt is =
    let low : k < length offsets = omega (arith, lt, as_many strings offsets names keys) in
    ap key_of is ∙ sym (get_or-map key_of names k x [] lt) ∙ ap (λ (ks : List (List ℕ)). get_or ks k []) keys ∙ get_or-map (name_key strings) offsets k 0 [] low

-- what marks say of VAR
pub marks_told : (s : SectionWords) (strings : List ℕ) (names given : List (ℕ × Bor (List ℕ))) (marks : List Bool) (offsets read : List ℕ) → AreFuncNames s names
    → ((off : ℕ) → Contains offsets off ↔ Contains (names_of VAR s.frames) off) → strings ≡ s.strings → given ≡ names → read ≡ offsets → All (IsMarked strings given marks) read → AreMarks s marks
marks_told s strings names given marks offsets read funcs own of same whole all off has =
    let marked : All (IsMarked s.strings names marks) offsets = rw (of, same, whole) at all in
    let told = All-contains (IsMarked s.strings names marks) offsets off marked ((own off).1 has) in
    let named = funcs.all (string_at s.strings off) in
    same_answer _ _ (λ e. named.0 (told.0 e)) (λ e. told.1 (named.1 e))
  where
    same_answer : (a b : Bool) → (a ≡ true → b ≡ true) → (b ≡ true → a ≡ true) → a ≡ b
    same_answer true b f g = sym (f refl)
    same_answer false true f g = g refl
    same_answer false false f g = refl

-- there is no FUNC
pub marks_of_none : (s : SectionWords) (names : List (ℕ × Bor (List ℕ))) → AreFuncNames s names → length names ≡ 0 → AreMarks s []
marks_of_none s names funcs none off has =
    sym (false_from_ne_true (is_func_name s (string_at s.strings off)) (λ is.
    let it = (funcs.all (string_at s.strings off)).1 is in
    omega (arith, it.1, none, length-map names key_of)))

-- nor VAR
pub marks_of_no_var : (s : SectionWords) (offsets : List ℕ) → ((off : ℕ) → Contains offsets off ↔ Contains (names_of VAR s.frames) off) → length offsets ≡ 0 → AreMarks s []
marks_of_no_var s offsets own none off has = absurd (let it = (own off).1 has in omega (arith, it.1, none))

-- ---- offsets of names are inside

name_inside : (s : SectionWords) → IsTable s → (j : ℕ) → j < length s.frames → name_word (get_or s.frames j []) < length s.strings
name_inside s table j lt =
    let v = records_in s in
    let low : j < length v = omega (arith, lt, length-map s.frames (record_of s.strings)) in
    let r = get_or v j no_record in
    let f = get_or s.frames j [] in
    let encodes = zip_at (Encodes s.strings) v s.frames j no_record [] table.encoded low in
    subst (λ (off : ℕ). off < length s.strings) (sym (numbers s.strings (facts v) r f (table.valid.each j no_record low) encodes).name)
    (TextAt-inside s.strings encodes.name_offset (head_name r.head) encodes.name.text)

pub names_inside : (s : SectionWords) (offsets : List ℕ) (k : ℕ) → IsTable s → ((off : ℕ) → Contains offsets off ↔ Contains (names_of k s.frames) off)
    → All (λ off. off < length s.strings) offsets
names_inside s offsets k table own i d lt =
    let it = named_record k s.frames (get_or offsets i d) ((own (get_or offsets i d)).0 (Contains-get_or offsets i d lt)) in
    subst (λ (off : ℕ). off < length s.strings) it.name_is (name_inside s table it.index it.there)

pub strings_closed : (s : SectionWords) → IsTable s → is_closed s.strings ≡ true
strings_closed s table = closed_from_ends s.strings table.ends

pub some_strings : (strings : List ℕ) → is_closed strings ≡ true → 0 < length strings
some_strings strings closed =
    ltb-true 0 (length strings) (and_parts (nat_lt 0 (length strings)) (get_or strings 0 0 == 0 && get_or strings (length strings - 1) 0 == 0) closed).0

-- ---- a record by the marks

first_kept : (xs : List ℕ) → get_or (take_while (λ c. not (c == 0)) xs) 0 0 ≡ get_or xs 0 0
first_kept [] = refl
first_kept (c ∷ cs) = elim (cases_Bool (c == 0)) [
  | inl end ↦
      let front : take_while (λ c. not (c == 0)) (c ∷ cs) ≡ [] = take_while-cons (λ c. not (c == 0)) c cs ∙ rw end refl in
      ap (λ (l : List ℕ). get_or l 0 0) front ∙ sym (eqb-true c 0 end)
  | inr other ↦
      let front : take_while (λ c. not (c == 0)) (c ∷ cs) ≡ c ∷ take_while (λ c. not (c == 0)) cs = take_while-cons (λ c. not (c == 0)) c cs ∙ rw other refl in
      ap (λ (l : List ℕ). get_or l 0 0) front
]

first_of_string : (strings : List ℕ) (off : ℕ) → get_or strings off 0 ≡ get_or (string_at strings off) 0 0
first_of_string strings off =
    let at : off ≡ off + 0 = omega arith in
    ap (λ (n : ℕ). get_or strings n 0) at ∙ sym (get_or-drop off strings 0 0) ∙ sym (first_kept (drop off strings))

chosen : (x y z : Bool) → (x ≡ true → y ≡ z) → (x && y) ≡ (x && z)
chosen true y z same = same refl
chosen false y z same = refl

name_told : (s : SectionWords) (marks : List Bool) (k : ℕ) → AreMarks s marks → k < length s.frames → is_marked_taken s.strings marks (get_or s.frames k []) ≡ is_taken s (kind_in s k) (name_in s k)
name_told s marks k are lt =
    let f = get_or s.frames k [] in
    let off = name_word f in
    let dotted = one_of (VAR ∷ FWD ∷ TYPE_TAG ∷ []) (kind f) in
    let mark : (kind f == VAR && get_or marks off false) ≡ (kind f == VAR && is_func_name s (name_in s k)) =
    chosen (kind f == VAR) (get_or marks off false) (is_func_name s (name_in s k)) (λ var. are off (contains_name VAR s.frames k lt (eqb-true (kind f) VAR var))) in
    ap (λ (b : Bool). b || dotted && get_or s.strings off 0 == 0x2e) mark
    ∙ ap (λ (n : ℕ). kind f == VAR && is_func_name s (name_in s k) || dotted && n == 0x2e) (first_of_string s.strings off)

pub same_name_rules : (first : ℕ) (s : SectionWords) (marks : List Bool) (k : ℕ) (strings : List ℕ) (pos : ℕ) (f : List ℕ) (taken : Bool) → AreMarks s marks → k < length s.frames → strings ≡ s.strings
    → pos ≡ record_offset first s k → get_or s.frames k [] ≡ f → taken ≡ is_marked_taken strings marks f → name_rules first s k ≡ rule cause.TypesNameTaken pos (not taken) ∷ []
same_name_rules first s marks k strings pos f taken are lt of at is told =
    let same : is_taken s (kind_in s k) (name_in s k) ≡ taken =
    sym (name_told s marks k are lt) ∙ ap (λ (g : List ℕ). is_marked_taken s.strings marks g) is ∙ ap (λ (t : List ℕ). is_marked_taken t marks f) (sym of) ∙ sym told in
    ap (λ (n : ℕ). rule cause.TypesNameTaken n (not (is_taken s (kind_in s k) (name_in s k))) ∷ []) (sym at) ∙ ap (λ (b : Bool). rule cause.TypesNameTaken pos (not b) ∷ []) same
