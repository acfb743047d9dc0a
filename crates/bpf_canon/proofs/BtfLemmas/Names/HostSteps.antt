-- Kept names in an index set, and the table of the hosts.
use Rattle.std.proofs.Common.{◌≡◌, ◌≢◌, ℕ, ◌+◌, ◌<◌, ◌≤◌, Bool, true, false, not, ◌||◌, inl, inr, List, [], ◌∷◌, ◌++◌, length, get_or, take, drop, refl, sym, ap, ◌∙◌, subst, arith, Bor, Option, Some, is_some, IsSome, position, eqb}
use Rattle.std.proofs.lemmas.Grind.{common_steps}
use Rattle.std.specs.{List.filter, List.list_any, List.Contains, List.flat_map, Str.bytes_eq}
use Rattle.std.proofs.lemmas.Bool.{cond-true, eqb-false}
use Rattle.std.proofs.lemmas.List.{map-append, length-append, take-append-drop, Concat.flat_map-append, Quantifiers.position-Some}
use Rattle.std.proofs.lemmas.List.Elements.{filter-append}
use Rattle.indexmap.specs.IndexSet.{insert_key}
use Rattle.btf_types.specs.Names.{distinct, kept, with_nul, table_of}
use Rattle.btf_types.specs.strings.SharedNames.{is_proper_suffix, hosts_of, host_in}
use Rattle.bpf_canon.specs.btf.names.Interned.{borrowed_texts, AddsName}
use Rattle.btf_types.proofs.Members.{Has, Has-from_filter, Has-from_Contains}
use Rattle.btf_types.proofs.StringLemmas.{Texts.same_text, Texts.bytes_eq-same, Hosts.own_host_of, Hosts.host_differs}
use Rattle.btf_types.proofs.StringLemmas.Distinct.{NoRepeats, NoRepeats-kept}
use Rattle.bpf_canon.proofs.BtfLemmas.Names.KeptSteps.{Has_from_test, test_from_Has, Has_cases, kept_known, kept_new}
use Rattle.bpf_canon.proofs.BtfLemmas.Names.{OffsetSteps.text_eq, HostSearch.text_at, HostSearch.texts_length}

-- whether a set of borrowed strings contains a string
set_iff_any : (k : Bor (List ℕ)) (ks : List (Bor (List ℕ))) → list_any (text_eq k) ks ≡ list_any (bytes_eq k.now) (borrowed_texts ks)
set_iff_any k [] = refl
set_iff_any k (y ∷ ys) = ap (λ (b : Bool). bytes_eq k.now y.now || b) (set_iff_any k ys)

-- the index of a string among the strings
pub index_found : (ks : List (Bor (List ℕ))) (x : Bor (List ℕ)) (r : Option ℕ) → Contains (borrowed_texts ks) x.now → is_some r ≡ list_any (text_eq x) ks → IsSome r
index_found ks x r c is_in = is_in ∙ set_iff_any x ks ∙ test_from_Has (borrowed_texts ks) x.now (Has-from_Contains (borrowed_texts ks) x.now c)

pub index_text : (ks : List (Bor (List ℕ))) (x : Bor (List ℕ)) (i : ℕ) (d : List ℕ) → position (text_eq x) ks ≡ Some i → (i < length (borrowed_texts ks)) × (get_or (borrowed_texts ks) i d ≡ x.now)
index_text ks x i d found =
    let e : Bor (List ℕ) = record { ref_ptr = (0, 0); now = d } in
    let at = position-Some (text_eq x) ks i e found in
    (omega (arith, at.0, texts_length ks), text_at ks i e at.0 ∙ sym (same_text x.now ((get_or ks i e).now) at.1))

texts_push : (ks : List (Bor (List ℕ))) (k : Bor (List ℕ)) → borrowed_texts (ks ++ k ∷ []) ≡ borrowed_texts ks ++ k.now ∷ []
texts_push ks k = map-append (λ (n : Bor (List ℕ)). n.now) ks (k ∷ [])

-- the strings after an insert
pub set_known : (ks : List (Bor (List ℕ))) (k : Bor (List ℕ)) → Has (borrowed_texts ks) k.now → insert_key text_eq ks k ≡ ks
set_known ks k h = cond-true (list_any (text_eq k) ks) ks (ks ++ k ∷ []) (set_iff_any k ks ∙ test_from_Has (borrowed_texts ks) k.now h)

pub set_new : (ks : List (Bor (List ℕ))) (k : Bor (List ℕ)) → ¬ Has (borrowed_texts ks) k.now → borrowed_texts (insert_key text_eq ks k) ≡ borrowed_texts ks ++ k.now ∷ []
set_new ks k n = grind (arith, Has_from_test, set_iff_any, texts_push)

some_text : (x : List ℕ) → eqb (length x) 0 ≡ false → x ≢ []
some_text x f e = eqb-false (length x) 0 f (ap (λ (t : List ℕ). length t) e)

pub set_adds : (ks fs : List (Bor (List ℕ))) (k : Bor (List ℕ)) → eqb (length k.now) 0 ≡ false → fs ≡ insert_key text_eq ks k → AddsName (borrowed_texts ks) (borrowed_texts fs) k.now
set_adds ks fs k some f xs e = grind (arith, set_known, kept_known, set_new, kept_new, some_text, (Has_cases (borrowed_texts ks) k.now))

pub filter_all : (p : List ℕ → Bool) (xs : List (List ℕ)) → ((y : List ℕ) → Has xs y → p y ≡ true) → filter p xs ≡ xs
filter_all p [] h = refl
filter_all p (x ∷ xs) h = cond-true (p x) (x ∷ filter p xs) (filter p xs) (h x (inl refl)) ∙ ap (λ (l : List (List ℕ)). x ∷ l) (filter_all p xs (λ y i. h y (inr i)))

pub distinct_same : (xs : List (List ℕ)) → NoRepeats xs → distinct xs ≡ xs
distinct_same [] n = refl
distinct_same (x ∷ xs) (n, ns) = grind (arith, filter_all, same_text, (distinct_same xs ns))

pub kept_again : (xs : List (List ℕ)) → kept (kept xs) ≡ kept xs
kept_again xs = grind (arith, distinct_same, NoRepeats-kept, filter_all, Has-from_filter)

pub kept_apart : (ks : List (List ℕ)) → kept ks ≡ ks → NoRepeats ks
kept_apart ks own = subst NoRepeats own (NoRepeats-kept ks)

-- a name is its own host if and only if no other ends with it
pub own_host_test : (ks : List (List ℕ)) (x : List ℕ) → Has ks x → bytes_eq (host_in (hosts_of ks) x) x ≡ not (list_any (is_proper_suffix x) ks)
own_host_test ks x h = grind (arith, host_differs, same_text, own_host_of, bytes_eq-same)

abbrev pub keeps : List (List ℕ) → List ℕ → Bool
keeps ks x = not (list_any (is_proper_suffix x) ks)

-- the hosts among the first i names
abbrev pub hosts_among : List (List ℕ) → ℕ → List (List ℕ)
hosts_among ks i = filter (keeps ks) (take i ks)

pub hosts_among_more : (ks : List (List ℕ)) (i : ℕ) (d : List ℕ) → i < length ks → keeps ks (get_or ks i d) ≡ true → hosts_among ks (i + 1) ≡ hosts_among ks i ++ get_or ks i d ∷ []
hosts_among_more ks i d h t = grind (arith, common_steps)

pub hosts_among_same : (ks : List (List ℕ)) (i : ℕ) (d : List ℕ) → i < length ks → keeps ks (get_or ks i d) ≡ false → hosts_among ks (i + 1) ≡ hosts_among ks i
hosts_among_same ks i d h f = grind (arith, common_steps)

pub hosts_among_room : (ks : List (List ℕ)) (i : ℕ) → length (table_of (hosts_among ks i)) ≤ length (table_of (hosts_of ks))
hosts_among_room ks i =
    let rest = filter (keeps ks) (drop i ks) in
    let whole : hosts_of ks ≡ hosts_among ks i ++ rest = ap (filter (keeps ks)) (sym (take-append-drop i ks)) ∙ filter-append (keeps ks) (take i ks) (drop i ks) in
    let e = ap (λ (l : List (List ℕ)). length (flat_map with_nul l)) whole in
    omega (arith, e, ap (λ (l : List ℕ). length l) (flat_map-append with_nul (hosts_among ks i) rest), length-append (flat_map with_nul (hosts_among ks i)) (flat_map with_nul rest))
