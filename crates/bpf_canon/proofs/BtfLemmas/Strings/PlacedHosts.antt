-- Which hosts have offsets after a prefix of the names.
use Rattle.std.proofs.Common.{◌≡◌, ◌≢◌, ℕ, ◌≤◌, Bool, true, false, not, ◌⊎◌, inl, inr, List, [], ◌∷◌, ◌++◌, length, ap, ◌∙◌, arith, append_assoc}
use Rattle.std.specs.List.{filter, list_any}
use Rattle.std.proofs.lemmas.{Bool.cases_Bool, Bool.cond-true, List.append-nil}
use Rattle.std.proofs.lemmas.List.Elements.{filter-append, Contains-push_cases}
use Rattle.btf_types.specs.{Names.kept, Names.table_of, strings.SharedNames.is_proper_suffix}
use Rattle.btf_types.proofs.Members.{Has, Has-from_Contains, Contains-from_Has, Has-filter, Has-from_filter}
use Rattle.bpf_canon.proofs.BtfLemmas.Names.KeptSteps.{Has_cases, kept_empty, kept_known, kept_new, length-table_push}

-- no other of the names properly ends with x
abbrev pub is_own : List (List ℕ) → List ℕ → Bool
is_own xs x = not (list_any (is_proper_suffix x) (kept xs))

-- those hosts among the names xs that some of the names, ys, use
abbrev pub host_offsets : List (List ℕ) → List (List ℕ) → List (List ℕ)
host_offsets xs ys = filter (is_own xs) (kept ys)

kept_cases : (ys : List (List ℕ)) (x : List ℕ) → (kept (ys ++ x ∷ []) ≡ kept ys) ⊎ ((kept (ys ++ x ∷ []) ≡ kept ys ++ x ∷ []) × (x ≢ []))
kept_cases ys [] = inl (kept_empty ys)
kept_cases ys (b ∷ x) = grind (arith, kept_known, kept_new, (Has_cases (kept ys) (b ∷ x)))

one_own : (xs ys : List (List ℕ)) (x : List ℕ) → is_own xs x ≡ true → filter (is_own xs) (kept ys ++ x ∷ []) ≡ host_offsets xs ys ++ x ∷ []
one_own xs ys x t = filter-append (is_own xs) (kept ys) (x ∷ []) ∙ ap (λ (l : List (List ℕ)). host_offsets xs ys ++ l) (cond-true (is_own xs x) (x ∷ []) [] t)

one_other : (xs ys : List (List ℕ)) (x : List ℕ) → is_own xs x ≡ false → filter (is_own xs) (kept ys ++ x ∷ []) ≡ host_offsets xs ys
one_other xs ys x f = grind (arith, filter-append, append-nil)

pub laid_empty : (xs ys : List (List ℕ)) (x : List ℕ) → x ≡ [] → host_offsets xs (ys ++ x ∷ []) ≡ host_offsets xs ys
laid_empty xs ys x e = ap (λ (t : List ℕ). host_offsets xs (ys ++ t ∷ [])) e ∙ ap (filter (is_own xs)) (kept_empty ys)

pub laid_other : (xs ys : List (List ℕ)) (x : List ℕ) → is_own xs x ≡ false → host_offsets xs (ys ++ x ∷ []) ≡ host_offsets xs ys
laid_other xs ys x f = grind (arith, one_other, (kept_cases ys x))

pub laid_known : (xs ys : List (List ℕ)) (x : List ℕ) → Has (host_offsets xs ys) x → host_offsets xs (ys ++ x ∷ []) ≡ host_offsets xs ys
laid_known xs ys x h = ap (filter (is_own xs)) (kept_known ys x (Has-from_filter (is_own xs) (kept ys) x h).0)

pub laid_new : (xs ys : List (List ℕ)) (x : List ℕ) → x ≢ [] → is_own xs x ≡ true → ¬ Has (host_offsets xs ys) x → host_offsets xs (ys ++ x ∷ []) ≡ host_offsets xs ys ++ x ∷ []
laid_new xs ys x some t n = grind (arith, kept_new, Has-filter, one_own)

laid_step : (xs ys : List (List ℕ)) (x : List ℕ) → length (table_of (host_offsets xs ys)) ≤ length (table_of (host_offsets xs (ys ++ x ∷ [])))
laid_step xs ys x = grind (arith, one_own, length-table_push, one_other, (kept_cases ys x), (cases_Bool (is_own xs x)))

pub laid_fits : (xs ys more : List (List ℕ)) → length (table_of (host_offsets xs ys)) ≤ length (table_of (host_offsets xs (ys ++ more)))
laid_fits xs ys [] = let same = ap (λ (l : List (List ℕ)). length (table_of (host_offsets xs l))) (append-nil ys) in omega (arith, same)
laid_fits xs ys (x ∷ more) = grind (arith, append_assoc, laid_step, (laid_fits xs (ys ++ x ∷ []) more))

-- members of a list that got one more
pub has_push : (xs : List (List ℕ)) (y x : List ℕ) → Has (xs ++ y ∷ []) x → Has xs x ⊎ (y ≡ x)
has_push xs y x h = elim (Contains-push_cases xs y x (Contains-from_Has (xs ++ y ∷ []) x h)) [ inl c ↦ inl (Has-from_Contains xs x c) | inr e ↦ inr e ]
