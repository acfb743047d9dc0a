-- What one more offset does to the noted offsets, and to the names that are kept of them.
use Rattle.std.proofs.Common.{◌≡◌, ◌≢◌, ℕ, ◌<◌, ◌⊎◌, true, inl, inr, List, [], ◌∷◌, ◌++◌, length, map, get_or, set, refl, sym, ap, ◌∙◌, subst, arith, append_assoc}
use Rattle.std.specs.{Prelude.nat_eq, List.list_any, List.Contains}
use Rattle.std.proofs.lemmas.Bool.{cases_eq, cases_Bool, cond-true, cond-false, false_from_ne_true, eq-eqb}
use Rattle.std.proofs.lemmas.List.{map-append, length-map, get_or-map, get_or-set_same, get_or-set_other, append-nil}
use Rattle.std.proofs.lemmas.List.Folds.{list_any_at, Any-from_list_any}
use Rattle.std.proofs.lemmas.List.Elements.{Contains-append_left, Contains-push, Contains-push_cases}
use Rattle.btf_types.specs.Names.{kept}
use Rattle.btf_types.proofs.{Members.Has, Members.Has-from_Contains, StringLemmas.Texts.Has-kept}
use Rattle.bpf_canon.specs.btf.strings.FirstUses.{noted, noted_all, AreMarked}
use Rattle.bpf_canon.proofs.BtfLemmas.Names.KeptSteps.{Has_cases, kept_empty, kept_known, kept_new}

test_from_Contains : (offs : List ℕ) (off : ℕ) → Contains offs off → list_any (nat_eq off) offs ≡ true
test_from_Contains offs off (k, inside, is) = list_any_at (nat_eq off) offs k off inside (eq-eqb off (get_or offs k off) (sym is))

Contains_from_test : (offs : List ℕ) (off : ℕ) → list_any (nat_eq off) offs ≡ true → Contains offs off
Contains_from_test offs off t = grind (arith, Any-from_list_any)

cases_Contains : (offs : List ℕ) (off : ℕ) → Contains offs off ⊎ (¬ Contains offs off)
cases_Contains offs off = grind (arith, Contains_from_test, test_from_Contains, (cases_Bool (list_any (nat_eq off) offs)))

pub noted_known : (offs : List ℕ) (off : ℕ) → Contains offs off → noted offs off ≡ offs
noted_known offs off c = cond-true (list_any (nat_eq off) offs) offs (offs ++ off ∷ []) (test_from_Contains offs off c)

pub noted_new : (offs : List ℕ) (off : ℕ) → ¬ Contains offs off → noted offs off ≡ offs ++ off ∷ []
noted_new offs off n = cond-false (list_any (nat_eq off) offs) offs (offs ++ off ∷ []) (false_from_ne_true (list_any (nat_eq off) offs) (λ t. n (Contains_from_test offs off t)))

-- the marks of what is noted
pub marked_more : (offs marks : List ℕ) (o : ℕ) → AreMarked offs marks → o < length marks → AreMarked (offs ++ o ∷ []) (set marks o 1)
marked_more offs marks o are inside =
    let here : get_or (set marks o 1) o 0 ≡ 1 = get_or-set_same marks o 1 0 inside in
    let there = λ (off : ℕ) (n : off ≢ o). get_or-set_other marks o off 1 0 n in
    record {
      marked = λ off c. elim (cases_eq off o) [
        | inl e ↦ λ z. omega (arith, here, z, ap (λ (n : ℕ). get_or (set marks o 1) n 0) e)
        | inr n ↦ elim (Contains-push_cases offs o off c) [
          | inl h ↦ λ z. are.marked off h (sym (there off n) ∙ z)
          | inr e ↦ absurd (n (sym e))
        ]
      ];
      only = λ off s. elim (cases_eq off o) [
        | inl e ↦ subst (Contains (offs ++ o ∷ [])) (sym e) (Contains-push offs o)
        | inr n ↦ Contains-append_left offs (o ∷ []) off (are.only off (λ z. s (there off n ∙ z)))
      ];
    }

-- what is kept of the names
known_push : (xs : List (List ℕ)) (x : List ℕ) → Has xs x → kept (xs ++ x ∷ []) ≡ kept xs
known_push xs [] h = kept_empty xs
known_push xs (b ∷ x) h = kept_known xs (b ∷ x) (Has-kept xs b x h)

pub same_push : (xs ys : List (List ℕ)) (x : List ℕ) → kept xs ≡ kept ys → kept (xs ++ x ∷ []) ≡ kept (ys ++ x ∷ [])
same_push xs ys [] e = kept_empty xs ∙ e ∙ sym (kept_empty ys)
same_push xs ys (b ∷ x) e = grind (arith, kept_known, kept_new, (Has_cases (kept xs) (b ∷ x)))

in_map : (text : ℕ → List ℕ) (xs : List ℕ) (x : ℕ) → Contains xs x → Contains (map text xs) (text x)
in_map text xs x (k, inside, is) = (k, omega (arith, inside, length-map xs text), get_or-map text xs k x (text x) inside ∙ ap text is)

kept_noted : (text : ℕ → List ℕ) (offs xs : List ℕ) (off : ℕ) → kept (map text offs) ≡ kept (map text xs) → kept (map text (noted offs off)) ≡ kept (map text (xs ++ off ∷ []))
kept_noted text offs xs off e =
    let after : kept (map text (offs ++ off ∷ [])) ≡ kept (map text (xs ++ off ∷ [])) = grind (arith, map-append, same_push) in
    elim (cases_Contains offs off) [
      | inl c ↦ grind (arith, map-append, known_push, Has-from_Contains, in_map)
      | inr n ↦ ap (λ (l : List ℕ). kept (map text l)) (noted_new offs off n) ∙ after
    ]

kept_all : (text : ℕ → List ℕ) (offs xs more : List ℕ) → kept (map text offs) ≡ kept (map text xs) → kept (map text (noted_all offs more)) ≡ kept (map text (xs ++ more))
kept_all text offs xs [] e = e ∙ ap (λ (l : List ℕ). kept (map text l)) (sym (append-nil xs))
kept_all text offs xs (o ∷ more) e = grind (arith, append_assoc, (kept_all text (noted offs o) (xs ++ o ∷ []) more (kept_noted text offs xs o e)))

-- The names kept of all offsets are the names kept of the noted ones, whatever their strings are.
pub kept_first_uses : (text : ℕ → List ℕ) (uses : List ℕ) → kept (map text (noted_all [] uses)) ≡ kept (map text uses)
kept_first_uses text uses = kept_all text [] [] uses refl

pub noted_all-append : (offs xs ys : List ℕ) → noted_all offs (xs ++ ys) ≡ noted_all (noted_all offs xs) ys
noted_all-append offs [] ys = refl
noted_all-append offs (x ∷ xs) ys = noted_all-append (noted offs x) xs ys

-- what is noted stays noted, and what was to be noted is
pub noted_stays : (offs : List ℕ) (o x : ℕ) → Contains offs x → Contains (noted offs o) x
noted_stays offs o x c = elim (cases_Contains offs o) [
  | inl k ↦ subst (λ (l : List ℕ). Contains l x) (sym (noted_known offs o k)) c
  | inr n ↦ subst (λ (l : List ℕ). Contains l x) (sym (noted_new offs o n)) (Contains-append_left offs (o ∷ []) x c)
]

pub noted_there : (offs : List ℕ) (o : ℕ) → Contains (noted offs o) o
noted_there offs o = elim (cases_Contains offs o) [
  | inl k ↦ subst (λ (l : List ℕ). Contains l o) (sym (noted_known offs o k)) k
  | inr n ↦ subst (λ (l : List ℕ). Contains l o) (sym (noted_new offs o n)) (Contains-push offs o)
]

pub noted_all_stays : (offs xs : List ℕ) (x : ℕ) → Contains offs x → Contains (noted_all offs xs) x
noted_all_stays offs [] x c = c
noted_all_stays offs (o ∷ xs) x c = noted_all_stays (noted offs o) xs x (noted_stays offs o x c)

pub noted_all_there : (offs xs : List ℕ) (x : ℕ) → Has xs x → Contains (noted_all offs xs) x
noted_all_there offs [] x h = absurd h
noted_all_there offs (o ∷ xs) x h = elim h [
  | inl e ↦ noted_all_stays (noted offs o) xs x (subst (Contains (noted offs o)) e (noted_there offs o))
  | inr k ↦ noted_all_there (noted offs o) xs x k
]
