-- More on lists that are made by a function of the index, and on the words of a list.
use Rattle.std.proofs.Common.{◌≡◌, ℕ, zero, suc, ◌+◌, ◌*◌, ◌<◌, ◌≤◌, Bool, true, false, List, [], ◌∷◌, ◌++◌, length, get_or, take, drop, refl, sym, ap, ◌∙◌, inl, inr, append-nil, drop-cons, arith}
use Rattle.std.specs.{List.All, List.AllZip, List.concat, List.list_any}
use Rattle.std.proofs.lemmas.{Bool.or_cases, List.Folds.concat-append, List.Folds.list_any-append}
use Rattle.std.proofs.lemmas.List.{length-drop, take_all, drop_all, drop-drop, Elements.All-nil, Elements.All-push}
use Rattle.std.proofs.Math.Seq.{take-add}
use Rattle.btf_types.specs.Reading.{tabulate}

pub All-tabulate : {X : Type 0} (P : X → Type 0) (f : ℕ → X) (n : ℕ) → ((k : ℕ) → k < n → P (f k)) → All P (tabulate f n)
All-tabulate P f zero each = All-nil P
All-tabulate P f (suc n) each = All-push P (tabulate f n) (f n) (All-tabulate P f n (λ k h. each k (omega arith))) (each n (omega arith))

AllZip-more : {A B : Type 0} (R : A → B → Type 0) (xs : List A) (ys : List B) (x : A) (y : B) → AllZip R xs ys → R x y → AllZip R (xs ++ x ∷ []) (ys ++ y ∷ [])
AllZip-more R [] [] x y all one = (one, tt)
AllZip-more R [] (b ∷ ys) x y all one = absurd all
AllZip-more R (a ∷ xs) [] x y all one = absurd all
AllZip-more R (a ∷ xs) (b ∷ ys) x y all one = (all.0, AllZip-more R xs ys x y all.1 one)

pub AllZip-tabulate : {A B : Type 0} (R : A → B → Type 0) (f : ℕ → A) (g : ℕ → B) (n : ℕ) → ((k : ℕ) → k < n → R (f k) (g k)) → AllZip R (tabulate f n) (tabulate g n)
AllZip-tabulate R f g zero each = tt
AllZip-tabulate R f g (suc n) each = AllZip-more R (tabulate f n) (tabulate g n) (f n) (g n) (AllZip-tabulate R f g n (λ k h. each k (omega arith))) (each n (omega arith))

pub any-tabulate : {X : Type 0} (p : X → Bool) (f : ℕ → X) (n : ℕ) → list_any p (tabulate f n) ≡ true → (k : ℕ) × (k < n) × (p (f k) ≡ true)
any-tabulate p f zero h = absurd cc
any-tabulate p f (suc n) h = elim (or_cases (list_any p (tabulate f n)) (list_any p (f n ∷ [])) (sym (list_any-append p (tabulate f n) (f n ∷ [])) ∙ h)) [
  | inl before ↦ let i = any-tabulate p f n before in (i.0, omega (arith, i.1), i.2)
  | inr last ↦ (n, omega arith, elim (or_cases (p (f n)) false last) [ inl t ↦ t | inr none ↦ absurd cc ])
]

-- the concatenation of pieces of the same length
pub pieces : (w n p : ℕ) (f : List ℕ) → concat (tabulate (λ i. take w (drop (p + w * i) f)) n) ≡ take (w * n) (drop p f)
pieces w zero p f = let none : w * zero ≡ 0 = omega arith in rw none refl
pieces w (suc n) p f =
    let piece : ℕ → List ℕ = λ i. take w (drop (p + w * i) f) in
    let more : w * suc n ≡ w * n + w = grind arith in
    concat-append (tabulate piece n) (piece n ∷ [])
    ∙ rw (pieces w n p f, append-nil, more) (sym (take-add (w * n) w (drop p f) ∙ ap (λ (t : List ℕ). take (w * n) (drop p f) ++ take w t) (drop-drop (w * n) p f)))

pub two_at : (f : List ℕ) (j : ℕ) → j + 2 ≤ length f → take 2 (drop j f) ≡ get_or f j 0 ∷ get_or f (j + 1) 0 ∷ []
two_at f j h =
    let one : drop j f ≡ get_or f j 0 ∷ drop (suc j) f = drop-cons f j 0 (omega arith) in
    let two : drop (suc j) f ≡ get_or f (suc j) 0 ∷ drop (suc (suc j)) f = drop-cons f (suc j) 0 (omega arith) in
    let next : j + 1 ≡ suc j = omega arith in
    rw (one, two, next) refl

pub three_at : (f : List ℕ) (j : ℕ) → j + 3 ≤ length f → take 3 (drop j f) ≡ get_or f j 0 ∷ get_or f (j + 1) 0 ∷ get_or f (j + 2) 0 ∷ []
three_at f j h =
    let one : drop j f ≡ get_or f j 0 ∷ drop (suc j) f = drop-cons f j 0 (omega arith) in
    let two : drop (suc j) f ≡ get_or f (suc j) 0 ∷ drop (suc (suc j)) f = drop-cons f (suc j) 0 (omega arith) in
    let three : drop (suc (suc j)) f ≡ get_or f (suc (suc j)) 0 ∷ drop (suc (suc (suc j))) f = drop-cons f (suc (suc j)) 0 (omega arith) in
    let next : j + 1 ≡ suc j = omega arith in
    let last : j + 2 ≡ suc (suc j) = omega arith in
    rw (one, two, three, next, last) refl

-- the first three fields, and what follows them
pub first_three : (f : List ℕ) → 2 < length f → f ≡ get_or f 0 0 ∷ get_or f 1 0 ∷ get_or f 2 0 ∷ drop 3 f
first_three [] h = absurd (omega arith)
first_three (a ∷ []) h = absurd (omega arith)
first_three (a ∷ b ∷ []) h = absurd (omega arith)
first_three (a ∷ b ∷ c ∷ f) h = refl

pub none_after : (f : List ℕ) → length f ≡ 3 → drop 3 f ≡ []
none_after f e = drop_all 3 f (omega arith)

pub one_after : (f : List ℕ) → length f ≡ 4 → drop 3 f ≡ get_or f 3 0 ∷ []
one_after f e =
    let one : drop 3 f ≡ get_or f 3 0 ∷ drop 4 f = drop-cons f 3 0 (omega arith) in
    let rest : drop 4 f ≡ [] = drop_all 4 f (omega arith) in
    one ∙ rw rest refl

pub three_after : (f : List ℕ) → length f ≡ 6 → drop 3 f ≡ get_or f 3 0 ∷ get_or f 4 0 ∷ get_or f 5 0 ∷ []
three_after f e = sym (take_all 3 (drop 3 f) (omega (arith, length-drop 3 f))) ∙ three_at f 3 (omega arith)
