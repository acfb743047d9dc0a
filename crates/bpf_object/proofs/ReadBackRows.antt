-- Tables of rows of one size: each row is where its number says.
use Rattle.std.proofs.Common.{◌≡◌, ℕ, zero, suc, ◌+◌, ◌*◌, ◌<◌, ◌==◌, true, List, [], ◌∷◌, ◌++◌, length, get_or, append-nil, append_assoc, inl, inr, refl, sym, ap, subst, ◌∙◌, length-append, arith}
use Rattle.std.specs.List.{flat_map, list_all}
use Rattle.std.proofs.lemmas.Bool.{cases_lt}
use Rattle.bpf_elf.specs.Sections.{is_zero_at}
use Rattle.bpf_object.proofs.ReadBackWords.{HasBytes, has_at, has_all, has_first, has_rest, has_within, has_part}

-- the first n rows of a table
abbrev pub rows : (ℕ → List ℕ) → ℕ → List ℕ
rows row zero = []
rows row (suc n) = rows row n ++ row n

pub length-rows : (row : ℕ → List ℕ) (size n : ℕ) → ((k : ℕ) → length (row k) ≡ size) → length (rows row n) ≡ size * n
length-rows row size zero each = omega arith
length-rows row size (suc n) each =
    let before = length-rows row size n each in
    let last = each n in
    omega (arith, length-append (rows row n) (row n))

pub row_within : (row : ℕ → List ℕ) (size n k : ℕ) → ((i : ℕ) → length (row i) ≡ size) → k < n → HasBytes (rows row n) (size * k) (row k)
row_within row size zero k each lt = absurd (omega (arith, lt))
row_within row size (suc n) k each lt =
    elim (cases_lt k n) [
      | inl below ↦
          has_at (rows row (suc n)) (0 + size * k) (size * k) (row k)
          (has_within (rows row (suc n)) 0 (size * k) (rows row n) (row k)
          (has_first (rows row (suc n)) 0 (rows row n) (row n) (has_all (rows row (suc n)))) (row_within row size n k each below)) (omega arith)
      | inr from ↦
          let same : n ≡ k = omega (arith, lt, from) in
          let here : HasBytes (rows row (suc n)) (size * n) (row n) =
          has_at (rows row (suc n)) (0 + size * n) (size * n) (row n)
          (has_rest (rows row (suc n)) 0 (size * n) (rows row n) (row n) (has_all (rows row (suc n))) (length-rows row size n each)) (omega arith) in
          subst (λ (m : ℕ). HasBytes (rows row (suc n)) (size * m) (row m)) same here
    ]

-- a row of a table in a file
pub row_here : (b : List ℕ) (place : ℕ) (row : ℕ → List ℕ) (size n k : ℕ) → ((i : ℕ) → length (row i) ≡ size) → k < n → HasBytes b place (rows row n)
    → HasBytes b (place + size * k) (row k)
row_here b place row size n k each lt h = has_within b place (size * k) (rows row n) (row k) h (row_within row size n k each lt)

-- bytes that are zero
pub zeros_at : (b : List ℕ) (place : ℕ) (zeros : List ℕ) → list_all (λ c. c == 0) zeros ≡ true → HasBytes b place zeros → is_zero_at b place (length zeros) ≡ true
zeros_at b place zeros all h = ap (λ (xs : List ℕ). list_all (λ c. c == 0) xs) (has_part b place zeros h) ∙ all

-- ---- the rows of a list

rows_first : (row : ℕ → List ℕ) (n : ℕ) → rows row (suc n) ≡ row 0 ++ rows (λ k. row (suc k)) n
rows_first row zero = sym (append-nil (row 0))
rows_first row (suc n) = ap (λ (t : List ℕ). t ++ row (suc n)) (rows_first row n) ∙ append_assoc (row 0) (rows (λ k. row (suc k)) n) (row (suc n))

-- they are in the order of the list
pub flat_map_rows : {X : Type 0} (row : X → List ℕ) (xs : List X) (d : X) → flat_map row xs ≡ rows (λ k. row (get_or xs k d)) (length xs)
flat_map_rows row [] d = refl
flat_map_rows row (x ∷ xs) d = ap (λ (t : List ℕ). row x ++ t) (flat_map_rows row xs d) ∙ sym (rows_first (λ k. row (get_or (x ∷ xs) k d)) (length xs))
