-- Whether a name is reserved is told by its first 16 bytes.
use Rattle.std.proofs.Common.{◌≡◌, ℕ, zero, suc, ◌<◌, ◌≤◌, ◌==◌, ◌&&◌, ◌||◌, Bool, true, false, not, cond, List, [], ◌∷◌, length, take, drop, codes, inl, inr, refl, ap, sym, ◌∙◌, arith, lit<, lit≤}
use Rattle.std.specs.Prelude.{nat_eq, nat_lt, min, unwrap_or}
use Rattle.std.specs.{List.take_while, List.prefix_len, List.position, Str.bytes_eq}
use Rattle.std.proofs.lemmas.{Bool.cases_lt, Bool.Decides.nat_tests, List.drop-take, List.take_min, List.Sums.take_while-cons, List.Sums.prefix_len-le-length}
use Rattle.bpf_elf.specs.Kinds.{is_reserved, is_unrelocated, is_unread_table, is_strings_name, is_refused_name, begins}

take_twice : {X : Type 0} (k n : ℕ) (xs : List X) → k ≤ n → take k (take n xs) ≡ take k xs
take_twice zero n xs le = refl
take_twice (suc k) zero xs le = absurd (omega (arith, le))
take_twice (suc k) (suc n) [] le = refl
take_twice (suc k) (suc n) (x ∷ xs) le = ap (λ t. x ∷ t) (take_twice k n xs (omega (arith, le)))

-- a text shorter than n is equal to no more than n bytes
equal_start : (n : ℕ) (xs text : List ℕ) → length text < n → bytes_eq (take n xs) text ≡ bytes_eq xs text
equal_start zero xs text lt = absurd (omega (arith, lt))
equal_start (suc n) [] text lt = refl
equal_start (suc n) (x ∷ xs) [] lt = refl
equal_start (suc n) (x ∷ xs) (y ∷ text) lt = ap (λ b. nat_eq x y && b) (equal_start n xs text (omega (arith, lt)))

begins_start : (n : ℕ) (xs text : List ℕ) → length text ≤ n → begins (take n xs) text ≡ begins xs text
begins_start n xs text le = rw take_twice refl

or_same : (a b c d : Bool) → a ≡ b → c ≡ d → (a || c) ≡ (b || d)
or_same a b c d p q = rw (p, q) refl

unrelocated_start : (n : ℕ) (xs : List ℕ) → 8 < n → is_unrelocated (take n xs) ≡ is_unrelocated xs
unrelocated_start n xs le =
    or_same _ _ _ _ (or_same _ _ _ _ (begins_start n xs (codes ".debug_") (omega (arith, le))) (equal_start n xs (codes ".BTF") (omega (arith, le))))
    (equal_start n xs (codes ".BTF.ext") (omega (arith, le)))

unread_start : (xs : List ℕ) → is_unread_table (take 16 xs) ≡ is_unread_table xs
unread_start xs =
    let rest : is_unrelocated (drop 4 (take 16 xs)) ≡ is_unrelocated (drop 4 xs) =
    ap is_unrelocated (drop-take 4 12 xs) ∙ unrelocated_start 12 (drop 4 xs) (lit< tt) in
    let front : begins (take 16 xs) (codes ".rel") ≡ begins xs (codes ".rel") = begins_start 16 xs (codes ".rel") (lit≤ tt) in
    and_same _ _ _ _ front rest
  where
    and_same : (a b c d : Bool) → a ≡ b → c ≡ d → (a && c) ≡ (b && d)
    and_same a b c d p q = rw (p, q) refl

strings_start : (xs : List ℕ) → is_strings_name (take 16 xs) ≡ is_strings_name xs
strings_start xs = or_same _ _ _ _ (equal_start 16 xs (codes ".strtab") (lit< tt)) (equal_start 16 xs (codes ".shstrtab") (lit< tt))

refused_start : (xs : List ℕ) → is_refused_name (take 16 xs) ≡ is_refused_name xs
refused_start xs = or_same _ _ _ _ (equal_start 16 xs (codes ".llvm.lto") (lit< tt)) (equal_start 16 xs (codes ".BTF.base") (lit< tt))

reserved_start : (xs : List ℕ) → is_reserved (take 16 xs) ≡ is_reserved xs
reserved_start xs =
    or_same _ _ _ _
    (or_same _ _ _ _
    (or_same _ _ _ _ (or_same _ _ _ _ (or_same _ _ _ _ (unrelocated_start 16 xs (lit< tt)) (unread_start xs)) (strings_start xs))
    (equal_start 16 xs (codes ".symtab") (lit< tt)))
    (equal_start 16 xs (codes ".llvm_addrsig") (lit< tt)))
    (refused_start xs)

-- ---- the name in a part of the strings

next_taken : (b : Bool) (n x : ℕ) (ys zs : List ℕ) → ys ≡ take n zs → cond b (x ∷ ys) [] ≡ take (suc n) (cond b (x ∷ zs) [])
next_taken true n x ys zs same = ap (λ t. x ∷ t) same
next_taken false n x ys zs same = refl

take_while_take : (n : ℕ) (p : ℕ → Bool) (xs : List ℕ) → take_while p (take n xs) ≡ take n (take_while p xs)
take_while_take zero p xs = refl
take_while_take (suc n) p [] = refl
take_while_take (suc n) p (x ∷ xs) =
    take_while-cons p x (take n xs)
    ∙ next_taken (p x) n x (take_while p (take n xs)) (take_while p xs) (take_while_take n p xs)
    ∙ ap (λ t. take (suc n) t) (sym (take_while-cons p x xs))

-- the bytes before the first NUL
pub before_first_nul : (xs : List ℕ) → take (unwrap_or (position (λ c. c == 0) xs) (length xs)) xs ≡ take_while (λ c. not (c == 0)) xs
before_first_nul xs =
    let len = prefix_len (λ c. not (c == 0)) xs in
    let low = prefix_len-le-length (λ c. not (c == 0)) xs in
    elim (cases_lt len (length xs)) [
      | inl inside ↦ let there : nat_lt len (length xs) ≡ true = grind (arith, nat_tests) in rw there refl
      | inr past ↦
          let there : nat_lt len (length xs) ≡ false = grind (arith, nat_tests) in
          let same : length xs ≡ len = omega (arith, low, past) in
          rw there (ap (λ n. take n xs) same)
    ]

-- the start of a string tells whether it is a reserved name
pub told_by_start : (rest : List ℕ) → is_reserved (take_while (λ c. not (c == 0)) (take (min 16 (length rest)) rest)) ≡ is_reserved (take_while (λ c. not (c == 0)) rest)
told_by_start rest =
    ap (λ xs. is_reserved (take_while (λ c. not (c == 0)) xs)) (take_min 16 rest)
    ∙ ap is_reserved (take_while_take 16 (λ c. not (c == 0)) rest)
    ∙ reserved_start (take_while (λ c. not (c == 0)) rest)
