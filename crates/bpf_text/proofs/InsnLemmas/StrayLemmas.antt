-- The first stray byte of a line ends its code, or is in it.
use Rattle.std.proofs.Common.{◌≡◌, ℕ, ◌<◌, ◌≤◌, Bool, true, false, not, List, inl, inr, ◌⊎◌, length, get_or, take, sym, ap, ◌∙◌, arith}
use Rattle.std.specs.List.{list_any, list_all, position_or_len}
use Rattle.std.proofs.lemmas.Bool.{false≢true, not-true, cases_Bool, cases_lt, Decides.nat_tests}
use Rattle.std.proofs.lemmas.List.{get_or-take, length-take, Sums.fails_before_first, Sums.passes_at_first, Folds.list_any_at, Folds.list_any_none, Sums.AllPass-from_list_all}
use Rattle.bpf_text.specs.insn.Tokens.{is_comment_mark, is_stray, code_of}
use Rattle.bpf_text.proofs.InsnLemmas.TokenLemmas.{run_found, run_whole, run_passes}

-- the bytes that begin a comment are stray
pub mark_is_stray : (b : ℕ) → is_comment_mark b ≡ true → is_stray b ≡ true
mark_is_stray b h = grind (arith, nat_tests)

no_element : (p : ℕ → Bool) (xs : List ℕ) → list_all (λ b. not (p b)) xs ≡ true → list_any p xs ≡ false
no_element p xs h = list_any_none p xs (λ k d l. not-true (p (get_or xs k d)) (AllPass-from_list_all (λ b. not (p b)) xs h k d l))

-- nothing before the first stray byte is stray
pub none_before : (line : List ℕ) (end : ℕ) → end ≡ position_or_len is_stray line → list_any is_stray (take end line) ≡ false
none_before line end e = rw e (no_element is_stray (take (position_or_len is_stray line) line) (run_passes (λ b. not (is_stray b)) line))

no_mark : (line : List ℕ) (end k : ℕ) → end ≡ position_or_len is_stray line → k < end → is_comment_mark (get_or line k 0) ≡ false
no_mark line end k e l = elim (cases_Bool (is_comment_mark (get_or line k 0))) [
  | inl h ↦ absurd (false≢true (sym (fails_before_first is_stray line k 0 (omega (arith, e))) ∙ mark_is_stray (get_or line k 0) h))
  | inr h ↦ h
]

-- if the first stray byte is one of these, it begins the comment
pub mark_ends : (line : List ℕ) (end : ℕ) → end ≡ position_or_len is_stray line → end < length line → is_comment_mark (get_or line end 0) ≡ true → take end line ≡ code_of line
mark_ends line end e l h =
    ap (λ n. take n line) (run_found (λ b. not (is_comment_mark b)) line end l (λ k m. ap not (no_mark line end k e m)) (ap not h))

-- a line without stray bytes has no comment
pub whole_is_code : (line : List ℕ) (end : ℕ) → end ≡ position_or_len is_stray line → end ≡ length line → take end line ≡ code_of line
whole_is_code line end e l =
    ap (λ n. take n line) (l ∙ run_whole (λ b. not (is_comment_mark b)) line (λ k m. ap not (no_mark line end k e (omega (arith, l)))))

-- any other first stray byte is part of the code
pub stray_in_code : (line : List ℕ) (end : ℕ) → end ≡ position_or_len is_stray line → end < length line → is_comment_mark (get_or line end 0) ≡ false → list_any is_stray (code_of line) ≡ true
stray_in_code line end e l h = pick (cases_lt end place)
  where
    place : ℕ
    place = position_or_len is_comment_mark line

    stray : is_stray (get_or line end 0) ≡ true
    stray = rw (sym e) at (passes_at_first is_stray line 0 (omega (arith, e, l)))

    marked : place < length line → is_comment_mark (get_or line place 0) ≡ true
    marked i = passes_at_first is_comment_mark line 0 i

    pick : (end < place) ⊎ (place ≤ end) → list_any is_stray (code_of line) ≡ true
    pick (inl m) =
        list_any_at is_stray (take place line) end 0 (omega (arith, m, l, length-take place line)) (rw (get_or-take place line end 0 m) stray)
    pick (inr m) = elim (cases_lt place end) [
      | inl k ↦ absurd (false≢true (sym (no_mark line end place e k) ∙ marked (omega (arith, m, l))))
      | inr k ↦ absurd (false≢true (sym h ∙ ap (λ n. is_comment_mark (get_or line n 0)) (omega (arith, m, k)) ∙ marked (omega (arith, m, l))))
    ]
