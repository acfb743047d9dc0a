-- The tokens of a line by the lengths of its runs.
use Rattle.std.proofs.Common.{◌≡◌, ℕ, ◌<◌, ◌≤◌, Bool, true, false, eqb, ◌||◌, List, [], ◌∷◌, ◌++◌, inl, inr, length, get_or, take, drop, refl, sym, ap, add-zero, ◌∙◌, arith}
use Rattle.std.specs.List.{All, list_any, list_all, prefix_len}
use Rattle.std.proofs.lemmas.List.{get_or-take, take-append-drop, length-append, length-drop, length-take, length-take-le, get_or-drop, take_all, append_assoc}
use Rattle.std.proofs.lemmas.List.Sums.{prefix_len_is, prefix_len_passes, prefix_len_stops, prefix_len-le-length, list_all-from_AllPass}
use Rattle.std.proofs.lemmas.{List.Folds.list_any_at, List.Folds.list_any-append, Bool.cases_Bool, Bool.not-false, Bool.or_parts, Bool.false≢true, Bool.Decides.nat_tests}
use Rattle.bpf_text.specs.insn.Tokens.{is_blank, is_word_byte, is_symbol, is_stray, BeginsWithWordByte, IsTokenBefore, StartsWithToken, AreTokens}

-- a run by index
pub run_found : (p : ℕ → Bool) (xs : List ℕ) (i : ℕ) → i < length xs → ((k : ℕ) → k < i → p (get_or xs k 0) ≡ true) → p (get_or xs i 0) ≡ false → i ≡ prefix_len p xs
run_found p xs i h below here = sym (prefix_len_is p xs i 0 (omega arith) below (λ _. here))

pub run_whole : (p : ℕ → Bool) (xs : List ℕ) → ((k : ℕ) → k < length xs → p (get_or xs k 0) ≡ true) → length xs ≡ prefix_len p xs
run_whole p xs below = sym (prefix_len_is p xs (length xs) 0 (omega arith) below (λ h. absurd (omega arith)))

pub length_of_run : (p : ℕ → Bool) (xs : List ℕ) → length (take (prefix_len p xs) xs) ≡ prefix_len p xs
length_of_run p xs = length-take-le (prefix_len p xs) xs (prefix_len-le-length p xs)

-- each element of the run passes
pub run_passes : (p : ℕ → Bool) (xs : List ℕ) → list_all p (take (prefix_len p xs) xs) ≡ true
run_passes p xs =
    list_all-from_AllPass p (take (prefix_len p xs) xs)
    (λ k d h. let l : k < prefix_len p xs = omega (arith, length-take (prefix_len p xs) xs) in
    rw (get_or-take (prefix_len p xs) xs k d l) (prefix_len_passes p xs k d l))

-- no element passes a test that a list fails
pub none_passes : {X : Type 0} (p : X → Bool) (xs : List X) → list_any p xs ≡ false → All (λ x. p x ≡ false) xs
none_passes p xs none k d h = elim (cases_Bool (p (get_or xs k d))) [
  | inl e ↦ absurd (false≢true (sym none ∙ list_any_at p xs k d h e))
  | inr e ↦ e
]

not_begins : (xs : List ℕ) → (0 < length xs → is_word_byte (get_or xs 0 0) ≡ false) → ¬ BeginsWithWordByte xs
not_begins [] h = λ w. w
not_begins (b ∷ xs) h = λ w. false≢true (sym (h (omega arith)) ∙ w)

one_cell : (xs : List ℕ) → 0 < length xs → take 1 xs ≡ get_or xs 0 0 ∷ []
one_cell [] h = absurd (omega arith)
one_cell (x ∷ xs) h = refl

-- nothing follows the blanks
pub all_blank : (bytes rest : List ℕ) (n : ℕ) → n ≡ prefix_len is_blank bytes → rest ≡ drop n bytes → length rest ≡ 0 → list_all is_blank bytes ≡ true
all_blank bytes rest n e f h =
    let all : take (prefix_len is_blank bytes) bytes ≡ bytes = take_all (prefix_len is_blank bytes) bytes (omega (arith, length-drop n bytes, ap length f)) in
    rw all at (run_passes is_blank bytes)

joined : (bytes rest token after : List ℕ) (n len : ℕ) → rest ≡ drop n bytes → token ≡ take len rest → after ≡ drop len rest → bytes ≡ take n bytes ++ token ++ after
joined bytes rest token after n len e f g =
    let te : token ++ after ≡ drop n bytes = rw (f, g) (take-append-drop len rest ∙ e) in
    sym (append_assoc (take n bytes) token after ∙ ap (λ x. take n bytes ++ x) te ∙ take-append-drop n bytes)

blanks_before : (bytes : List ℕ) (n : ℕ) → n ≡ prefix_len is_blank bytes → list_all is_blank (take n bytes) ≡ true
blanks_before bytes n e = rw e (run_passes is_blank bytes)

-- a run of letters, digits and _ follows the blanks
pub word_starts : (bytes rest token after : List ℕ) (n run len : ℕ) → n ≡ prefix_len is_blank bytes → rest ≡ drop n bytes
    → run ≡ prefix_len is_word_byte rest → 0 < run → len ≡ run → token ≡ take len rest → after ≡ drop len rest → StartsWithToken bytes token after
word_starts bytes rest token after n run len e f r h l t a =
    let same : len ≡ prefix_len is_word_byte rest = l ∙ r in
    let fits : prefix_len is_word_byte rest ≤ length rest = prefix_len-le-length is_word_byte rest in
    let some : length token ≡ len = ap length t ∙ length-take-le len rest (omega arith) in
    let all : list_all is_word_byte token ≡ true = rw (t, same) (run_passes is_word_byte rest) in
    let ends : ¬ BeginsWithWordByte after = rw (a, same) (not_begins (drop (prefix_len is_word_byte rest) rest)
    (λ h. rw (get_or-drop (prefix_len is_word_byte rest) rest 0 0, add-zero) (prefix_len_stops is_word_byte rest 0 (omega (arith, length-drop (prefix_len is_word_byte rest) rest))))) in
    record {
      blanks = take n bytes;
      whole = joined bytes rest token after n len f t a;
      blank = blanks_before bytes n e;
      longest = inl ((λ z. absurd (omega (arith, ap length z))), all, ends);
    }

-- a symbol follows the blanks
pub symbol_starts : (bytes rest token after : List ℕ) (n run len : ℕ) → list_any is_stray bytes ≡ false → n ≡ prefix_len is_blank bytes → rest ≡ drop n bytes
    → 0 < length rest → run ≡ prefix_len is_word_byte rest → run ≡ 0 → len ≡ 1 → token ≡ take len rest → after ≡ drop len rest → StartsWithToken bytes token after
symbol_starts bytes rest token after n run len none e f h r z l t a =
    let b : ℕ = get_or rest 0 0 in
    let inside : n < length bytes = omega (arith, ap length f, length-drop n bytes) in
    let at_n : get_or rest 0 0 ≡ get_or bytes n 0 = ap (λ x. get_or x 0 0) f ∙ get_or-drop n bytes 0 0 ∙ ap (λ i. get_or bytes i 0) (omega arith) in
    let not_stray : is_stray (get_or rest 0 0) ≡ false = rw at_n (none_passes is_stray bytes none n 0 inside) in
    let not_blank : is_blank (get_or rest 0 0) ≡ false =
    rw (at_n, e) (prefix_len_stops is_blank bytes 0 (omega arith)) in
    let run_none : prefix_len is_word_byte rest ≡ 0 = sym r ∙ z in
    let stops : is_word_byte (get_or rest (prefix_len is_word_byte rest) 0) ≡ false = prefix_len_stops is_word_byte rest 0 (omega arith) in
    let not_mnemonic : is_word_byte (get_or rest 0 0) ≡ false = rw run_none at stops in
    let symbol : is_symbol (get_or rest 0 0) ≡ true = rw (not_blank, not_mnemonic) at (not-false (is_blank (get_or rest 0 0) || is_word_byte (get_or rest 0 0) || is_symbol (get_or rest 0 0)) not_stray) in
    record {
      blanks = take n bytes;
      whole = joined bytes rest token after n len f t a;
      blank = blanks_before bytes n e;
      longest = inr (get_or rest 0 0, rw (t, l) (one_cell rest h), symbol);
    }

pub empty_from_test : (xs : List ℕ) (b : Bool) → b ≡ eqb (length xs) 0 → b ≡ true → length xs ≡ 0
empty_from_test xs b e t = grind (arith, nat_tests)

pub some_from_test : (xs : List ℕ) (b : Bool) → b ≡ eqb (length xs) 0 → b ≡ false → 0 < length xs
some_from_test xs b e t = grind (arith, nat_tests)

-- what follows a token has no stray byte either, and is shorter
pub none_stray_following : (bytes token rest : List ℕ) → StartsWithToken bytes token rest → list_any is_stray bytes ≡ false → list_any is_stray rest ≡ false
none_stray_following bytes token rest s none =
    (or_parts (list_any is_stray (s.blanks ++ token)) (list_any is_stray rest)
    (sym (list_any-append is_stray (s.blanks ++ token) rest) ∙ ap (list_any is_stray) (sym s.whole) ∙ none)).1

token_has_bytes : (token rest : List ℕ) → IsTokenBefore token rest → 0 < length token
token_has_bytes [] rest (inl w) = absurd (w.0 refl)
token_has_bytes [] rest (inr w) = cc
token_has_bytes (b ∷ token) rest w = omega arith

pub shorter_following : (bytes token rest : List ℕ) → StartsWithToken bytes token rest → length rest < length bytes
shorter_following bytes token rest s =
    omega (arith, token_has_bytes token rest s.longest, ap length s.whole, length-append (s.blanks ++ token) rest, length-append s.blanks token)

-- one more token at the end of those so far
pub token_more : (code rest token after : List ℕ) (tokens : List (List ℕ)) → StartsWithToken rest token after
    → ((more : List (List ℕ)) → AreTokens rest more → AreTokens code (tokens ++ more))
    → (more : List (List ℕ)) → AreTokens after more → AreTokens code ((tokens ++ token ∷ []) ++ more)
token_more code rest token after tokens s so_far more h =
    rw (append_assoc tokens (token ∷ []) more) (so_far (token ∷ more) (after, s, h))
