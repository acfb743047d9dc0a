-- Bytes without stray bytes can be split into tokens.
use Rattle.std.proofs.Common.{◌≡◌, ℕ, zero, suc, ◌+◌, ◌<◌, ◌≤◌, false, List, [], ◌∷◌, ◌++◌, ◌⊎◌, inl, inr, length, take, drop, refl, sym, ap, ◌∙◌, subst, arith, append_assoc}
use Rattle.std.specs.List.{list_any, prefix_len}
use Rattle.std.proofs.lemmas.{Bool.cases_lt, List.length-append}
use Rattle.bpf_text.specs.insn.Tokens.{is_blank, is_word_byte, is_stray, StartsWithToken, AreTokens}
use Rattle.bpf_text.proofs.InsnLemmas.TokenLemmas.{all_blank, word_starts, symbol_starts, none_stray_following, shorter_following}
use Rattle.bpf_text.proofs.InsnLemmas.OneReading.{one_start, none_or_some}

-- the first of the tokens is the token that the bytes start with
pub next_only : (bytes token rest : List ℕ) (ts : List (List ℕ)) → StartsWithToken bytes token rest → AreTokens bytes ts → (more : List (List ℕ)) × (ts ≡ token ∷ more) × AreTokens rest more
next_only bytes token rest [] s h = absurd (none_or_some bytes token rest h s)
next_only bytes token rest (u ∷ us) s h =
    let same = one_start bytes token rest u h.0 s h.1 in
    (us, ap (λ x. x ∷ us) (sym same.0), subst (λ r. AreTokens r us) (sym same.1) h.2)

-- one more token of the bytes
pub only_more : (rest token after : List ℕ) (tokens ts more : List (List ℕ)) → StartsWithToken rest token after → ts ≡ tokens ++ more → AreTokens rest more
    → (following : List (List ℕ)) × (ts ≡ (tokens ++ token ∷ []) ++ following) × AreTokens after following
only_more rest token after tokens ts more s e h =
    let w = next_only rest token after more s h in
    (w.0, e ∙ ap (λ x. tokens ++ x) w.1 ∙ sym (append_assoc tokens (token ∷ []) w.0), w.2)

-- a token after a full list is one too many
pub one_too_many : (rest token after : List ℕ) (tokens ts more : List (List ℕ)) (n : ℕ) → StartsWithToken rest token after → ts ≡ tokens ++ more → AreTokens rest more → length tokens ≡ n → n < length ts
one_too_many rest token after tokens ts more n s e h full =
    let w = next_only rest token after more s h in
    omega (arith, full, ap length e, length-append tokens more, ap length w.1)

-- the bytes start with a token, or are all blank
starts_or_blank : (bytes : List ℕ) → list_any is_stray bytes ≡ false → AreTokens bytes [] ⊎ ((token : List ℕ) × (rest : List ℕ) × StartsWithToken bytes token rest)
starts_or_blank bytes none = by_rest (cases_lt 0 (length (drop (prefix_len is_blank bytes) bytes)))
  where
    by_run : 0 < length (drop (prefix_len is_blank bytes) bytes)
        → (0 < prefix_len is_word_byte (drop (prefix_len is_blank bytes) bytes)) ⊎ (prefix_len is_word_byte (drop (prefix_len is_blank bytes) bytes) ≤ 0)
        → (token : List ℕ) × (following : List ℕ) × StartsWithToken bytes token following
    by_run some (inl l) =
        let r = drop (prefix_len is_blank bytes) bytes in
        let k = prefix_len is_word_byte r in
        (take k r, drop k r, word_starts bytes r (take k r) (drop k r) (prefix_len is_blank bytes) k k refl refl refl l refl refl refl)
    by_run some (inr l) =
        let r = drop (prefix_len is_blank bytes) bytes in
        let k = prefix_len is_word_byte r in
        (take 1 r, drop 1 r, symbol_starts bytes r (take 1 r) (drop 1 r) (prefix_len is_blank bytes) k 1 none refl refl some refl (omega arith) refl refl refl)

    by_rest : (0 < length (drop (prefix_len is_blank bytes) bytes)) ⊎ (length (drop (prefix_len is_blank bytes) bytes) ≤ 0)
        → AreTokens bytes [] ⊎ ((token : List ℕ) × (following : List ℕ) × StartsWithToken bytes token following)
    by_rest (inl l) = inr (by_run l (cases_lt 0 (prefix_len is_word_byte (drop (prefix_len is_blank bytes) bytes))))
    by_rest (inr l) = inl (all_blank bytes (drop (prefix_len is_blank bytes) bytes) (prefix_len is_blank bytes) refl refl (omega arith))

-- tokens, if all shorter bytes without stray ones can be split into tokens
from_shorter : (bytes : List ℕ) → list_any is_stray bytes ≡ false → ((more : List ℕ) → length more < length bytes → list_any is_stray more ≡ false → (ts : List (List ℕ)) × AreTokens more ts)
    → AreTokens bytes [] ⊎ ((token : List ℕ) × (rest : List ℕ) × StartsWithToken bytes token rest) → (ts : List (List ℕ)) × AreTokens bytes ts
from_shorter bytes none shorter (inl blank) = ([], blank)
from_shorter bytes none shorter (inr w) =
    let more = shorter w.1 (shorter_following bytes w.0 w.1 w.2) (none_stray_following bytes w.0 w.1 w.2 none) in
    (w.0 ∷ more.0, (w.1, w.2, more.1))

tokens_within : (n : ℕ) (bytes : List ℕ) → length bytes < n → list_any is_stray bytes ≡ false → (ts : List (List ℕ)) × AreTokens bytes ts
tokens_within zero bytes h none = absurd (omega arith)
tokens_within (suc n) bytes h none = from_shorter bytes none (λ more l e. tokens_within n more (omega arith) e) (starts_or_blank bytes none)

pub tokens_exist : (bytes : List ℕ) → list_any is_stray bytes ≡ false → (ts : List (List ℕ)) × AreTokens bytes ts
tokens_exist bytes none = tokens_within (length bytes + 1) bytes (omega arith) none
