-- The header of .BTF.ext, read back.
use Rattle.std.proofs.Common.{◌≡◌, ℕ, zero, suc, ◌+◌, ◌*◌, ◌^◌, ◌<◌, ◌≤◌, ◌==◌, ◌&&◌, true, List, [], ◌∷◌, ◌++◌, length, refl, sym, ap, subst, ◌∙◌, lit<, append_assoc, append-nil, length-append, arith}
use Rattle.std.specs.Prelude.{nat_lt, nat_le, slice_index}
use Rattle.std.proofs.lemmas.Bool.{and_from}
use Rattle.bpf_words.specs.{declared.Order.Order, declared.Order.TheVariants.Little, declared.Order.TheVariants.Big}
use Rattle.bpf_words.specs.Words.{word16, word16_at, word32_at}
use Rattle.bpf_words.proofs.WordLemmas.{word32_at-append}
use Rattle.bpf_elf.specs.{Header.FILE_LIMIT, Rules.AllHold}
use Rattle.btf_raw.specs.Frames.{bytes_of}
use Rattle.btf_raw.proofs.{Cuts.first_four, Cuts.length-first_four, Frames.IsWords, Frames.word32_at-bytes_of, Frames.length-bytes_of}
use Rattle.bpf_object.specs.Canonical.{extension_header, extension_of}
use Rattle.bpf_object.specs.Extension.{Section, word, header_len, head_rules}
use Rattle.bpf_object.proofs.{ReadBackTests.equal_test, ReadBackTests.less_test, ReadBackTests.most_test}
use Rattle.bpf_object.proofs.ReadBackWords.{HasBytes, word16_at-word16, has_all, has_first, has_rest}

-- the numbers of the header after its first four bytes
abbrev pub extension_words : ℕ → ℕ → ℕ → List ℕ
extension_words f l r = 32 ∷ 0 ∷ f ∷ f ∷ l ∷ (f + l) ∷ r ∷ []

header_regrouped : (o : Order) (f l r : ℕ) (rest : List ℕ) → extension_header o f l r ++ rest ≡ first_four o ++ (bytes_of o (extension_words f l r) ++ rest)
header_regrouped o f l r rest = simp (append_assoc, append-nil)

pub length-extension_header : (o : Order) (f l r : ℕ) → length (extension_header o f l r) ≡ 32
length-extension_header o f l r =
    ap length (sym (append-nil (extension_header o f l r)) ∙ header_regrouped o f l r [])
    ∙ rw (length-append (first_four o), length-first_four, length-append (bytes_of o (extension_words f l r)), length-bytes_of) (omega arith)

words_fit : (f l r : ℕ) → f + l < 2 ^ 32 → r < 2 ^ 32 → IsWords (extension_words f l r)
words_fit f l r low other zero = lit< tt
words_fit f l r low other (suc zero) = lit< tt
words_fit f l r low other (suc (suc zero)) = omega (arith, low)
words_fit f l r low other (suc (suc (suc zero))) = omega (arith, low)
words_fit f l r low other (suc (suc (suc (suc zero)))) = omega (arith, low)
words_fit f l r low other (suc (suc (suc (suc (suc zero))))) = low
words_fit f l r low other (suc (suc (suc (suc (suc (suc zero)))))) = other
words_fit f l r low other (suc (suc (suc (suc (suc (suc (suc i))))))) = lit< tt

first_bytes : (o : Order) (rest : List ℕ) → (slice_index (first_four o ++ rest) 2 ≡ 1) × (slice_index (first_four o ++ rest) 3 ≡ 0)
first_bytes Little rest = (refl, refl)
first_bytes Big rest = (refl, refl)

module _ (o : Order) (start : ℕ) (functions lines relocations strings : List ℕ) (short : length (extension_of o functions lines relocations) ≤ FILE_LIMIT) where
  abbrev b : List ℕ
  b = extension_of o functions lines relocations

  abbrev head : List ℕ
  head = extension_header o (length functions) (length lines) (length relocations)

  -- the section
  abbrev pub section : Section
  section = record { order = o; start = start; bytes = b; strings = strings }

  pub extension_length : length b ≡ 32 + length functions + length lines + length relocations
  extension_length =
      omega (
        arith,
        length-append head (functions ++ lines ++ relocations),
        length-append (functions ++ lines) relocations,
        length-append functions lines,
        length-extension_header o (length functions) (length lines) (length relocations),
      )

  regrouped : b ≡ first_four o ++ (bytes_of o (extension_words (length functions) (length lines) (length relocations)) ++ (functions ++ lines ++ relocations))
  regrouped = header_regrouped o (length functions) (length lines) (length relocations) (functions ++ lines ++ relocations)

  -- a number of the header
  word_is : (j : ℕ) → j < 7 → word section (4 + 4 * j) ≡ slice_index (extension_words (length functions) (length lines) (length relocations)) j
  word_is j lt =
      let ws = extension_words (length functions) (length lines) (length relocations) in
      let rest = functions ++ lines ++ relocations in
      let fit = words_fit (length functions) (length lines) (length relocations) (omega (arith, short, extension_length)) (omega (arith, short, extension_length)) in
      ap (λ (t : List ℕ). word32_at o t (4 + 4 * j)) regrouped
      ∙ subst (λ (k : ℕ). word32_at o (first_four o ++ (bytes_of o ws ++ rest)) (k + 4 * j) ≡ slice_index ws j) (length-first_four o)
      (word32_at-append o (first_four o) (bytes_of o ws ++ rest) (4 * j) ∙ word32_at-bytes_of o ws rest j fit lt)

  pub header_len_is : header_len section ≡ 32
  header_len_is = word_is 0 (lit< tt)

  pub functions_offset : word section 8 ≡ 0
  functions_offset = word_is 1 (lit< tt)

  pub functions_len : word section 12 ≡ length functions
  functions_len = word_is 2 (lit< tt)

  pub lines_offset : word section 16 ≡ length functions
  lines_offset = word_is 3 (lit< tt)

  pub lines_len : word section 20 ≡ length lines
  lines_len = word_is 4 (lit< tt)

  pub relocations_offset : word section 24 ≡ length functions + length lines
  relocations_offset = word_is 5 (lit< tt)

  pub relocations_len : word section 28 ≡ length relocations
  relocations_len = word_is 6 (lit< tt)

  -- ---- where the parts are

  parts_there : HasBytes b 32 (functions ++ lines ++ relocations)
  parts_there = has_rest b 0 32 head (functions ++ lines ++ relocations) (has_all b) (length-extension_header o (length functions) (length lines) (length relocations))

  pub functions_there : HasBytes b 32 functions
  functions_there = has_first b 32 functions lines (has_first b 32 (functions ++ lines) relocations parts_there)

  pub lines_there : HasBytes b (32 + length functions) lines
  lines_there = has_rest b 32 (length functions) functions lines (has_first b 32 (functions ++ lines) relocations parts_there) refl

  pub relocations_there : HasBytes b (32 + (length functions + length lines)) relocations
  relocations_there = has_rest b 32 (length functions + length lines) (functions ++ lines) relocations parts_there (length-append functions lines)

  -- ---- the rules

  pub head_kept : 0 < length functions + length lines + length relocations → AllHold (head_rules section)
  head_kept some =
      let rest = bytes_of o (extension_words (length functions) (length lines) (length relocations)) ++ (functions ++ lines ++ relocations) in
      let long : nat_le 32 (length b) ≡ true = most_test 32 (length b) (omega (arith, extension_length)) in
      let magic : (word16_at o b 0 == 0xeb9f) ≡ true =
      equal_test (word16_at o b 0) 0xeb9f
      (ap (λ (t : List ℕ). word16_at o t 0) (regrouped ∙ append_assoc (word16 o 0xeb9f) (1 ∷ 0 ∷ []) rest) ∙ word16_at-word16 o 0xeb9f ((1 ∷ 0 ∷ []) ++ rest) (lit< tt)) in
      let version : (slice_index b 2 == 1) ≡ true = equal_test (slice_index b 2) 1 (ap (λ (t : List ℕ). slice_index t 2) regrouped ∙ (first_bytes o rest).0) in
      let flags : (slice_index b 3 == 0) ≡ true = equal_test (slice_index b 3) 0 (ap (λ (t : List ℕ). slice_index t 3) regrouped ∙ (first_bytes o rest).1) in
      let size : (nat_le 32 (header_len section) && nat_lt (header_len section) (length b)) ≡ true =
      and_from (nat_le 32 (header_len section)) (nat_lt (header_len section) (length b)) (most_test 32 (header_len section) (omega (arith, header_len_is)))
      (less_test (header_len section) (length b) (omega (arith, header_len_is, extension_length, some))) in
      rw (long, magic, version, flags, size) refl
