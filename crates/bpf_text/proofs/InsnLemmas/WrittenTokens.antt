-- The tokens of written lines.
use Rattle.std.proofs.Common.{◌≡◌, ◌≢◌, ℕ, suc, ◌^◌, ◌<◌, ℤ, pos, negsuc, true, false, List, [], ◌∷◌, ◌++◌, inl, inr, length, refl, sym, ap, ◌∙◌, subst, arith, append_assoc, append-nil, codes}
use Rattle.std.specs.{Fmt.decimal, Fmt.signed_decimal, List.list_all, Char.digit_value, Str.Parse.AllDigits, Str.Parse.IsNumeral}
use Rattle.std.proofs.lemmas.{Bool.and_from, Bool.false≢true, Bool.Decides.nat_tests, Fmt.decimal_is_IsNumeral}
use Rattle.bpf_insn.specs.declared.insn.Reg.{Reg}
use Rattle.bpf_text.specs.insn.Operands.{LineOperand, register, number, signed, memory, register_text, signed_text, operand_text, operands_text}
use Rattle.bpf_text.specs.insn.{Lines.spaced, Tokens.is_blank, Tokens.is_word_byte, Tokens.is_symbol, Tokens.BeginsWithWordByte, Tokens.AreTokens}

-- ---- tokens of parts

not_empty : {X : Type 0} (xs : List X) → 0 < length xs → xs ≢ []
not_empty xs some e = omega (arith, ap length e)

pub word_then : (word rest : List ℕ) (ts : List (List ℕ)) → 0 < length word → list_all is_word_byte word ≡ true → ¬ BeginsWithWordByte rest → AreTokens rest ts → AreTokens (word ++ rest) (word ∷ ts)
word_then word rest ts some all ends h = (rest, record { blanks = []; whole = refl; blank = refl; longest = inl (not_empty word some, all, ends) }, h)

symbol_then : (b : ℕ) (rest : List ℕ) (ts : List (List ℕ)) → is_symbol b ≡ true → AreTokens rest ts → AreTokens (b ∷ rest) ((b ∷ []) ∷ ts)
symbol_then b rest ts e h = (rest, record { blanks = []; whole = refl; blank = refl; longest = inr (b, refl, e) }, h)

blank_then : (b : ℕ) (bytes : List ℕ) (ts : List (List ℕ)) → is_blank b ≡ true → AreTokens bytes ts → AreTokens (b ∷ bytes) ts
blank_then b bytes [] e h = and_from (is_blank b) (list_all is_blank bytes) e h
blank_then b bytes (t ∷ ts) e h =
    let s = h.1 in
    (h.0, record { blanks = b ∷ s.blanks; whole = ap (λ x. b ∷ x) s.whole; blank = and_from (is_blank b) (list_all is_blank s.blanks) e s.blank; longest = s.longest }, h.2)

-- ---- numbers and registers

digit_is_word_byte : (c : ℕ) → digit_value c < 10 → is_word_byte c ≡ true
digit_is_word_byte c h = grind (arith, nat_tests)

pub digits_are_word_bytes : (ds : List ℕ) → AllDigits 10 ds → list_all is_word_byte ds ≡ true
digits_are_word_bytes [] h = refl
digits_are_word_bytes (d ∷ ds) h = and_from (is_word_byte d) (list_all is_word_byte ds) (digit_is_word_byte d h.0) (digits_are_word_bytes ds h.1)

numeral_then : (ds rest : List ℕ) (ts : List (List ℕ)) → IsNumeral 10 ds → ¬ BeginsWithWordByte rest → AreTokens rest ts → AreTokens (ds ++ rest) (ds ∷ ts)
numeral_then ds rest ts n ends h = word_then ds rest ts n.0 (digits_are_word_bytes ds n.1) ends h

letter_then : (b : ℕ) (ds rest : List ℕ) (ts : List (List ℕ)) → is_word_byte b ≡ true → IsNumeral 10 ds → ¬ BeginsWithWordByte rest → AreTokens rest ts → AreTokens ((b ∷ ds) ++ rest) ((b ∷ ds) ∷ ts)
letter_then b ds rest ts e n ends h =
    word_then (b ∷ ds) rest ts (omega arith) (and_from (is_word_byte b) (list_all is_word_byte ds) e (digits_are_word_bytes ds n.1)) ends h

-- a number whose magnitude is below 2^64
abbrev pub IsNear : ℤ → Type 0
IsNear (pos n) = n < 2 ^ 64
IsNear (negsuc n) = suc n < 2 ^ 64

abbrev pub number_tokens : ℤ → List (List ℕ)
number_tokens (pos n) = decimal n ∷ []
number_tokens (negsuc n) = codes "-" ∷ decimal (suc n) ∷ []

abbrev pub signed_tokens : ℤ → List (List ℕ)
signed_tokens (pos n) = codes "+" ∷ decimal n ∷ []
signed_tokens (negsuc n) = codes "-" ∷ decimal (suc n) ∷ []

pub numeral : (n : ℕ) → n < 2 ^ 64 → IsNumeral 10 (decimal n)
numeral n h = (decimal_is_IsNumeral n h).0

signed_numeral_then : (b : ℕ) (ds rest : List ℕ) (ts : List (List ℕ)) → is_symbol b ≡ true → IsNumeral 10 ds → ¬ BeginsWithWordByte rest → AreTokens rest ts → AreTokens ((b ∷ ds) ++ rest) ((b ∷ []) ∷ ds ∷ ts)
signed_numeral_then b ds rest ts e n ends h = symbol_then b (ds ++ rest) (ds ∷ ts) e (numeral_then ds rest ts n ends h)

number_then : (z : ℤ) (rest : List ℕ) (ts : List (List ℕ)) → IsNear z → ¬ BeginsWithWordByte rest → AreTokens rest ts → AreTokens (signed_decimal z ++ rest) (number_tokens z ++ ts)
number_then (pos n) rest ts near ends h = numeral_then (decimal n) rest ts (numeral n near) ends h
number_then (negsuc n) rest ts near ends h = signed_numeral_then 45 (decimal (suc n)) rest ts refl (numeral (suc n) near) ends h

signed_then : (z : ℤ) (rest : List ℕ) (ts : List (List ℕ)) → IsNear z → ¬ BeginsWithWordByte rest → AreTokens rest ts → AreTokens (signed_text z ++ rest) (signed_tokens z ++ ts)
signed_then (pos n) rest ts near ends h = signed_numeral_then 43 (decimal n) rest ts refl (numeral n near) ends h
signed_then (negsuc n) rest ts near ends h = signed_numeral_then 45 (decimal (suc n)) rest ts refl (numeral (suc n) near) ends h

pub register_numeral : (r : Reg) → IsNumeral 10 (decimal r.number)
register_numeral r = numeral r.number (omega (arith, r.in_range))

register_then : (r : Reg) (rest : List ℕ) (ts : List (List ℕ)) → ¬ BeginsWithWordByte rest → AreTokens rest ts → AreTokens (register_text r ++ rest) (register_text r ∷ ts)
register_then r rest ts ends h = letter_then 114 (decimal r.number) rest ts refl (register_numeral r) ends h

-- ---- operands

abbrev pub IsWritable : LineOperand → Type 0
IsWritable (register r) = Unit {0}
IsWritable (number z) = IsNear z
IsWritable (signed z) = IsNear z
IsWritable (memory r z) = IsNear z

abbrev pub AreWritable : List LineOperand → Type 0
AreWritable [] = Unit {0}
AreWritable (a ∷ more) = IsWritable a × AreWritable more

abbrev pub operand_tokens : LineOperand → List (List ℕ)
operand_tokens (register r) = register_text r ∷ []
operand_tokens (number z) = number_tokens z
operand_tokens (signed z) = signed_tokens z
operand_tokens (memory r z) = codes "[" ∷ register_text r ∷ (signed_tokens z ++ codes "]" ∷ [])

abbrev pub operands_tokens : List LineOperand → List (List ℕ)
operands_tokens [] = []
operands_tokens (a ∷ []) = operand_tokens a
operands_tokens (a ∷ b ∷ more) = operand_tokens a ++ codes "," ∷ operands_tokens (b ∷ more)

four_parts : (a b c d e : List ℕ) → (((a ++ b) ++ c) ++ d) ++ e ≡ a ++ (b ++ (c ++ (d ++ e)))
four_parts a b c d e = simp append_assoc

no_mnemonic : (b : ℕ) (rest : List ℕ) → is_word_byte b ≡ false → ¬ BeginsWithWordByte (b ∷ rest)
no_mnemonic b rest e = λ h. false≢true (sym e ∙ h)

memory_then : (r : Reg) (z : ℤ) (rest : List ℕ) (ts : List (List ℕ)) → IsNear z → AreTokens rest ts
    → AreTokens (codes "[" ++ (register_text r ++ (signed_text z ++ (codes "]" ++ rest)))) (codes "[" ∷ register_text r ∷ (signed_tokens z ++ (codes "]" ∷ ts)))
memory_then r z rest ts near h =
    symbol_then 91 (register_text r ++ (signed_text z ++ (codes "]" ++ rest))) (register_text r ∷ (signed_tokens z ++ (codes "]" ∷ ts))) refl
    (register_then r (signed_text z ++ (codes "]" ++ rest)) (signed_tokens z ++ (codes "]" ∷ ts)) (sign_first z (codes "]" ++ rest))
    (signed_then z (codes "]" ++ rest) (codes "]" ∷ ts) near (no_mnemonic 93 rest refl) (symbol_then 93 rest ts refl h)))
  where
    sign_first : (z : ℤ) (more : List ℕ) → ¬ BeginsWithWordByte (signed_text z ++ more)
    sign_first (pos n) more = no_mnemonic 43 (decimal n ++ more) refl
    sign_first (negsuc n) more = no_mnemonic 45 (decimal (suc n) ++ more) refl

operand_then : (a : LineOperand) (rest : List ℕ) (ts : List (List ℕ)) → IsWritable a → ¬ BeginsWithWordByte rest → AreTokens rest ts → AreTokens (operand_text a ++ rest) (operand_tokens a ++ ts)
operand_then (register r) rest ts near ends h = register_then r rest ts ends h
operand_then (number z) rest ts near ends h = number_then z rest ts near ends h
operand_then (signed z) rest ts near ends h = signed_then z rest ts near ends h
operand_then (memory r z) rest ts near ends h =
    subst (λ (x : List ℕ). AreTokens x (operand_tokens (memory r z) ++ ts)) (sym (four_parts (codes "[") (register_text r) (signed_text z) (codes "]") rest))
    (subst (λ (x : List (List ℕ)). AreTokens (codes "[" ++ (register_text r ++ (signed_text z ++ (codes "]" ++ rest)))) (codes "[" ∷ register_text r ∷ x))
    (sym (append_assoc (signed_tokens z) (codes "]" ∷ []) ts)) (memory_then r z rest ts near h))

pub operands_then : (xs : List LineOperand) → AreWritable xs → AreTokens (operands_text xs) (operands_tokens xs)
operands_then [] near = refl
operands_then (a ∷ []) near =
    subst (λ (x : List ℕ). AreTokens x (operand_tokens a)) (append-nil (operand_text a))
    (subst (λ (x : List (List ℕ)). AreTokens (operand_text a ++ []) x) (append-nil (operand_tokens a)) (operand_then a [] [] near.0 (λ h. h) refl))
operands_then (a ∷ b ∷ more) near =
    let rest = operands_text (b ∷ more) in
    let ts = operands_tokens (b ∷ more) in
    let following : AreTokens (44 ∷ 32 ∷ rest) (codes "," ∷ ts) = symbol_then 44 (32 ∷ rest) ts refl (blank_then 32 rest ts refl (operands_then (b ∷ more) near.1)) in
    subst (λ (x : List ℕ). AreTokens x (operand_tokens a ++ codes "," ∷ ts)) (sym (append_assoc (operand_text a) (codes ", ") rest))
    (operand_then a (44 ∷ 32 ∷ rest) (codes "," ∷ ts) near.0 (no_mnemonic 44 (32 ∷ rest) refl) following)

pub spaced_then : (xs : List LineOperand) → AreWritable xs → AreTokens (spaced xs) (operands_tokens xs) × ¬ BeginsWithWordByte (spaced xs)
spaced_then [] near = (refl, (λ h. h))
spaced_then (a ∷ more) near = (
  blank_then 32 (operands_text (a ∷ more)) (operands_tokens (a ∷ more)) refl (operands_then (a ∷ more) near),
  no_mnemonic 32 (operands_text (a ∷ more)) refl,
)
