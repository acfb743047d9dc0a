-- The listing of instructions lists them.
use Rattle.std.proofs.Common.{rules, ◌≡◌, ℕ, suc, ◌+◌, ◌<◌, ◌≤◌, ℤ, pos, negsuc, Bool, true, false, List, [], ◌∷◌, ◌++◌, ◌⊎◌, inl, inr, length, get_or, take, take_all, refl, sym, ap, ◌∙◌, subst, arith, append_assoc, append-nil, codes, FitsSigned}
use Rattle.std.specs.{Int.w16, Int.w32, List.AllZip, List.All, List.list_any, List.flat_map, List.position_or_len}
use Rattle.std.proofs.lemmas.{Int.ints, Bool.cases_lt, Bool.cases_Bool, Bool.false≢true, Bool.Decides.nat_tests}
use Rattle.std.proofs.lemmas.List.{get_or_default, take_more, Sums.position_or_len_is, Concat.flat_map-append, Splits.slice_split_at}
use Rattle.bpf_insn.specs.declared.insn.{Operand.Operand, Operand.TheVariants.Imm, Operand.TheVariants.Reg, Insn.Insn}
use Rattle.bpf_insn.specs.declared.insn.WideOf.TheVariants.{Number}
use Rattle.bpf_insn.specs.declared.insn.Insn.TheVariants.{Alu, Branch, Wide}
use Rattle.bpf_insn.specs.Table.{IsInsn, IsOperand}
use Rattle.bpf_text.specs.insn.{Table.mnemonic_text, Table.source_operand, Table.operands_of, Lines.spaced, Lines.line_of, Lines.listing_of}
use Rattle.bpf_text.specs.insn.Tokens.{is_newline, is_comment_mark, is_stray, code_of, AreTokens}
use Rattle.bpf_text.specs.insn.Listing.{lines_of, ListsInsn, ListsLine, Lists}
use Rattle.bpf_text.proofs.InsnLemmas.{Excludes.no_stray, MnemonicTokens.mnemonic_is_token, StrayLemmas.mark_is_stray, TokenLemmas.none_passes, WrittenSpells.operands_spell}
use Rattle.bpf_text.proofs.InsnLemmas.WrittenTokens.{IsNear, IsWritable, AreWritable, operands_tokens, word_then, spaced_then}

-- ---- the fields of an instruction are in range

near_offset : (z : ℤ) → FitsSigned w16 z → IsNear z
near_offset (pos n) h = omega (arith, ints)
near_offset (negsuc n) h = omega (arith, ints)

near_imm : (z : ℤ) → FitsSigned w32 z → IsNear z
near_imm (pos n) h = omega (arith, ints)
near_imm (negsuc n) h = omega (arith, ints)

operand_writable : (arg : Operand) → IsOperand arg → IsWritable (source_operand arg)
operand_writable (Imm k) h = near_imm k h
operand_writable (Reg r) h = tt

writable : (i : Insn) → IsInsn i → AreWritable (operands_of i)
writable (Alu width op d arg) h = (tt, (operand_writable arg h.1, tt))
writable (Branch width op d arg o) h = (tt, (operand_writable arg h.1, (near_offset o h.2, tt)))
writable (Wide d (Number n)) h = (tt, (h.1, tt))
writable (Wide d _) h = search (rules, near_imm)
writable _ h = search (rules, near_offset, near_imm)

-- ---- one line

line_tokens : (i : Insn) → IsInsn i → AreTokens (line_of i) (mnemonic_text i ∷ operands_tokens (operands_of i))
line_tokens i h =
    let word = mnemonic_is_token i in
    let following = spaced_then (operands_of i) (writable i h) in
    word_then (mnemonic_text i) (spaced (operands_of i)) (operands_tokens (operands_of i)) word.0 word.1 following.1 following.0

newline_is_stray : (b : ℕ) → is_newline b ≡ true → is_stray b ≡ true
newline_is_stray b h = grind (arith, nat_tests)

-- no byte passes a test that only stray bytes pass
none_of_strays : (p : ℕ → Bool) → ((b : ℕ) → p b ≡ true → is_stray b ≡ true) → (xs : List ℕ) → list_any is_stray xs ≡ false → All (λ b. p b ≡ false) xs
none_of_strays p strays xs none k d h = elim (cases_Bool (p (get_or xs k d))) [
  | inl e ↦ absurd (false≢true (sym (none_passes is_stray xs none k d h) ∙ strays (get_or xs k d) e))
  | inr e ↦ e
]

all_code : (line : List ℕ) → list_any is_stray line ≡ false → code_of line ≡ line
all_code line none =
    let marks = none_of_strays is_comment_mark mark_is_stray line none in
    let end : position_or_len is_comment_mark line ≡ length line = position_or_len_is is_comment_mark line (length line) 0 (omega arith) (λ k l. marks k 0 l) (λ h. absurd (omega arith)) in
    take_all (position_or_len is_comment_mark line) line (omega arith)

line_lists : (i : Insn) → IsInsn i → ListsInsn (line_of i) i
line_lists i h =
    let tokens = line_tokens i h in
    let none = no_stray (line_of i) (mnemonic_text i ∷ operands_tokens (operands_of i)) tokens in
    let code : AreTokens (code_of (line_of i)) (mnemonic_text i ∷ operands_tokens (operands_of i)) =
    subst (λ (x : List ℕ). AreTokens x (mnemonic_text i ∷ operands_tokens (operands_of i))) (sym (all_code (line_of i) none)) tokens in
    (h, (mnemonic_text i ∷ operands_tokens (operands_of i), code, (refl, operands_spell (operands_of i) (writable i h))))

-- ---- a listing

abbrev AllInsns : List Insn → Type 0
AllInsns [] = Unit {0}
AllInsns (i ∷ more) = IsInsn i × AllInsns more

all_insns : (l : List Insn) → All IsInsn l → AllInsns l
all_insns [] h = tt
all_insns (i ∷ more) h = (h 0 i (omega arith), all_insns more (λ k d g. h (suc k) d (omega arith)))

-- what the lines list: one each, and nothing after the last newline
abbrev found_of : List Insn → List (List Insn)
found_of [] = [] ∷ []
found_of (i ∷ more) = (i ∷ []) ∷ found_of more

found_whole : (l : List Insn) → l ≡ flat_map (λ found. found) (found_of l)
found_whole [] = refl
found_whole (i ∷ more) = ap (λ x. i ∷ x) (found_whole more)

lines : (i : Insn) (more : List Insn) → IsInsn i → lines_of (listing_of (i ∷ more)) ≡ line_of i ∷ lines_of (listing_of more)
lines i more h =
    let none = no_stray (line_of i) (mnemonic_text i ∷ operands_tokens (operands_of i)) (line_tokens i h) in
    ap lines_of (append_assoc (line_of i) (codes "\n") (listing_of more))
    ∙ slice_split_at is_newline (line_of i) 10 (listing_of more) (none_of_strays is_newline newline_is_stray (line_of i) none) refl

each_lists : (l : List Insn) → AllInsns l → AllZip ListsLine (lines_of (listing_of l)) (found_of l)
each_lists [] h = (refl, tt)
each_lists (i ∷ more) h = subst (λ (x : List (List ℕ)). AllZip ListsLine x (found_of (i ∷ more))) (sym (lines i more h.0)) (line_lists i h.0, each_lists more h.1)

pub listing_lists : (l : List Insn) → All IsInsn l → Lists (listing_of l) l
listing_lists l h = record { listed = found_of l; each = each_lists l (all_insns l h); whole = found_whole l }

-- ---- a listing that is written

-- one more instruction whose fields are in range
pub in_range_more : (l : List Insn) (item : Insn) (i : ℕ) → item ≡ get_or l i item → i < length l → IsInsn item → ((k : ℕ) (d : Insn) → k < i → IsInsn (get_or l k d)) → (k : ℕ) (d : Insn) → k < i + 1 → IsInsn (get_or l k d)
in_range_more l item i e inside here below k d h = pick (cases_lt k i)
  where
    pick : (k < i) ⊎ (i ≤ k) → IsInsn (get_or l k d)
    pick (inl s) = below k d s
    pick (inr s) =
        let last : k ≡ i = omega arith in
        let same : item ≡ get_or l k d = e ∙ get_or_default l i item d inside ∙ ap (λ n. get_or l n d) (sym last) in
        subst (λ (x : Insn). IsInsn x) same here

pub written_lists : (text : List ℕ) (l : List Insn) (i : ℕ) → length l ≤ i → text ≡ listing_of (take i l) → ((k : ℕ) (d : Insn) → k < i → IsInsn (get_or l k d)) → Lists text l
written_lists text l i whole e below =
    let all : take i l ≡ l = take_all i l whole in
    let same : text ≡ listing_of l = e ∙ ap listing_of all in
    subst (λ (x : List ℕ). Lists x l) (sym same) (listing_lists l (λ k d h. below k d (omega arith)))

-- one more line
pub written_more : (text more : List ℕ) (l : List Insn) (i : ℕ) (item : Insn) → item ≡ get_or l i item → i < length l → text ≡ listing_of (take i l) → more ≡ text ++ line_of item ++ codes "\n" → more ≡ listing_of (take (i + 1) l)
written_more text more l i item e inside f g =
    let taken : take (i + 1) l ≡ take i l ++ item ∷ [] = take_more l i item inside ∙ ap (λ x. take i l ++ x ∷ []) (sym e) in
    let whole : listing_of (take (i + 1) l) ≡ listing_of (take i l) ++ listing_of (item ∷ []) =
    ap listing_of taken ∙ flat_map-append (λ j. line_of j ++ codes "\n") (take i l) (item ∷ []) in
    g ∙ append_assoc text (line_of item) (codes "\n") ∙ ap (λ x. x ++ (line_of item ++ codes "\n")) f ∙ ap (λ x. listing_of (take i l) ++ x) (sym (append-nil (line_of item ++ codes "\n"))) ∙ sym whole
