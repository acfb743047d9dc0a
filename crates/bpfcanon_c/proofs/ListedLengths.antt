-- The instructions of a listing are at most twice as long as it.
use Rattle.std.proofs.Common.{◌≡◌, ◌≤◌, ◌<◌, ◌+◌, ◌*◌, ℕ, suc, ℤ, pos, Bool, true, false, cond, List, [], ◌∷◌, ◌++◌, inl, inr, None, length, length-append, refl, sym, ap, subst, arith, codes}
use Rattle.std.specs.{List.AllZip, List.flat_map, List.slice_split, List.onto_first, List.position_or_len, Char.digit_value}
use Rattle.std.proofs.lemmas.{Bool.Decides.nat_tests, List.length-take, List.Concat.flat_map-append}
use Rattle.bpf_words.specs.{declared.Order.Order, Slots.encoded}
use Rattle.bpf_insn.specs.declared.insn.Reg as reg
use Rattle.bpf_insn.specs.declared.insn.Size.{Size}
use Rattle.bpf_insn.specs.declared.insn.Size.TheVariants as size
use Rattle.bpf_insn.specs.declared.insn.AluOp.{AluOp}
use Rattle.bpf_insn.specs.declared.insn.AluOp.TheVariants as alu
use Rattle.bpf_insn.specs.declared.insn.BranchOp.{BranchOp}
use Rattle.bpf_insn.specs.declared.insn.BranchOp.TheVariants as branch
use Rattle.bpf_insn.specs.declared.insn.MovsxForm.{MovsxForm}
use Rattle.bpf_insn.specs.declared.insn.MovsxForm.TheVariants as movsx
use Rattle.bpf_insn.specs.declared.insn.SwapKind.{SwapKind}
use Rattle.bpf_insn.specs.declared.insn.SwapKind.TheVariants as swap
use Rattle.bpf_insn.specs.declared.insn.SwapBits.{SwapBits, TheVariants.B16, TheVariants.B32, TheVariants.B64}
use Rattle.bpf_insn.specs.declared.insn.AtomicOp.{AtomicOp}
use Rattle.bpf_insn.specs.declared.insn.AtomicOp.TheVariants as atomic
use Rattle.bpf_insn.specs.{declared.insn.WideOf.WideOf, declared.insn.Insn.Insn, Table.fields_of, Table.next_imm_of}
use Rattle.bpf_insn.specs.declared.insn.WideOf.TheVariants.{Number, MapFd, MapValueFd, VarAddr, CodeAddr, MapIdx, MapValueIdx}
use Rattle.bpf_insn.specs.declared.insn.Insn.TheVariants.{Alu, Movsx, Neg, Swap, Jump, JumpLong, Branch, CallHelper, CallLocal, CallBtf, Exit, Load, LoadSigned, StoreImm, StoreReg, Atomic, Wide, PacketAbs, PacketInd}
use Rattle.bpf_insn.specs.Encoding.{file_of, second_slot, encoding}
use Rattle.bpf_words.proofs.SlotLemmas.{slot_length}
use Rattle.bpf_insn.proofs.FileLaws.{at_most_two}
use Rattle.bpf_text.specs.insn.Operands.{LineOperand, register, number, signed, memory, register_text, SpellsMagnitude, SpellsOperand, SpellsOperands, is_comma}
use Rattle.bpf_text.specs.insn.Table.{width_suffix, alu_mnemonic, branch_mnemonic, movsx_mnemonic, swap_mnemonic, bits_suffix, size_suffix, small_size_suffix, atomic_mnemonic, wide_mnemonic, mnemonic_text, source_operand, operands_of, wide_operands}
use Rattle.bpf_text.specs.insn.Tokens.{is_newline, is_comment_mark, is_word_byte, code_of, BeginsWithWordByte, IsTokenBefore, AreTokens}
use Rattle.bpf_text.specs.insn.Listing.{lines_of, IsTokenForm, ListsInsn, ListsLine, Lists}
use Rattle.bpf_text.proofs.InsnLemmas.TokenLemmas.{shorter_following}

-- ---- tokens have bytes

count : (text : List ℕ) (ts : List (List ℕ)) → AreTokens text ts → length ts ≤ length text
count text [] h = omega arith
count text (t ∷ ts) h = omega (arith, shorter_following text t h.0 h.1, count h.0 ts h.2)

word_and_tokens : (text t : List ℕ) (ts : List (List ℕ)) → AreTokens text (t ∷ ts) → length t + length ts ≤ length text
word_and_tokens text t ts h =
    omega (arith, ap length h.1.whole, length-append (h.1.blanks ++ t) h.0, length-append h.1.blanks t, count h.0 ts h.2)

-- a blank is between two tokens of letters
gap : (blanks t rest : List ℕ) → BeginsWithWordByte t → (BeginsWithWordByte (blanks ++ t ++ rest) → ⊥) → 0 < length blanks
gap [] [] rest word none = absurd word
gap [] (b ∷ t) rest word none = absurd (none word)
gap (x ∷ blanks) t rest word none = omega arith

ends_word : (t rest : List ℕ) → 2 ≤ length t → IsTokenBefore t rest → BeginsWithWordByte rest → ⊥
ends_word t rest long (inl w) = w.2
ends_word t rest long (inr w) = absurd (omega (arith, long, ap length w.1))

two_words : (text t u : List ℕ) (ts : List (List ℕ)) → 2 ≤ length t → BeginsWithWordByte u → AreTokens text (t ∷ u ∷ ts) → length t + length ts + 2 ≤ length text
two_words text t u ts long word h =
    let next = h.2 in
    let none = subst (λ x. BeginsWithWordByte x → ⊥) next.1.whole (ends_word t h.0 long h.1.longest) in
    omega (
      arith,
      ap length h.1.whole,
      length-append (h.1.blanks ++ t) h.0,
      length-append h.1.blanks t,
      ap length next.1.whole,
      length-append (next.1.blanks ++ u) next.0,
      length-append next.1.blanks u,
      gap next.1.blanks u next.0 word none,
      has_bytes u word,
      count next.0 ts next.2,
    )
  where
    has_bytes : (u : List ℕ) → BeginsWithWordByte u → 0 < length u
    has_bytes [] w = absurd w
    has_bytes (b ∷ u) w = omega arith

-- ---- operands have tokens

no_operand : (a : LineOperand) → SpellsOperand [] a → ⊥
no_operand (register r) h = h
no_operand (number z) h = h
no_operand (signed z) h = h
no_operand (memory r z) h = h

some_tokens : (ts : List (List ℕ)) (a : LineOperand) (more : List LineOperand) → SpellsOperands ts (a ∷ more) → 0 < length ts
some_tokens [] a more h = absurd (no_operand a h.0)
some_tokens (t ∷ ts) a more h = omega arith

-- two operands have three tokens, with the comma
three_tokens : (ts : List (List ℕ)) (a b : LineOperand) (more : List LineOperand) → SpellsOperands ts (a ∷ b ∷ more) → 3 ≤ length ts
three_tokens [] a b more h = absurd h.1
three_tokens (t ∷ []) a b more h = absurd (one (is_comma t) h)
  where
    one : (c : Bool) → AllZip SpellsOperand (cond c ([] ∷ [] ∷ []) ((t ∷ []) ∷ [])) (a ∷ b ∷ more) → ⊥
    one true h = no_operand a h.0
    one false h = h.1
three_tokens (t ∷ u ∷ []) a b more h = absurd (two (is_comma t) (is_comma u) h)
  where
    two : (c d : Bool) → AllZip SpellsOperand (cond c ([] ∷ cond d ([] ∷ [] ∷ []) ((u ∷ []) ∷ [])) (onto_first t (cond d ([] ∷ [] ∷ []) ((u ∷ []) ∷ [])))) (a ∷ b ∷ more) → ⊥
    two true d h = no_operand a h.0
    two false true h = no_operand b h.1.0
    two false false h = h.1
three_tokens (t ∷ u ∷ v ∷ ts) a b more h = omega arith

-- the token of a register consists of letters and digits
register_word : (t : List ℕ) (r : reg.Reg) → t ≡ register_text r → BeginsWithWordByte t
register_word t r h = subst BeginsWithWordByte (sym h) refl

first_register : (t : List ℕ) (ts : List (List ℕ)) (r : reg.Reg) (more : List LineOperand) → SpellsOperands (t ∷ ts) (register r ∷ more) → BeginsWithWordByte t
first_register t ts r more h = by_comma (is_comma t) (slice_split is_comma ts) h
  where
    by_comma : (c : Bool) (parts : List (List (List ℕ))) → AllZip SpellsOperand (cond c ([] ∷ parts) (onto_first t parts)) (register r ∷ more) → BeginsWithWordByte t
    by_comma true parts h = absurd h.0
    by_comma false [] h = register_word t r h.0
    by_comma false ([] ∷ parts) h = register_word t r h.0
    by_comma false ((q ∷ qs) ∷ parts) h = absurd h.0

digit_is_word : (c : ℕ) → digit_value c < 10 → is_word_byte c ≡ true
digit_is_word c h = grind (arith, nat_tests)

magnitude_word : (t : List ℕ) (n : ℕ) → SpellsMagnitude t n → BeginsWithWordByte t
magnitude_word [] n (inl h) = absurd (omega (arith, h.0.0))
magnitude_word (c ∷ cs) n (inl h) = digit_is_word c h.0.1.0
magnitude_word t n (inr h) = subst BeginsWithWordByte (sym h.1) refl

-- ---- lines

plain_length : (o : Order) (i : Insn) → next_imm_of i ≡ None → length (encoding o i) ≡ 8
unfolding encoding
plain_length o i none =
    omega (arith, ap (λ k. length (second_slot o k)) none, length-append (encoded o (fields_of i)) (second_slot o (next_imm_of i)), slot_length o (fields_of i))

wide_word : (what : WideOf) → 4 ≤ length (wide_mnemonic what)
wide_word what = elim what as (λ x. 4 ≤ length (wide_mnemonic x)) [ Number n ↦ omega arith | MapFd k ↦ omega arith | MapValueFd k m ↦ omega arith | VarAddr k m ↦ omega arith | CodeAddr k ↦ omega arith | MapIdx k ↦ omega arith | MapValueIdx k m ↦ omega arith ]

wide_tokens : (ts : List (List ℕ)) (d : reg.Reg) (what : WideOf) → SpellsOperands ts (operands_of (Wide d what)) → 3 ≤ length ts
wide_tokens ts d (Number n) h = three_tokens ts (register d) (number (pos n)) [] h
wide_tokens ts d (MapFd k) h = three_tokens ts (register d) (number k) [] h
wide_tokens ts d (MapValueFd k m) h = three_tokens ts (register d) (number k) (number m ∷ []) h
wide_tokens ts d (VarAddr k m) h = three_tokens ts (register d) (number k) (number m ∷ []) h
wide_tokens ts d (CodeAddr k) h = three_tokens ts (register d) (number k) [] h
wide_tokens ts d (MapIdx k) h = three_tokens ts (register d) (number k) [] h
wide_tokens ts d (MapValueIdx k m) h = three_tokens ts (register d) (number k) (number m ∷ []) h

alu_length : (op : AluOp) → 2 ≤ length (alu_mnemonic op)
alu_length op = elim op as (λ x. 2 ≤ length (alu_mnemonic x)) [ alu.Add ↦ omega arith | alu.Sub ↦ omega arith | alu.Mul ↦ omega arith | alu.Div ↦ omega arith | alu.Sdiv ↦ omega arith | alu.Or ↦ omega arith | alu.And ↦ omega arith | alu.Lsh ↦ omega arith | alu.Rsh ↦ omega arith | alu.Mod ↦ omega arith | alu.Smod ↦ omega arith | alu.Xor ↦ omega arith | alu.Mov ↦ omega arith | alu.Arsh ↦ omega arith ]

branch_length : (op : BranchOp) → 3 ≤ length (branch_mnemonic op)
branch_length op = elim op as (λ x. 3 ≤ length (branch_mnemonic x)) [ branch.Eq ↦ omega arith | branch.Gt ↦ omega arith | branch.Ge ↦ omega arith | branch.Set ↦ omega arith | branch.Ne ↦ omega arith | branch.Sgt ↦ omega arith | branch.Sge ↦ omega arith | branch.Lt ↦ omega arith | branch.Le ↦ omega arith | branch.Slt ↦ omega arith | branch.Sle ↦ omega arith ]

movsx_length : (form : MovsxForm) → 4 ≤ length (movsx_mnemonic form)
movsx_length form = elim form as (λ x. 4 ≤ length (movsx_mnemonic x)) [ movsx.W32From8 ↦ omega arith | movsx.W32From16 ↦ omega arith | movsx.W64From8 ↦ omega arith | movsx.W64From16 ↦ omega arith | movsx.W64From32 ↦ omega arith ]

swap_length : (kind : SwapKind) → 2 ≤ length (swap_mnemonic kind)
swap_length kind = elim kind as (λ x. 2 ≤ length (swap_mnemonic x)) [ swap.Le ↦ omega arith | swap.Be ↦ omega arith | swap.Swap ↦ omega arith ]

bits_length : (bits : SwapBits) → 2 ≤ length (bits_suffix bits)
bits_length bits = elim bits as (λ x. 2 ≤ length (bits_suffix x)) [ B16 ↦ omega arith | B32 ↦ omega arith | B64 ↦ omega arith ]

size_length : (z : Size) → 1 ≤ length (size_suffix z)
size_length z = elim z as (λ x. 1 ≤ length (size_suffix x)) [ size.B ↦ omega arith | size.H ↦ omega arith | size.W ↦ omega arith | size.D ↦ omega arith ]

atomic_length : (op : AtomicOp) → 4 ≤ length (atomic_mnemonic op)
atomic_length op = elim op as (λ x. 4 ≤ length (atomic_mnemonic x)) [ atomic.Add ↦ omega arith | atomic.Or ↦ omega arith | atomic.And ↦ omega arith | atomic.Xor ↦ omega arith | atomic.FetchAdd ↦ omega arith | atomic.FetchOr ↦ omega arith | atomic.FetchAnd ↦ omega arith | atomic.FetchXor ↦ omega arith | atomic.Xchg ↦ omega arith | atomic.Cmpxchg ↦ omega arith ]

-- "ja 1" has a blank, and "ja+1" a sign
jump_code : (code : List ℕ) (ts : List (List ℕ)) (z : ℤ) → AreTokens code (codes "ja" ∷ ts) → SpellsOperands ts (signed z ∷ []) → 4 ≤ length code
jump_code code [] z tokens h = absurd h.0
jump_code code (t ∷ []) z tokens h = one (is_comma t) h
  where
    one : (c : Bool) → AllZip SpellsOperand (cond c ([] ∷ [] ∷ []) ((t ∷ []) ∷ [])) (signed z ∷ []) → 4 ≤ length code
    one true h = absurd h.0
    one false h = omega (arith, two_words code (codes "ja") t [] (omega arith) (magnitude_word t h.0.0 h.0.1) tokens)
jump_code code (t ∷ u ∷ ts) z tokens h = omega (arith, word_and_tokens code (codes "ja") (t ∷ u ∷ ts) tokens)

-- "lddw r1,1" has a blank and a comma
wide_code : (code : List ℕ) (ts : List (List ℕ)) (d : reg.Reg) (what : WideOf) → AreTokens code (wide_mnemonic what ∷ ts) → SpellsOperands ts (operands_of (Wide d what)) → 8 ≤ length code
wide_code code [] d what tokens h = absurd h.0
wide_code code (t ∷ ts) d what tokens h =
    let long = wide_word what in
    omega (arith, long, wide_tokens (t ∷ ts) d what h, two_words code (wide_mnemonic what) t ts (omega (arith, long)) (first_register t ts d (wide_operands what) h) tokens)

-- code that lists an instruction has at least half of its bytes
code_length : (o : Order) (i : Insn) (code : List ℕ) (ts : List (List ℕ)) → AreTokens code (mnemonic_text i ∷ ts) → SpellsOperands ts (operands_of i) → length (encoding o i) ≤ 2 * length code
code_length o (Alu width op d arg) code ts tokens h =
    let i = Alu width op d arg in
    omega (arith, plain_length o i refl, word_and_tokens code (mnemonic_text i) ts tokens, length-append (alu_mnemonic op) (width_suffix width), alu_length op, three_tokens ts (register d) (source_operand arg) [] h)
code_length o (Movsx form d s) code ts tokens h =
    omega (arith, plain_length o (Movsx form d s) refl, word_and_tokens code (movsx_mnemonic form) ts tokens, movsx_length form)
code_length o (Neg width d) code ts tokens h =
    let i = Neg width d in
    omega (arith, plain_length o i refl, word_and_tokens code (mnemonic_text i) ts tokens, length-append (codes "neg") (width_suffix width), some_tokens ts (register d) [] h)
code_length o (Swap kind bits d) code ts tokens h =
    let i = Swap kind bits d in
    omega (arith, plain_length o i refl, word_and_tokens code (mnemonic_text i) ts tokens, length-append (swap_mnemonic kind) (bits_suffix bits), swap_length kind, bits_length bits)
code_length o (Jump z) code ts tokens h = omega (arith, plain_length o (Jump z) refl, jump_code code ts z tokens h)
code_length o (JumpLong k) code ts tokens h = omega (arith, plain_length o (JumpLong k) refl, word_and_tokens code (codes "ja32") ts tokens)
code_length o (Branch width op d arg z) code ts tokens h =
    let i = Branch width op d arg z in
    omega (arith, plain_length o i refl, word_and_tokens code (mnemonic_text i) ts tokens, length-append (branch_mnemonic op) (width_suffix width), branch_length op, three_tokens ts (register d) (source_operand arg) (signed z ∷ []) h)
code_length o (CallHelper k) code ts tokens h = omega (arith, plain_length o (CallHelper k) refl, word_and_tokens code (codes "call") ts tokens)
code_length o (CallLocal k) code ts tokens h = omega (arith, plain_length o (CallLocal k) refl, word_and_tokens code (codes "call_local") ts tokens)
code_length o (CallBtf k z) code ts tokens h = omega (arith, plain_length o (CallBtf k z) refl, word_and_tokens code (codes "call_btf") ts tokens)
code_length o Exit code ts tokens h = omega (arith, plain_length o Exit refl, word_and_tokens code (codes "exit") ts tokens)
code_length o (Load z d s k) code ts tokens h =
    let i = Load z d s k in
    omega (arith, plain_length o i refl, word_and_tokens code (mnemonic_text i) ts tokens, length-append (codes "ldx") (size_suffix z), size_length z)
code_length o (LoadSigned z d s k) code ts tokens h =
    let i = LoadSigned z d s k in
    omega (arith, plain_length o i refl, word_and_tokens code (mnemonic_text i) ts tokens, length-append (codes "ldxs") (small_size_suffix z))
code_length o (StoreImm z d k n) code ts tokens h =
    let i = StoreImm z d k n in
    omega (arith, plain_length o i refl, word_and_tokens code (mnemonic_text i) ts tokens, length-append (codes "st") (size_suffix z), size_length z, three_tokens ts (memory d k) (number n) [] h)
code_length o (StoreReg z d s k) code ts tokens h =
    let i = StoreReg z d s k in
    omega (arith, plain_length o i refl, word_and_tokens code (mnemonic_text i) ts tokens, length-append (codes "stx") (size_suffix z), size_length z)
code_length o (Atomic width op d s k) code ts tokens h =
    let i = Atomic width op d s k in
    omega (arith, plain_length o i refl, word_and_tokens code (mnemonic_text i) ts tokens, length-append (atomic_mnemonic op) (width_suffix width), atomic_length op)
code_length o (Wide d what) code ts tokens h = omega (arith, at_most_two o (Wide d what), wide_code code ts d what tokens h)
code_length o (PacketAbs z k) code ts tokens h =
    let i = PacketAbs z k in
    omega (arith, plain_length o i refl, word_and_tokens code (mnemonic_text i) ts tokens, length-append (codes "ldabs") (small_size_suffix z))
code_length o (PacketInd z s k) code ts tokens h =
    let i = PacketInd z s k in
    omega (arith, plain_length o i refl, word_and_tokens code (mnemonic_text i) ts tokens, length-append (codes "ldind") (small_size_suffix z))

insn_length : (o : Order) (line : List ℕ) (i : Insn) → ListsInsn line i → length (encoding o i) ≤ 2 * length line
insn_length o line i h = by_tokens h.1.0 h.1.1 h.1.2
  where
    by_tokens : (ts : List (List ℕ)) → AreTokens (code_of line) ts → IsTokenForm ts i → length (encoding o i) ≤ 2 * length line
    by_tokens [] tokens form = absurd form
    by_tokens (t ∷ ts) tokens form =
        let P : List ℕ → Type 0 = λ x. AreTokens (code_of line) (x ∷ ts) in
        omega (arith, code_length o i (code_of line) ts (subst P form.0 tokens) form.1, length-take (position_or_len is_comment_mark line) line)

line_length : (o : Order) (line : List ℕ) (found : List Insn) → ListsLine line found → length (file_of o found) ≤ 2 * length line
line_length o line [] h = omega arith
line_length o line (i ∷ []) h = omega (arith, length-append (encoding o i) [], insn_length o line i h)
line_length o line (i ∷ j ∷ more) h = absurd h

-- ---- listings

abbrev total : List (List ℕ) → ℕ
total [] = 0
total (x ∷ xs) = length x + total xs

onto_total : (x : ℕ) (parts : List (List ℕ)) → total (onto_first x parts) ≡ total parts + 1
onto_total x [] = refl
onto_total x (p ∷ parts) = omega arith

split_total : (p : ℕ → Bool) (xs : List ℕ) → total (slice_split p xs) ≤ length xs
split_total p [] = omega arith
split_total p (x ∷ xs) = by_test (slice_split p xs) (split_total p xs) (p x)
  where
    by_test : (parts : List (List ℕ)) → total parts ≤ length xs → (b : Bool) → total (cond b ([] ∷ parts) (onto_first x parts)) ≤ suc (length xs)
    by_test parts more true = omega (arith, more)
    by_test parts more false = omega (arith, onto_total x parts, more)

lines_length : (o : Order) (lines : List (List ℕ)) (listed : List (List Insn)) → AllZip ListsLine lines listed → length (file_of o (flat_map (λ found. found) listed)) ≤ 2 * total lines
lines_length o [] [] h = omega arith
lines_length o [] (found ∷ listed) h = absurd h
lines_length o (line ∷ lines) [] h = absurd h
lines_length o (line ∷ lines) (found ∷ listed) h =
    let more = flat_map (λ (x : List Insn). x) listed in
    omega (arith, ap length (flat_map-append (encoding o) found more), length-append (file_of o found) (file_of o more), line_length o line found h.0, lines_length o lines listed h.1)

pub listed_fits : (o : Order) (text : List ℕ) (l : List Insn) → Lists text l → length (file_of o l) ≤ 2 * length text
listed_fits o text l h =
    omega (arith, ap (λ x. length (file_of o x)) h.whole, lines_length o (lines_of text) h.listed h.each, split_total is_newline text)
