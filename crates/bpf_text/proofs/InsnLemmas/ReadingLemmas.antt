-- From a mnemonic and operands to what the tokens list.
use Rattle.std.proofs.Common.{◌≡◌, ◌≢◌, ℕ, pos, List, [], ◌∷◌, map, refl, sym, ap, ◌∙◌, subst, Result, Ok, Err, MatchResult, Option, Some, ◌<◌, ◌≤◌, false, length, arith}
use Rattle.bpf_text.specs.insn.Tokens.{code_of, is_stray, StartsWithToken, AreTokens}
use Rattle.std.specs.{List.AllZip, List.slice_split, List.list_any, Option.option_to_list, Prelude.IsOkAnd}
use Rattle.bpf_insn.specs.declared.insn.{Insn.Insn}
use Rattle.bpf_insn.specs.declared.insn.Insn.TheVariants as insn
use Rattle.bpf_insn.specs.declared.insn.Operand.TheVariants as arg
use Rattle.bpf_insn.specs.Table.{IsImm, IsInsn, IsOffset}
use Rattle.bpf_insn.specs.declared.insn.WideOf.TheVariants as of
use Rattle.bpf_text.specs.declared.insn.fault.LineCause.{LineCause, TheVariants.Char, TheVariants.Word, TheVariants.Shape, TheVariants.Range}
use Rattle.bpf_text.specs.{declared.insn.mnemonic.Mnemonic.Mnemonic, insn.Table.mnemonic_text, insn.Table.operands_of, insn.Reading.ReadsTokens}
use Rattle.bpf_text.specs.insn.Operands.{LineOperand, register, operand_kind, SpellsOperand, SpellsOperands, is_comma}
use Rattle.bpf_text.specs.insn.{Mnemonics.mnemonic_of, Mnemonics.text_of_mnemonic, OperandFields.plain, OperandFields.ReadsInsn}
use Rattle.bpf_text.specs.insn.Listing.{IsMnemonic, IsForm, ListsInsn, ListsLine, IsCause}
use Rattle.bpf_text.proofs.InsnLemmas.{Bounds.tokens_bound, Bounds.form_bound, OperandFieldsLemmas.plain_kinds}
use Rattle.bpf_text.proofs.InsnLemmas.MakeTable.{some_insn}
use Rattle.bpf_text.proofs.InsnLemmas.{TokensExist.tokens_exist, OneOperand.one_operands, EachMnemonic.one_mnemonic, OneInsn.mnemonic_text_is}

zero_imm : IsImm (pos 0)
zero_imm = omega arith

zero_offset : IsOffset (pos 0)
zero_offset = omega arith

-- an instruction in range that has the mnemonic and the kinds of operands of another one
abbrev InRange : Insn → Type 0
InRange i = (j : Insn) × IsInsn j × (mnemonic_text i ≡ mnemonic_text j) × (map operand_kind (operands_of i) ≡ map operand_kind (operands_of j))

-- the same instruction with zeros for its numbers
with_zeros : (i : Insn) → InRange i
with_zeros (insn.Alu width op d (arg.Imm k)) = (insn.Alu width op d (arg.Imm (pos 0)), (d.in_range, zero_imm), refl, refl)
with_zeros (insn.Alu width op d (arg.Reg r)) = (insn.Alu width op d (arg.Reg r), (d.in_range, r.in_range), refl, refl)
with_zeros (insn.Movsx form d s) = (insn.Movsx form d s, (d.in_range, s.in_range), refl, refl)
with_zeros (insn.Neg width d) = (insn.Neg width d, d.in_range, refl, refl)
with_zeros (insn.Swap k bits d) = (insn.Swap k bits d, d.in_range, refl, refl)
with_zeros (insn.Jump o) = (insn.Jump (pos 0), zero_offset, refl, refl)
with_zeros (insn.JumpLong k) = (insn.JumpLong (pos 0), zero_imm, refl, refl)
with_zeros (insn.Branch width op d (arg.Imm k) o) = (insn.Branch width op d (arg.Imm (pos 0)) (pos 0), (d.in_range, zero_imm, zero_offset), refl, refl)
with_zeros (insn.Branch width op d (arg.Reg r) o) = (insn.Branch width op d (arg.Reg r) (pos 0), (d.in_range, r.in_range, zero_offset), refl, refl)
with_zeros (insn.CallHelper k) = (insn.CallHelper (pos 0), zero_imm, refl, refl)
with_zeros (insn.CallLocal k) = (insn.CallLocal (pos 0), zero_imm, refl, refl)
with_zeros (insn.CallBtf k o) = (insn.CallBtf (pos 0) (pos 0), (zero_imm, zero_offset), refl, refl)
with_zeros insn.Exit = (insn.Exit, tt, refl, refl)
with_zeros (insn.Load z d s o) = (insn.Load z d s (pos 0), (d.in_range, s.in_range, zero_offset), refl, refl)
with_zeros (insn.LoadSigned z d s o) = (insn.LoadSigned z d s (pos 0), (d.in_range, s.in_range, zero_offset), refl, refl)
with_zeros (insn.StoreImm z d o k) = (insn.StoreImm z d (pos 0) (pos 0), (d.in_range, zero_offset, zero_imm), refl, refl)
with_zeros (insn.StoreReg z d s o) = (insn.StoreReg z d s (pos 0), (d.in_range, s.in_range, zero_offset), refl, refl)
with_zeros (insn.Atomic width op d s o) = (insn.Atomic width op d s (pos 0), (d.in_range, s.in_range, zero_offset), refl, refl)
with_zeros (insn.Wide d (of.Number n)) = (insn.Wide d (of.Number 0), (d.in_range, omega arith), refl, refl)
with_zeros (insn.Wide d (of.MapFd k)) = (insn.Wide d (of.MapFd (pos 0)), (d.in_range, zero_imm), refl, refl)
with_zeros (insn.Wide d (of.MapValueFd k m)) = (insn.Wide d (of.MapValueFd (pos 0) (pos 0)), (d.in_range, (zero_imm, zero_imm)), refl, refl)
with_zeros (insn.Wide d (of.VarAddr k m)) = (insn.Wide d (of.VarAddr (pos 0) (pos 0)), (d.in_range, (zero_imm, zero_imm)), refl, refl)
with_zeros (insn.Wide d (of.CodeAddr k)) = (insn.Wide d (of.CodeAddr (pos 0)), (d.in_range, zero_imm), refl, refl)
with_zeros (insn.Wide d (of.MapIdx k)) = (insn.Wide d (of.MapIdx (pos 0)), (d.in_range, zero_imm), refl, refl)
with_zeros (insn.Wide d (of.MapValueIdx k m)) = (insn.Wide d (of.MapValueIdx (pos 0) (pos 0)), (d.in_range, (zero_imm, zero_imm)), refl, refl)
with_zeros (insn.PacketAbs z k) = (insn.PacketAbs z (pos 0), zero_imm, refl, refl)
with_zeros (insn.PacketInd z s k) = (insn.PacketInd z s (pos 0), (s.in_range, zero_imm), refl, refl)

-- tokens that spell an operand spell it however its sign is written
to_plain : (ts : List (List ℕ)) (a : LineOperand) → SpellsOperand ts a → SpellsOperand ts (plain a)
to_plain ts (register r) h = h
to_plain ts _ h = h

from_plain : (ts : List (List ℕ)) (a : LineOperand) → SpellsOperand ts (plain a) → SpellsOperand ts a
from_plain ts (register r) h = h
from_plain ts _ h = h

respell : (ts : List (List ℕ)) (a b : LineOperand) → plain a ≡ plain b → SpellsOperand ts b → SpellsOperand ts a
respell ts a b e h = from_plain ts a (subst (SpellsOperand ts) (sym e) (to_plain ts b h))

respell_zip : (tss : List (List (List ℕ))) (xs ys : List LineOperand) → map plain xs ≡ map plain ys → AllZip SpellsOperand tss ys → AllZip SpellsOperand tss xs
respell_zip [] [] [] e h = tt
respell_zip (t ∷ ts) (x ∷ xs) (y ∷ ys) e h =
    let first : plain x ≡ plain y = cc in
    let more : map plain xs ≡ map plain ys = cc in
    (respell t x y first h.0, respell_zip ts xs ys more h.1)
respell_zip _ [] [] e h = absurd h
respell_zip _ [] (y ∷ ys) e h = cc
respell_zip _ (x ∷ xs) [] e h = cc
respell_zip _ (x ∷ xs) (y ∷ ys) e h = absurd h

respell_all : (ts : List (List ℕ)) (xs ys : List LineOperand) → map plain xs ≡ map plain ys → SpellsOperands ts ys → SpellsOperands ts xs
respell_all ts [] [] e h = h
respell_all ts (x ∷ xs) (y ∷ ys) e h = respell_zip (slice_split is_comma ts) (x ∷ xs) (y ∷ ys) e h
respell_all ts _ _ e h = cc

kinds_of : (xs ys : List LineOperand) → map plain xs ≡ map plain ys → map operand_kind xs ≡ map operand_kind ys
kinds_of xs ys e = plain_kinds xs ∙ ap (map operand_kind) e ∙ sym (plain_kinds ys)

named : (word : List ℕ) (m : Mnemonic) (i : Insn) → word ≡ text_of_mnemonic m → word ≡ mnemonic_text i → mnemonic_of i ≡ m
named word m i e f = one_mnemonic (mnemonic_of i) m (sym (mnemonic_text_is i) ∙ sym f ∙ e)

worded : (word : List ℕ) (m : Mnemonic) (i : Insn) → word ≡ text_of_mnemonic m → mnemonic_of i ≡ m → word ≡ mnemonic_text i
worded word m i e f = e ∙ ap text_of_mnemonic (sym f) ∙ sym (mnemonic_text_is i)

pub is_mnemonic : (word : List ℕ) (m : Mnemonic) → word ≡ text_of_mnemonic m → IsMnemonic word
is_mnemonic word m e =
    let w = some_insn m in
    let v = with_zeros w.0 in
    (v.0, v.1, worded word m w.0 e w.1 ∙ v.2)

pub no_mnemonic : (word : List ℕ) → ((m : Mnemonic) → word ≢ text_of_mnemonic m) → ¬ IsMnemonic word
no_mnemonic word none = λ w. none (mnemonic_of w.0) (w.2 ∙ mnemonic_text_is w.0)

-- too many tokens
pub no_form_of_many : (word : List ℕ) (ts : List (List ℕ)) → 17 < length ts → ¬ IsForm word ts
no_form_of_many word ts many = λ w. omega (arith, tokens_bound ts w.3.0 (form_bound word ts w) w.3.2)

-- tokens that don't spell the operands of an instruction
pub no_form : (word : List ℕ) (ts : List (List ℕ)) → ((spelled : List LineOperand) → length spelled ≤ 3 → ¬ SpellsOperands ts spelled) → ¬ IsForm word ts
no_form word ts none = λ w. none w.3.0 (form_bound word ts w) w.3.2

module _ (word : List ℕ) (ts : List (List ℕ)) (m : Mnemonic) (e : word ≡ text_of_mnemonic m) (spelled : List LineOperand) (spells : SpellsOperands ts spelled) where
  pub tokens_read : (r : Result Insn LineCause) → ReadsInsn m spelled r → ReadsTokens word ts r
  tokens_read (Ok i) h = (h.0, (worded word m i e h.1, respell_all ts (operands_of i) spelled (sym h.2) spells))
  tokens_read (Err Shape) h = (
    is_mnemonic word m e,
    (λ w. h w.0 (named word m w.0 e w.2) (kinds_of spelled w.3.0 (one_operands ts spelled w.3.0 spells w.3.2) ∙ w.3.1)),
  )
  tokens_read (Err Range) h =
      let v = with_zeros h.0.0 in (
        (v.0, v.1, worded word m h.0.0 e h.0.1 ∙ v.2, (spelled, h.0.2 ∙ v.3, spells)),
        (λ i valid f. h.1 i valid (named word m i e f.0) (one_operands ts spelled (operands_of i) spells f.1)),
      )
  tokens_read (Err _) h = absurd h

-- the result for the first token and the others is the result for the line
module _ (line word rest : List ℕ) (starts : StartsWithToken (code_of line) word rest) where
  line_cause : (cause : LineCause) → ((ts : List (List ℕ)) → AreTokens rest ts → ReadsTokens word ts (Err cause)) → list_any is_stray rest ≡ false → IsCause line cause
  line_cause cause reads none = let more = tokens_exist rest none in holds cause more.0 more.1 (reads more.0 more.1)
    where
      holds : (c : LineCause) (ts : List (List ℕ)) → AreTokens rest ts → ReadsTokens word ts (Err c) → IsCause line c
      holds Char ts t h = absurd h
      holds Word ts t h = (word, ts, (rest, starts, t), h)
      holds _ ts t h = (word, ts, (rest, starts, t), h.0, h.1)

  line_insn : (i : Insn) → ((ts : List (List ℕ)) → AreTokens rest ts → ReadsTokens word ts (Ok i)) → list_any is_stray rest ≡ false → ListsInsn line i
  line_insn i reads none =
      let more = tokens_exist rest none in
      let h = reads more.0 more.1 in
      (h.0, (word ∷ more.0, (rest, starts, more.1), h.1))

  -- likewise for the result in which the instruction is an option
  pub line_mapped : {Post : Insn → Option Insn → Type 0} (r : Result Insn LineCause) (s : Result (Option Insn) LineCause)
      → MatchResult r (λ i. IsOkAnd s (Post i)) (λ e. s ≡ Err e) → ((i : Insn) (found : Option Insn) → Post i found → found ≡ Some i)
      → ((ts : List (List ℕ)) → AreTokens rest ts → ReadsTokens word ts r) → list_any is_stray rest ≡ false
      → MatchResult s (λ found. ListsLine line (option_to_list found)) (IsCause line)
  line_mapped (Ok i) (Ok found) made some reads none = subst (λ (o : Option Insn). ListsLine line (option_to_list o)) (sym (some i found made)) (line_insn i reads none)
  line_mapped (Ok i) (Err e) made some reads none = absurd made
  line_mapped (Err e) s made some reads none =
      subst (λ (t : Result (Option Insn) LineCause). MatchResult t (λ found. ListsLine line (option_to_list found)) (IsCause line)) (sym made) (line_cause e reads none)
