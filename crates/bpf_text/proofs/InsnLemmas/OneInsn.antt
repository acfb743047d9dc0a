-- A line lists at most one instruction, and an input at most one list of them.
use Rattle.std.proofs.Common.{◌≡◌, ℕ, List, [], ◌∷◌, refl, sym, ap, ◌∙◌, map}
use Rattle.std.specs.List.{AllZip, flat_map}
use Rattle.bpf_insn.specs.declared.insn.{Operand.TheVariants.Imm, Insn.Insn}
use Rattle.bpf_insn.specs.declared.insn.WideOf.TheVariants.{Number}
use Rattle.bpf_insn.specs.declared.insn.Insn.TheVariants.{Alu, Branch, Exit, Wide}
use Rattle.bpf_text.specs.insn.{Table.mnemonic_text, Table.operands_of, Mnemonics.mnemonic_of, Mnemonics.text_of_mnemonic}
use Rattle.bpf_text.specs.insn.{Tokens.code_of, Tokens.AreTokens, OperandFields.plain}
use Rattle.bpf_text.specs.insn.Listing.{lines_of, IsTokenForm, ListsInsn, ListsLine, Lists}
use Rattle.bpf_text.proofs.InsnLemmas.{EachMnemonic.one_mnemonic, OneOperand.one_operands, OneReading.one_tokens}

pub mnemonic_text_is : (i : Insn) → mnemonic_text i ≡ text_of_mnemonic (mnemonic_of i)
mnemonic_text_is (Wide d (Number n)) = refl
mnemonic_text_is _ = refl

-- the mnemonic and the operands determine the instruction
same_insn : (i j : Insn) → mnemonic_of i ≡ mnemonic_of j → map plain (operands_of i) ≡ map plain (operands_of j) → i ≡ j
same_insn (Alu width op d (Imm k)) Exit names fields = cc
same_insn (Branch width op d (Imm k) o) Exit names fields = cc
same_insn (Wide d (Number n)) Exit names fields = cc
same_insn _ (Alu width op d (Imm k)) names fields = cc
same_insn _ (Branch width op d (Imm k) o) names fields = cc
same_insn _ (Wide d (Number n)) names fields = cc
same_insn _ _ names fields = cc

pub one_form : (ts : List (List ℕ)) (i j : Insn) → IsTokenForm ts i → IsTokenForm ts j → i ≡ j
one_form [] i j h k = absurd h
one_form (word ∷ ts) i j h k =
    same_insn i j (one_mnemonic (mnemonic_of i) (mnemonic_of j) (sym (mnemonic_text_is i) ∙ sym h.0 ∙ k.0 ∙ mnemonic_text_is j)) (one_operands ts (operands_of i) (operands_of j) h.1 k.1)

one_insn : (line : List ℕ) (i j : Insn) → ListsInsn line i → ListsInsn line j → i ≡ j
one_insn line i j h k =
    let same = one_tokens (code_of line) k.1.0 h.1.0 k.1.1 h.1.1 in
    one_form h.1.0 i j h.1.2 (rw same at k.1.2)

no_insn : (line : List ℕ) (i : Insn) → AreTokens (code_of line) [] → ListsInsn line i → ⊥
no_insn line i h k =
    let same = one_tokens (code_of line) k.1.0 [] k.1.1 h in
    rw same at k.1.2

pub one_line : (line : List ℕ) (f g : List Insn) → ListsLine line f → ListsLine line g → f ≡ g
one_line line [] [] h k = refl
one_line line [] (j ∷ []) h k = absurd (no_insn line j h k)
one_line line (i ∷ []) [] h k = absurd (no_insn line i k h)
one_line line (i ∷ []) (j ∷ []) h k = ap (λ x. x ∷ []) (one_insn line i j h k)
one_line line (i ∷ i' ∷ more) g h k = absurd h
one_line line f _ h k = absurd k

one_zip : (lines : List (List ℕ)) (f g : List (List Insn)) → AllZip ListsLine lines f → AllZip ListsLine lines g → f ≡ g
one_zip [] [] [] h k = refl
one_zip (l ∷ lines) (x ∷ f) (y ∷ g) h k =
    let first : x ≡ y = one_line l x y h.0 k.0 in
    let more : f ≡ g = one_zip lines f g h.1 k.1 in cc
one_zip [] [] _ h k = absurd k
one_zip (l ∷ lines) (x ∷ f) _ h k = absurd k
one_zip _ _ g h k = absurd h

-- an input lists at most one list
pub one_listing : (text : List ℕ) (l m : List Insn) → Lists text l → Lists text m → l ≡ m
one_listing text l m h k = h.whole ∙ ap (flat_map (λ found. found)) (one_zip (lines_of text) h.listed k.listed h.each k.each) ∙ sym k.whole
