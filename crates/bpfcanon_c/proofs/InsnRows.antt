-- The records of a list of instructions: one more of them, and how many there are.
use Rattle.std.proofs.Common.{◌≡◌, ◌+◌, ◌++◌, ◌∙◌, ℕ, List, [], ◌∷◌, suc, length, refl, sym, ap, arith, length-append, add-zero}
use Rattle.bpf_words.specs.declared.Order.{Order}
use Rattle.bpf_insn.specs.declared.insn.Insn.{Insn}
use Rattle.bpf_insn.specs.Encoding.{file_of, encoding}
use Rattle.bpfcanon_c.specs.declared.insn_rows.InsnRow.{InsnRow}
use Rattle.bpfcanon_c.specs.InsnRows.{row_at, rows_from}

pub length-rows : (o : Order) (at : ℕ) (l : List Insn) → length (rows_from o at l) ≡ length l
length-rows o at [] = refl
length-rows o at (i ∷ l) = ap suc (length-rows o (at + length (encoding o i)) l)

pub rows_push : (o : Order) (at : ℕ) (l : List Insn) (i : Insn) → rows_from o at (l ++ i ∷ []) ≡ rows_from o at l ++ row_at (at + length (file_of o l)) i ∷ []
rows_push o at [] i = ap (λ (n : ℕ). row_at n i ∷ []) (sym (add-zero at))
rows_push o at (x ∷ l) i =
    ap (λ (rest : List InsnRow). row_at at x ∷ rest) (rows_push o (at + length (encoding o x)) l i ∙ ap (λ (n : ℕ). rows_from o (at + length (encoding o x)) l ++ row_at n i ∷ []) (omega (arith, length-append (encoding o x) (file_of o l))))
