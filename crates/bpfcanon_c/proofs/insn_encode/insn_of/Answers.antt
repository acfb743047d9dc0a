-- If the record said an instruction, its bytes would be read as that instruction.
use Rattle.std.proofs.Common.{◌≡◌, ◌∙◌, ℕ, true, Ok, length, sym, ap, subst}
use Rattle.bpf_words.specs.declared.Order.{TheVariants.Little}
use Rattle.bpf_insn.specs.declared.insn.Insn.{Insn}
use Rattle.bpf_insn.specs.Encoding.{encoding}
use Rattle.bpfcanon_c.specs.declared.insn_rows.InsnRow.{InsnRow}
use Rattle.bpfcanon_c.specs.InsnRows.{form_row}
use Rattle.bpfcanon_c.specs.InsnEncoding.{SameParts, SameNumbers}
use Rattle.bpfcanon_c.proofs.InsnEncoding.{begins}
use Rattle.bpfcanon_c.proofs.insn_encode.insn_of.Goals as goal
use Rattle.bpfcanon_c.proofs.insn_encode.insn_of.Goals.{else-same_parts-via-then-same_parts+else-same_numbers, else-same_parts-via-else-same_parts}

pub returns-in_default : goal.returns-in_default
returns-in_default c =
    λ i is says.
    let b = begins c.args.row c.raw_bytes-len.result.0 c.raw_bytes-len.result.1 i c.raw_bytes-len.ensures.encoded c.raw_bytes-len.ensures.len is says in
    c.in_default.not-Ok (i, length (encoding Little i)) (c.read_insn.ensures.all i b)

pub returns-else-same_parts : goal.returns-else-same_parts
returns-else-same_parts c =
    λ i is says.
    let b = begins c.args.row c.raw_bytes-len.result.0 c.raw_bytes-len.result.1 i c.raw_bytes-len.ensures.encoded c.raw_bytes-len.ensures.len is says in
    let all : c.read_insn.result ≡ Ok (i, length (encoding Little i)) = c.read_insn.ensures.all i b in
    let was : c.read_insn.result ≡ Ok c.in-Ok.read = c.in-Ok.is in
    let pair : c.in-Ok.read ≡ (i, length (encoding Little i)) = cc in
    let same : i ≡ c.in-Ok.read.0 = sym (ap (λ (r : Insn × ℕ). r.0) pair) in
    let form : form_row i ≡ c.form_row-form.result = ap form_row same ∙ sym c.form_row-form.ensures in
    let parts : SameParts c.args.row c.form_row-form.result = subst (λ (x : InsnRow). SameParts c.args.row x) form says.parts in
    let numbers : SameNumbers c.args.row c.form_row-form.result = subst (λ (x : InsnRow). SameNumbers c.args.row x) form says.numbers in
    let yes : c.same_parts.result ≡ true = c.same_parts.ensures.1 parts in
    elim c.else-same_parts.branch [
      | else-same_parts-via-then-same_parts+else-same_numbers w ↦ let also = w.same_numbers.ensures.1 numbers in let no = w.if-same_numbers.false in cc
      | else-same_parts-via-else-same_parts w ↦ let no = w.if-same_parts.false in cc
    ]
