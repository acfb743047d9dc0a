use Rattle.std.proofs.Common.{◌≡◌, take, sym, ◌∙◌, arith}
use Rattle.bpf_text.specs.insn.Tokens.{code_of}
use Rattle.bpf_text.proofs.InsnLemmas.StrayLemmas.{none_before, mark_ends, whole_is_code, stray_in_code}
use Rattle.bpf_text.proofs.insn.token.known_code.Goals as goal
use Rattle.bpf_text.proofs.insn.token.known_code.Goals.{Joined-else-end-line, else-end-line-via-then-end-line+else-not-is_comment_mark, else-end-line-via-else-end-line}

pub returns-then-not-is_comment_mark-clause-none : goal.returns-then-not-is_comment_mark-clause-none
returns-then-not-is_comment_mark-clause-none c =
    stray_in_code c.args.line.now c.known_len-end.result c.known_len-end.ensures.value c.if-end-line.true (sym c.is_comment_mark.ensures ∙ c.if-not-is_comment_mark.true)

is_code : (c : Joined-else-end-line) → take c.known_len-end.result c.args.line.now ≡ code_of c.args.line.now
is_code c =
    elim c.else-end-line.branch [
      | else-end-line-via-then-end-line+else-not-is_comment_mark w ↦ mark_ends c.args.line.now c.known_len-end.result c.known_len-end.ensures.value w.if-end-line.true (sym w.is_comment_mark.ensures ∙ w.if-not-is_comment_mark.false)
      | else-end-line-via-else-end-line w ↦ whole_is_code c.args.line.now c.known_len-end.result c.known_len-end.ensures.value (omega (arith, w.if-end-line.false, c.known_len-end.ensures.within))
    ]

pub returns-clause-some : goal.returns-clause-some
returns-clause-some c = (is_code c, none_before c.args.line.now c.known_len-end.result c.known_len-end.ensures.value)
