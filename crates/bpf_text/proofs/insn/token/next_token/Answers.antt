use Rattle.std.proofs.Common.{arith}
use Rattle.bpf_text.proofs.InsnLemmas.TokenLemmas.{all_blank, word_starts, symbol_starts, empty_from_test, some_from_test}
use Rattle.bpf_text.proofs.insn.token.next_token.Goals as goal
use Rattle.bpf_text.proofs.insn.token.next_token.Goals.{then-run-eq0, else-run-eq0}

pub returns-then-is_empty-clause-none : goal.returns-then-is_empty-clause-none
returns-then-is_empty-clause-none c =
    all_blank c.args.bytes.now c.split_at.result.1.now c.blank_len.result c.blank_len.ensures.value c.split_at.ensures.back (empty_from_test c.split_at.result.1.now _ c.is_empty.ensures c.if-is_empty.true)

pub returns-clause-some : goal.returns-clause-some
returns-clause-some c =
    let rest = c.split_at.result.1.now in
    let len = c.if-run-eq0.split_at in
    elim c.if-run-eq0.branch [
      | then-run-eq0 w ↦ symbol_starts c.args.bytes.now rest c.split_at-2.result.0.now c.split_at-2.result.1.now c.blank_len.result c.word_len-run.result len c.requires c.blank_len.ensures.value c.split_at.ensures.back (some_from_test rest _ c.is_empty.ensures c.if-is_empty.false) c.word_len-run.ensures.value w.if-run-eq0.true w.split_at-is c.split_at-2.ensures.front c.split_at-2.ensures.back
      | else-run-eq0 w ↦ word_starts c.args.bytes.now rest c.split_at-2.result.0.now c.split_at-2.result.1.now c.blank_len.result c.word_len-run.result len c.blank_len.ensures.value c.split_at.ensures.back c.word_len-run.ensures.value (omega (arith, w.if-run-eq0.false)) w.split_at-is c.split_at-2.ensures.front c.split_at-2.ensures.back
    ]
