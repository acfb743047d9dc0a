use Rattle.std.proofs.Common.{sym, ◌∙◌, arith}
use Rattle.bpf_text.proofs.InsnLemmas.OperandsLemmas.{part_found, part_whole}
use Rattle.bpf_text.proofs.insn.read_operand.part_end.Goals as goal

pub returns-then-is_comma-clause-value : goal.returns-then-is_comma-clause-value
returns-then-is_comma-clause-value c =
    part_found c.args.tokens.now c.args.start c.loop-i.i _ (omega arith) c.loop-i-test.true c.loop-i.invariant (sym c.is_comma.ensures ∙ c.if-is_comma.true)

pub returns-clause-value : goal.returns-clause-value
returns-clause-value c = part_whole c.args.tokens.now c.args.start c.requires (λ k d l h. c.loop-i.invariant k d l (omega arith))
