use Rattle.std.proofs.Common.{arith, rules}
use Rattle.bpf_text.proofs.InsnLemmas.RegisterLemmas.{spelled_by_new, two_bytes_spell, three_bytes_spell, not_register}
use Rattle.bpf_text.proofs.insn.read_operand.register_of.Goals as goal

pub returns-in-114-clause-some : goal.returns-in-114-clause-some
returns-in-114-clause-some c =
    spelled_by_new c.args.token.now _ c.new.result (two_bytes_spell c.args.token.now _ (search rules) (search rules) (search rules) (omega arith) (omega arith)) c.new.ensures

pub returns-in-r10-clause-some : goal.returns-in-r10-clause-some
returns-in-r10-clause-some c =
    spelled_by_new c.args.token.now _ c.new-in-r10.result (three_bytes_spell c.args.token.now (search rules) (search rules) (search rules) (search rules) (search rules)) c.new-in-r10.ensures

pub returns-in_default-clause-none : goal.returns-in_default-clause-none
returns-in_default-clause-none c = not_register c.args.token.now (λ l a b d. omega arith) (λ l a b d. omega arith)

pub returns-in_default-2-clause-none : goal.returns-in_default-2-clause-none
returns-in_default-2-clause-none c = not_register c.args.token.now (λ l a b d. omega arith) (λ l a b d. omega arith)

pub returns-in_default-3-clause-none : goal.returns-in_default-3-clause-none
returns-in_default-3-clause-none c = not_register c.args.token.now (λ l a b d. omega arith) (λ l a b d. omega arith)

pub returns-in_default-5-clause-none : goal.returns-in_default-5-clause-none
returns-in_default-5-clause-none c = not_register c.args.token.now (λ l a b d. omega arith) (λ l a b d. omega arith)

pub returns-in_default-6-clause-none : goal.returns-in_default-6-clause-none
returns-in_default-6-clause-none c = not_register c.args.token.now (λ l a b d. omega arith) (λ l a b d. omega arith)

pub returns-in_default-8-clause-none : goal.returns-in_default-8-clause-none
returns-in_default-8-clause-none c = not_register c.args.token.now (λ l a b d. omega arith) (λ l a b d. omega arith)
