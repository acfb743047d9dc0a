use Rattle.std.proofs.Common.{ℕ, List, ◌++◌, ap, ◌∙◌, arith, rules}
use Rattle.bpf_text.proofs.InsnLemmas.RegisterLemmas.{last_register_is, small_register_is}
use Rattle.bpf_text.proofs.insn.write.Line.register.Goals as goal

pub returns-then-number-lt10-clause-text : goal.returns-then-number-lt10-clause-text
returns-then-number-lt10-clause-text c =
    c.text.ensures ∙ ap (λ (x : List ℕ). x ++ c.args.self.now) (small_register_is c.number-number.result c.args.register.number (search (rules, arith)) c.number-number.ensures)

pub returns-else-number-lt10-clause-text : goal.returns-else-number-lt10-clause-text
returns-else-number-lt10-clause-text c =
    c.text-else-number-lt10.ensures ∙ ap (λ (x : List ℕ). x ++ c.args.self.now) (last_register_is c.args.register.number (search (rules, arith)))
