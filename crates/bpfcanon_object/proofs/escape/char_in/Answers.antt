use Rattle.std.proofs.Common.{◌≡◌, sym, ap, ◌∙◌, rules, Some}
use Rattle.bpfcanon_object.proofs.UnescapeLemmas.{plain-same, text_more}
use Rattle.bpfcanon_object.proofs.escape.char_in.Goals as goal

pub returns-in_err-c-clause-all : goal.returns-in_err-c-clause-all
returns-in_err-c-clause-all c = λ char behind e. text_more char _ behind c.in_err-c.ensures.steps.0.0 e

pub returns-in_default-clause-all : goal.returns-in_default-clause-all
returns-in_default-clause-all c = λ char behind e.
    let plain : c.in_ok-c.c ≡ 92 → ⊥ = search rules in
    let same = plain-same c.in_ok-c.c char _ behind plain (sym c.in_ok-c.ensures.steps.0 ∙ e) in
    (ap Some same.0, same.1)
