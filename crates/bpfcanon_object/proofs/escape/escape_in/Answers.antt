use Rattle.std.proofs.Common.{inl, inr, sym, ap, arith, rules, Some}
use Rattle.bpfcanon_object.proofs.UnescapeLemmas.{escape_by, escape_more}
use Rattle.bpfcanon_object.proofs.escape.escape_in.Goals as goal

-- the second character of an escape says which one it is
pub returns-in_err-next-clause-all : goal.returns-in_err-next-clause-all
returns-in_err-next-clause-all c = λ char behind e. escape_more char _ behind c.in_err-next.ensures.steps.0.0 e

pub returns-in-92-clause-all : goal.returns-in-92-clause-all
returns-in-92-clause-all c = λ char behind e.
    let by = escape_by c.in_ok-next.field-0 char _ _ behind c.in_ok-next.ensures.steps.0 e in
    let is = c.in-92.is in
    elim by [
      | inl h ↦ (ap Some (sym h.1), h.2)
      | inr (inl h) ↦ absurd (omega (arith, is, h.0))
      | inr (inr (inl h)) ↦ absurd (omega (arith, is, h.0))
      | inr (inr (inr (inl h))) ↦ absurd (omega (arith, is, h.0))
      | inr (inr (inr (inr h))) ↦ absurd (omega (arith, is, h.0))
    ]

pub returns-in-n-clause-all : goal.returns-in-n-clause-all
returns-in-n-clause-all c = λ char behind e.
    let by = escape_by c.in_ok-next.field-0 char _ _ behind c.in_ok-next.ensures.steps.0 e in
    let is = c.in-n.is in
    elim by [
      | inl h ↦ absurd (omega (arith, is, h.0))
      | inr (inl h) ↦ (ap Some (sym h.1), h.2)
      | inr (inr (inl h)) ↦ absurd (omega (arith, is, h.0))
      | inr (inr (inr (inl h))) ↦ absurd (omega (arith, is, h.0))
      | inr (inr (inr (inr h))) ↦ absurd (omega (arith, is, h.0))
    ]

pub returns-in-r-clause-all : goal.returns-in-r-clause-all
returns-in-r-clause-all c = λ char behind e.
    let by = escape_by c.in_ok-next.field-0 char _ _ behind c.in_ok-next.ensures.steps.0 e in
    let is = c.in-r.is in
    elim by [
      | inl h ↦ absurd (omega (arith, is, h.0))
      | inr (inl h) ↦ absurd (omega (arith, is, h.0))
      | inr (inr (inl h)) ↦ (ap Some (sym h.1), h.2)
      | inr (inr (inr (inl h))) ↦ absurd (omega (arith, is, h.0))
      | inr (inr (inr (inr h))) ↦ absurd (omega (arith, is, h.0))
    ]

pub returns-in-x-clause-all : goal.returns-in-x-clause-all
returns-in-x-clause-all c = λ char behind e.
    let by = escape_by c.in_ok-next.field-0 char _ _ behind c.in_ok-next.ensures.steps.0 e in
    let is = c.in-x.is in
    elim by [
      | inl h ↦ absurd (omega (arith, is, h.0))
      | inr (inl h) ↦ absurd (omega (arith, is, h.0))
      | inr (inr (inl h)) ↦ absurd (omega (arith, is, h.0))
      | inr (inr (inr (inl h))) ↦ c.control_in.ensures.all char behind h.1 h.2
      | inr (inr (inr (inr h))) ↦ absurd (omega (arith, is, h.0))
    ]

pub returns-in-u-clause-all : goal.returns-in-u-clause-all
returns-in-u-clause-all c = λ char behind e.
    let by = escape_by c.in_ok-next.field-0 char _ _ behind c.in_ok-next.ensures.steps.0 e in
    let is = c.in-u.is in
    elim by [
      | inl h ↦ absurd (omega (arith, is, h.0))
      | inr (inl h) ↦ absurd (omega (arith, is, h.0))
      | inr (inr (inl h)) ↦ absurd (omega (arith, is, h.0))
      | inr (inr (inr (inl h))) ↦ absurd (omega (arith, is, h.0))
      | inr (inr (inr (inr h))) ↦ c.format_in.ensures.all char behind h.1 h.2
    ]

pub returns-in_default-clause-all : goal.returns-in_default-clause-all
returns-in_default-clause-all c = λ char behind e.
    let by = escape_by c.in_ok-next.field-0 char _ _ behind c.in_ok-next.ensures.steps.0 e in
    elim by [
      | inl h ↦ absurd (search rules)
      | inr (inl h) ↦ absurd (search rules)
      | inr (inr (inl h)) ↦ absurd (search rules)
      | inr (inr (inr (inl h))) ↦ absurd (search rules)
      | inr (inr (inr (inr h))) ↦ absurd (search rules)
    ]
