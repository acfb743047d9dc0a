use Rattle.std.proofs.Common.{◌≡◌, ℕ, ◌<◌, get_or, refl, sym, ap, ◌∙◌, arith}
use Rattle.bpfcanon.specs.{declared.verb.Verb.Verb, Verbs.all_verbs, Verbs.name_of}
use Rattle.bpfcanon.specs.declared.verb.Verb.TheVariants.{InsnCanon, InsnShow, InsnRead, InsnGroups, InsnSame, BtfCanon, BtfShow, BtfCheck, BtfSame}
use Rattle.bpfcanon.proofs.verb.Verb.named.Goals as goal

-- each command is in the list of all
listed : (verb : Verb) → (k : ℕ) × (k < 9) × (get_or all_verbs k InsnCanon ≡ verb)
listed InsnCanon = (0, omega arith, refl)
listed InsnShow = (1, omega arith, refl)
listed InsnRead = (2, omega arith, refl)
listed InsnGroups = (3, omega arith, refl)
listed InsnSame = (4, omega arith, refl)
listed BtfCanon = (5, omega arith, refl)
listed BtfShow = (6, omega arith, refl)
listed BtfCheck = (7, omega arith, refl)
listed BtfSame = (8, omega arith, refl)

pub returns-clause-none : goal.returns-clause-none
returns-clause-none c = λ none verb e.
    let at = listed verb in
    c.loop-verb.invariant at.0 (omega arith) (e ∙ ap name_of (sym at.2))
