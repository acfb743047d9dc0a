use Rattle.std.proofs.Common.{◌≡◌, ℕ, ◌<◌, get_or}
use Rattle.bpfcanon.specs.{declared.verb.Verb.TheVariants.InsnCanon, Verbs.all_verbs, Verbs.name_of}
use Rattle.bpfcanon.proofs.verb.Verb.named.Given as goal

abbrev pub invariant-loop-verb : goal.invariant-loop-verb
invariant-loop-verb l = (k : ℕ) → k < l.verb-index → l.name ≡ name_of (get_or all_verbs k InsnCanon) → ⊥
