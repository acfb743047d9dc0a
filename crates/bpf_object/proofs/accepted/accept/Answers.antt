use Rattle.std.proofs.Common.{ℕ, List, sym, subst}
use Rattle.bpf_object.specs.Denotes.{Denotes}
use Rattle.bpf_object.proofs.accepted.accept.Goals as goal

pub invariant_of-result : goal.invariant_of-result
invariant_of-result g c =
    let found = c.in_ok-canon_object.ensures.found in
    (found.0, subst (λ (b : List ℕ). Denotes b found.0) (sym c.in_ok-elf.ensures.1) found.1.0)
