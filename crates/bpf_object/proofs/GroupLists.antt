-- The groups of a part as a list.
use Rattle.std.proofs.Common.{◌≡◌, ℕ, Option, Some, None, List, [], ◌∷◌, ◌++◌, append_assoc, append-nil, ◌∙◌, ap, sym}
use Rattle.bpf_object.specs.declared.extension.Part.{Part}
use Rattle.bpf_object.specs.Extension.{Section}
use Rattle.bpf_object.specs.private.Cursors.{rest_of}

-- one group more has been found
pub more_found : (s : Section) (p : Part) (found new all : List ℕ) (o : Option ℕ) (g : ℕ) (next : Option ℕ) → o ≡ Some g
    → rest_of s p (Some g) ≡ g ∷ rest_of s p next → found ++ rest_of s p o ≡ all → new ≡ found ++ g ∷ [] → new ++ rest_of s p next ≡ all
more_found s p found new all o g next is step before pushed =
    let split : rest_of s p o ≡ g ∷ rest_of s p next = ap (rest_of s p) is ∙ step in
    rw pushed (append_assoc found (g ∷ []) (rest_of s p next)) ∙ ap (λ (t : List ℕ). found ++ t) (sym split) ∙ before

pub all_found : (s : Section) (p : Part) (found all : List ℕ) (o : Option ℕ) → o ≡ None → found ++ rest_of s p o ≡ all → found ≡ all
all_found s p found all o none before =
    sym (append-nil found) ∙ ap (λ (o : Option ℕ). found ++ rest_of s p o) (sym none) ∙ before
