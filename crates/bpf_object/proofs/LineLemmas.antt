-- The group and the record of a line.
use Rattle.std.proofs.Common.{◌≡◌, ℕ, ◌<◌, Bool, false, Option, Some, ◌∷◌, length, refl, ap, ◌∙◌, arith}
use Rattle.std.specs.List.{find}
use Rattle.std.proofs.lemmas.Bool.Decides.{nat_tests}
use Rattle.bpf_object.specs.declared.{extension.Part.Part, source.Source.Source}
use Rattle.bpf_object.specs.private.Cursors.{rest_of}
use Rattle.bpf_object.specs.Extension.{Section, group_name}
use Rattle.bpf_object.specs.Sources.{section, HasGroup}

-- ---- the first group that passes a test

pub found_after : (s : Section) (p : Part) (test : ℕ → Bool) (o : Option ℕ) (g : ℕ) (next : Option ℕ) → o ≡ Some g → rest_of s p (Some g) ≡ g ∷ rest_of s p next
    → test g ≡ false → find test (rest_of s p o) ≡ find test (rest_of s p next)
found_after s p test o g next is step h = ap (λ (o : Option ℕ). find test (rest_of s p o)) is ∙ ap (find test) step ∙ rw h refl

-- ---- the name of a group

pub name_there : (x : Source) (p : Part) (g : ℕ) → HasGroup x p g → group_name (section x) g < length x.strings.now
name_there x p g has = let named = has.named in grind (arith, nat_tests)
