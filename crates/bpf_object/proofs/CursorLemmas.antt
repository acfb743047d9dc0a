-- The groups that a loop over a part has left.
use Rattle.std.proofs.Common.{◌≡◌, ℕ, zero, suc, ◌+◌, ◌<◌, ◌≤◌, ◌==◌, true, false, inl, inr, Option, Some, List, ◌∷◌, length, refl, ap, ◌∙◌, subst, arith}
use Rattle.std.specs.Prelude.{nat_lt}
use Rattle.std.specs.List.{All}
use Rattle.std.proofs.lemmas.Bool.{cases_lt}
use Rattle.std.proofs.lemmas.Bool.Decides.{nat_tests}
use Rattle.std.proofs.lemmas.List.Elements.{All-head, All-tail}
use Rattle.bpf_object.specs.declared.{extension.Part.Part, source.Source.Source}
use Rattle.bpf_object.specs.Extension.{Section, part_len, part_start, part_end, next_group, groups_from, groups}
use Rattle.bpf_object.specs.private.Cursors.{rest_of}
use Rattle.bpf_object.specs.Sources.{section, HasGroup}

-- ---- the groups don't depend on a number that is at least theirs

-- a group has 8 bytes before its records
moved : (s : Section) (p : Part) (g : ℕ) → g + 8 ≤ next_group s p g
moved s p g = omega arith

pub same_groups : (s : Section) (p : Part) (n m g : ℕ) → 0 < n → 0 < m → part_end s p ≤ g + n → part_end s p ≤ g + m → groups_from s p n g ≡ groups_from s p m g
same_groups s p zero m g some others enough also = absurd (omega (arith, some))
same_groups s p (suc n) zero g some others enough also = absurd (omega (arith, others))
same_groups s p (suc n) (suc m) g some others enough also =
    elim (cases_lt (next_group s p g) (part_end s p)) [
      | inl below ↦
          let step = moved s p g in
          let there : nat_lt (next_group s p g) (part_end s p) ≡ true = grind (arith, nat_tests) in
          let after = same_groups s p n m (next_group s p g) (omega (arith, enough, step, below)) (omega (arith, also, step, below))
          (omega (arith, enough, step)) (omega (arith, also, step)) in
          rw there (ap (λ gs. g ∷ gs) after)
      | inr from ↦
          let there : nat_lt (next_group s p g) (part_end s p) ≡ false = grind (arith, nat_tests) in
          rw there refl
    ]

-- the groups after a group, if there are any
pub rest_more : (s : Section) (p : Part) (g : ℕ) → next_group s p g < part_end s p → rest_of s p (Some g) ≡ g ∷ rest_of s p (Some (next_group s p g))
rest_more s p g below =
    let step = moved s p g in
    let there : nat_lt (next_group s p g) (part_end s p) ≡ true = grind (arith, nat_tests) in
    let after = same_groups s p (part_end s p) (suc (part_end s p)) (next_group s p g) (omega (arith, step, below)) (omega arith) (omega arith) (omega arith) in
    rw there (ap (λ gs. g ∷ gs) after)

-- the groups of a part that isn't empty
pub all_groups : (s : Section) (p : Part) → 0 < part_len s p → rest_of s p (Some (part_start s p + 4)) ≡ groups s p
all_groups s p some =
    let other : (part_len s p == 0) ≡ false = grind (arith, nat_tests) in
    rw other (same_groups s p (suc (part_end s p)) (part_len s p) (part_start s p + 4) (omega arith) some (omega arith) (omega arith))

-- ---- one step of a loop

pub group_there : (x : Source) (p : Part) (o : Option ℕ) (g : ℕ) → o ≡ Some g → All (HasGroup x p) (rest_of (section x) p o) → HasGroup x p g
group_there x p o g is all =
    let here : All (HasGroup x p) (rest_of (section x) p (Some g)) = subst (λ (o : Option ℕ). All (HasGroup x p) (rest_of (section x) p o)) is all in
    All-head (HasGroup x p) g _ here

pub groups_after : (x : Source) (p : Part) (o : Option ℕ) (g : ℕ) (next : Option ℕ) → o ≡ Some g
    → rest_of (section x) p (Some g) ≡ g ∷ rest_of (section x) p next → All (HasGroup x p) (rest_of (section x) p o) → All (HasGroup x p) (rest_of (section x) p next)
groups_after x p o g next is step all =
    let here : All (HasGroup x p) (rest_of (section x) p (Some g)) = subst (λ (o : Option ℕ). All (HasGroup x p) (rest_of (section x) p o)) is all in
    let split : All (HasGroup x p) (g ∷ rest_of (section x) p next) = subst (λ (gs : List ℕ). All (HasGroup x p) gs) step here in
    All-tail (HasGroup x p) g (rest_of (section x) p next) split

pub fewer_groups : (s : Section) (p : Part) (o : Option ℕ) (g : ℕ) (next : Option ℕ) → o ≡ Some g → rest_of s p (Some g) ≡ g ∷ rest_of s p next
    → length (rest_of s p next) < length (rest_of s p o)
fewer_groups s p o g next is step =
    let same : rest_of s p o ≡ g ∷ rest_of s p next = ap (rest_of s p) is ∙ step in
    let longer : length (rest_of s p o) ≡ suc (length (rest_of s p next)) = ap length same in
    omega (arith, longer)
