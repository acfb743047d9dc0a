-- The groups of a part that are left to be checked.
use Rattle.std.proofs.Common.{◌≡◌, ℕ, zero, suc, ◌+◌, ◌<◌, ◌≤◌, true, false, List, [], refl, ◌∙◌, arith}
use Rattle.std.specs.Prelude.{nat_lt, if◌then◌else◌}
use Rattle.std.specs.List.{All}
use Rattle.std.proofs.lemmas.Bool.Decides.{nat_tests}
use Rattle.std.proofs.lemmas.List.Elements.{All-nil, All-cons}
use Rattle.bpf_elf.specs.Rules.{first_broken, AllHold}
use Rattle.bpf_elf.proofs.RuleLemmas.{after_holding}
use Rattle.bpf_object.specs.declared.{extension.Part.Part, source.Source.Source}
use Rattle.bpf_object.specs.Extension.{Section, part_end, next_group, groups_from, group_rules, groups_rules}
use Rattle.bpf_object.specs.Sources.{section, HasGroup}

-- of some groups the first broken rule is that of the groups from one on, and the groups before that one are inside the part
pub record Left (x : Source) (p : Part) (gs : List ℕ) (g : ℕ) : Type 0 where
  pub n : ℕ
  pub enough : part_end (section x) p ≤ g + suc n
  pub rest : first_broken (groups_rules (section x) p gs) ≡ first_broken (groups_rules (section x) p (groups_from (section x) p (suc n) g))
  pub known : All (HasGroup x p) (groups_from (section x) p (suc n) g) → All (HasGroup x p) gs

-- the groups after a group
unfoldable pub later : (s : Section) (p : Part) (g n : ℕ) → List ℕ
later s p g n = if nat_lt (next_group s p g) (part_end s p) then groups_from s p n (next_group s p g) else []

passes : (x : Source) (p : Part) (gs : List ℕ) (g : ℕ) (l : Left x p gs g) → AllHold (group_rules (section x) p g)
    → first_broken (groups_rules (section x) p gs) ≡ first_broken (groups_rules (section x) p (later (section x) p g l.n))
unfolding later
passes x p gs g l h = l.rest ∙ after_holding (group_rules (section x) p g) (groups_rules (section x) p (later (section x) p g l.n)) h

knows : (x : Source) (p : Part) (gs : List ℕ) (g : ℕ) (l : Left x p gs g) → HasGroup x p g → All (HasGroup x p) (later (section x) p g l.n)
    → All (HasGroup x p) gs
unfolding later
knows x p gs g l here after = l.known (All-cons (HasGroup x p) g (later (section x) p g l.n) here after)

-- there are groups left, so at least one
more : (x : Source) (p : Part) (gs : List ℕ) (g n : ℕ) → part_end (section x) p ≤ g + suc n → g + 8 ≤ next_group (section x) p g
    → next_group (section x) p g < part_end (section x) p
    → first_broken (groups_rules (section x) p gs) ≡ first_broken (groups_rules (section x) p (groups_from (section x) p n (next_group (section x) p g)))
    → (All (HasGroup x p) (groups_from (section x) p n (next_group (section x) p g)) → All (HasGroup x p) gs) → Left x p gs (next_group (section x) p g)
more x p gs g zero enough moved lt h k = absurd (omega (arith, enough, moved, lt))
more x p gs g (suc n) enough moved lt h k = record { n = n; enough = omega (arith, enough, moved); rest = h; known = k }

pub left_next : (x : Source) (p : Part) (gs : List ℕ) (g : ℕ) → Left x p gs g → AllHold (group_rules (section x) p g) → HasGroup x p g
    → next_group (section x) p g < part_end (section x) p → Left x p gs (next_group (section x) p g)
unfolding later
left_next x p gs g l h here lt =
    let there : nat_lt (next_group (section x) p g) (part_end (section x) p) ≡ true = grind (arith, nat_tests) in
    let after : later (section x) p g l.n ≡ groups_from (section x) p l.n (next_group (section x) p g) = rw there refl in
    let enough = l.enough in
    let moved = here.head in
    more x p gs g l.n enough moved lt (rw after at (passes x p gs g l h)) (rw after at (knows x p gs g l here))

pub left_last : (x : Source) (p : Part) (gs : List ℕ) (g : ℕ) → Left x p gs g → AllHold (group_rules (section x) p g) → HasGroup x p g
    → part_end (section x) p ≤ next_group (section x) p g → AllHold (groups_rules (section x) p gs) × All (HasGroup x p) gs
unfolding later
left_last x p gs g l h here le =
    let there : nat_lt (next_group (section x) p g) (part_end (section x) p) ≡ false = grind (arith, nat_tests) in
    let after : later (section x) p g l.n ≡ [] = rw there refl in
    (rw after at (passes x p gs g l h), (rw after at (knows x p gs g l here)) (All-nil (HasGroup x p)))

pub left_first : (x : Source) (p : Part) (g n : ℕ) → 0 < n → part_end (section x) p ≤ g + n → Left x p (groups_from (section x) p n g) g
left_first x p g zero some enough = absurd (omega (arith, some))
left_first x p g (suc n) some enough = record { n = n; enough = enough; rest = refl; known = λ a. a }
