-- The strings of groups that keep their rules are inside the strings of .BTF.
use Rattle.std.proofs.Common.{get_or, ◌==◌, inl, inr, ◌≡◌, ℕ, ◌+◌, ◌<◌, ◌&&◌, Bool, true, false, List, [], ◌∷◌, length, refl, sym, subst}
use Rattle.std.specs.Prelude.{nat_lt, nat_le}
use Rattle.std.specs.List.{All}
use Rattle.std.proofs.lemmas.Bool.Decides.{nat_tests}
use Rattle.std.proofs.Common.{arith}
use Rattle.std.proofs.lemmas.List.Elements.{All-nil, All-cons, All-head, All-tail}
use Rattle.bpf_elf.specs.Names.{string_at, NAME_LIMIT}
use Rattle.bpf_elf.specs.Rules.{AllHold, each}
use Rattle.bpf_elf.proofs.RuleLemmas.{first_hold, rest_hold, each_holds, head_holds}
use Rattle.bpf_object.specs.declared.{extension.Part.Part, source.Source.Source}
use Rattle.bpf_object.specs.declared.fault.ObjectCause.TheVariants as cause
use Rattle.bpf_object.specs.declared.extension.Part.TheVariants.{Functions, Lines, Relocations}
use Rattle.bpf_object.specs.Extension.{Section, groups, group_name, group_count, record_offset}
use Rattle.bpf_object.specs.Groups.{access_off}
use Rattle.bpf_object.specs.Kept.{listed}
use Rattle.bpf_object.specs.Lines.{access_rules, accesses_rules}
use Rattle.bpf_object.specs.private.NotedStrings.{AreInside, IsChecked}
use Rattle.bpf_object.specs.private.WrittenTypes.{IsRead, AreGroups}
use Rattle.bpf_object.specs.Sources.{section, HasGroup}
use Rattle.bpf_object.specs.private.WrittenGroups.{record_offsets}
use Rattle.bpf_object.proofs.WrittenStrings.{each_listed}
use Rattle.bpf_object.proofs.KeptLemmas.{all, length-all, get-all}

abbrev Below : Source → ℕ → Type 0
Below x off = off < length x.strings.now

-- what holds of each value holds of their list
listed_each : {A : Type 0} (P : A → Type 0) (f : ℕ → A) (n : ℕ) → ((k : ℕ) → k < n → P (f k)) → All P (listed all f n)
listed_each P f n h k d lt =
    let low : k < n = rw (← length-all f n) lt in
    subst P (sym (get-all f n k d low)) (h k low)

below : (a b : ℕ) → nat_lt a b ≡ true → a < b
below a b h = grind (arith, nat_tests)

both : (x y : Bool) → (x && y) ≡ true → x ≡ true
both true y h = refl
both false y h = h

name_inside : (x : Source) (p : Part) (g : ℕ) → HasGroup x p g → Below x (group_name (section x) g)
name_inside x p g has =
    let off = group_name (section x) g in
    below off (length x.strings.now)
    (both (nat_lt off (length x.strings.now)) (nat_le (length (string_at x.strings.now off)) NAME_LIMIT) has.named)

access_inside : (s : Section) (g k : ℕ) → AllHold (access_rules s g k) → access_off s g k < length s.strings
access_inside s g k h =
    below (access_off s g k) (length s.strings)
    (head_holds cause.ExtensionString (s.start + record_offset Relocations g k + 8) (nat_lt (access_off s g k) (length s.strings)) [] h).0

group_inside : (x : Source) (g : ℕ) → HasGroup x Relocations g → AllHold (each (group_count (section x) g) (access_rules (section x) g)) → AreInside x Relocations g
group_inside x g has h =
    let s = section x in
    record {
      inside = All-cons (Below x) (group_name s g) (record_offsets s Relocations g) (name_inside x Relocations g has)
          (listed_each (Below x) (access_off s g) (group_count s g)
          (λ k lt. access_inside s g k (each_holds (group_count s g) k (access_rules s g) lt h)));
    }

pub accesses_inside : (x : Source) (gs : List ℕ) → All (HasGroup x Relocations) gs → AllHold (accesses_rules (section x) gs) → All (AreInside x Relocations) gs
accesses_inside x [] have h = All-nil (AreInside x Relocations)
accesses_inside x (g ∷ gs) have h =
    let s = section x in
    let own = each (group_count s g) (access_rules s g) in
    All-cons (AreInside x Relocations) g gs
    (group_inside x g (All-head (HasGroup x Relocations) g gs have) (first_hold own (accesses_rules s gs) h))
    (accesses_inside x gs (All-tail (HasGroup x Relocations) g gs have) (rest_hold own (accesses_rules s gs) h))

pub access_is_inside : (x : Source) (g k : ℕ) → AreInside x Relocations g → k < group_count (section x) g → Below x (access_off (section x) g k)
access_is_inside x g k are lt =
    let s = section x in
    each_listed (Below x) (access_off s g) (group_count s g) k (All-tail (Below x) (group_name s g) (record_offsets s Relocations g) are.inside) lt

-- a group of functions or lines has no string but its name
true-false : true ≡ false → ⊥
true-false e = cc

name_only : (x : Source) (p : Part) (gs : List ℕ) → ((g : ℕ) → record_offsets (section x) p g ≡ []) → All (HasGroup x p) gs → All (AreInside x p) gs
name_only x p gs none have k d lt =
    let g = get_or gs k d in
    let name = All-cons (Below x) (group_name (section x) g) [] (name_inside x p g (have k d lt)) (All-nil (Below x)) in
    record { inside = subst (λ (offs : List ℕ). All (Below x) (group_name (section x) g ∷ offs)) (sym (none g)) name }

-- the groups of each part
pub checked_groups : (x : Source) (p : Part) → IsChecked x → AreGroups x p (groups (section x) p)
checked_groups x Functions checked =
    let have = checked.parts.functions.groups in
    record { all = refl; groups = have; inside = name_only x Functions (groups (section x) Functions) (λ g. refl) have }
checked_groups x Lines checked =
    let have = checked.parts.lines.groups in
    record { all = refl; groups = have; inside = name_only x Lines (groups (section x) Lines) (λ g. refl) have }
checked_groups x Relocations checked = record { all = refl; groups = checked.parts.relocations.groups; inside = checked.inside }

-- a section that isn't empty keeps all rules
pub some_checked : (x : Source) → IsRead x → (length x.bytes.now == 0) ≡ false → IsChecked x
some_checked x read other = elim read [
  | inl none ↦ let never : true ≡ false = subst (λ (l : List ℕ). (length l == 0) ≡ false) none other in absurd (true-false never)
  | inr checked ↦ checked
]
