-- The target of check: conformance groups (RFC 9669 section 2.4), a release of Linux, or a version of LLVM's instruction set.
use Rattle.std.specs.Prelude.{◌≡◌, ◌++◌, ◌+◌, ◌==◌, ◌&&◌, if◌then◌else◌, ℕ, Bool, true, false, List, [], ◌∷◌, Option, Some, None, codes, filter, length, nat_le}
use Rattle.std.specs.{Borrow.Bor, List.list_all, List.list_any, Str.bytes_eq}
use Rattle.bpf_words.specs.declared.Order.{Order}
use Rattle.bpf_insn.specs.declared.{group.Group.Group, group.GroupSet.GroupSet}
use Rattle.bpf_insn.specs.{Groups.all_groups, Groups.group_name, Groups.holds, GroupSets.IsSetOf}
use Rattle.bpfcanon_object.specs.declared.{finding.Finding.Finding, finding.Reason.Reason, items.Need.Need, linux.Addition.Addition, linux.Cpu.Cpu, linux.Linux.Linux, target.Target.Target}
use Rattle.bpfcanon_object.specs.declared.finding.Reason.TheVariants as reason
use Rattle.bpfcanon_object.specs.declared.target.Target.TheVariants.{Groups, Release, Version}
use Rattle.bpfcanon_object.specs.{Items.Item, Items.item_bytes, Items.need_of, Linux.cpu_name, Linux.cpu_number, Linux.cpu_of, Linux.is_until, Linux.linux_of, Linux.linux_text}

-- ---- its names

-- whether a group is named
abbrev pub is_named : List (Bor (List ℕ)) → Group → Bool
is_named names group = list_any (λ name. bytes_eq name.now (group_name group)) names

-- the groups that are named
abbrev pub groups_named : List (Bor (List ℕ)) → List Group
groups_named names = filter (is_named names) all_groups

-- whether a name is that of a group
abbrev pub is_group : List ℕ → Bool
is_group name = list_any (λ group. bytes_eq name (group_name group)) all_groups

abbrev pub linux_name : Linux → List ℕ
linux_name x = codes "linux-" ++ linux_text x

-- the first release with programs of BPF, and those up to the latest that the table of additions speaks of
abbrev pub is_known : Linux → Bool
is_known x =
    if x.major == 3 then nat_le 18 x.minor && nat_le x.minor 19 else
    if x.major == 4 then nat_le x.minor 20 else
    if x.major == 5 then nat_le x.minor 19 else
    if x.major == 6 then nat_le x.minor 18 else false

abbrev pub IsRelease : List ℕ → Linux → Type 0
IsRelease name x = (name ≡ linux_name x) × (is_known x ≡ true)

-- a target that isn't made of groups has this name
abbrev pub IsSingle : List ℕ → Target → Type 0
IsSingle name (Groups set) = ⊥
IsSingle name (Release x) = IsRelease name x
IsSingle name (Version v) = name ≡ cpu_name v

-- a target has these names
abbrev pub IsNamed : List (Bor (List ℕ)) → Target → Type 0
IsNamed names (Groups set) = IsSetOf (groups_named names) set × (list_all (λ name. is_group name.now) names ≡ true)
IsNamed names (Release x) = (name : Bor (List ℕ)) × ((names ≡ name ∷ []) × IsRelease name.now x)
IsNamed names (Version v) = (name : Bor (List ℕ)) × ((names ≡ name ∷ []) × (name.now ≡ cpu_name v))

-- ---- what it has

-- the target has the group of an instruction, if that is in RFC 9669
abbrev pub has_group : GroupSet → Option Group → Bool
has_group set None = false
has_group set (Some group) = holds set group

-- the target has what an instruction needs
abbrev pub has : Target → Need → Bool
has (Groups set) need = has_group set need.group
has (Release x) need = is_until (linux_of need.addition) x
has (Version v) need = nat_le (cpu_number (cpu_of need.addition)) (cpu_number v)

-- what is said of an instruction whose group the target lacks, or that isn't in RFC 9669
abbrev pub group_reason : Option Group → Addition → Reason
group_reason (Some group) addition = reason.Outside group
group_reason None addition = reason.Release addition

-- what the target lacks for an instruction
abbrev pub lacking : Target → Need → Reason
lacking (Groups set) need = group_reason need.group need.addition
lacking (Release x) need = reason.Release need.addition
lacking (Version v) need = reason.Version need.addition

-- what is reported of an instruction at an offset, if it isn't in the target. Without a target each one is
abbrev pub outside_at : Option Target → ℕ → Need → Option Finding
outside_at None at need = None
outside_at (Some target) at need = if has target need then None else Some (record { pos = at; reason = lacking target need })

abbrev pub first_of : Option Finding → Option Finding → Option Finding
first_of None other = other
first_of (Some found) other = Some found

-- what is reported of the first of these items that isn't in the target; they begin at an offset
abbrev pub first_outside : Order → Option Target → ℕ → List Item → Option Finding
first_outside order target at [] = None
first_outside order target at (item ∷ items) =
    first_of (outside_at target at (need_of item)) (first_outside order target (at + length (item_bytes order item)) items)
