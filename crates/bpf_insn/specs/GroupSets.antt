-- The groups in a set, and the set of given groups (RFC 9669 section 2.4).
use Rattle.std.specs.Prelude.{◌↔◌, List, Any, IsTrue, filter}
use Rattle.bpf_insn.specs.{declared.group.Group.Group, declared.group.GroupSet.GroupSet, Groups.Brings, Groups.all_groups, Groups.holds}

-- the groups of a set, in the sequence in which groups are listed
abbrev pub groups_held : GroupSet → List Group
groups_held set = filter (holds set) all_groups

-- the set contains these groups and those that they include, and no others
abbrev pub IsSetOf : List Group → GroupSet → Type 0
IsSetOf groups set = (g : Group) → IsTrue (holds set g) ↔ Any (λ h. Brings h g) groups
