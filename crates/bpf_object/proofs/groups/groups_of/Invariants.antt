use Rattle.std.proofs.Common.{◌≡◌, ◌++◌, length}
use Rattle.std.specs.List.{All}
use Rattle.bpf_object.specs.Extension.{groups}
use Rattle.bpf_object.specs.private.Cursors.{rest_of}
use Rattle.bpf_object.specs.Sources.{section, HasGroup}
use Rattle.bpf_object.proofs.groups.groups_of.Given as goal

abbrev pub invariant-loop-rest : goal.invariant-loop-rest
invariant-loop-rest g l =
    (l.found.items ++ rest_of (section l.x) l.part l.rest ≡ groups (section l.x) l.part)
    × All (HasGroup l.x l.part) (rest_of (section l.x) l.part l.rest)

abbrev pub decreases-loop-rest : goal.decreases-loop-rest
decreases-loop-rest g l = length (rest_of (section l.x) l.part l.rest)
