use Rattle.std.proofs.Common.{◌≡◌, length}
use Rattle.std.specs.{List.All, List.find, Str.bytes_eq}
use Rattle.bpf_object.specs.Lines.{name_of}
use Rattle.bpf_object.specs.private.Cursors.{rest_of}
use Rattle.bpf_object.specs.SourceLines as spec
use Rattle.bpf_object.specs.Sources.{section, HasGroup}
use Rattle.bpf_object.proofs.section_groups.group_of.Given as goal

abbrev pub invariant-loop-rest : goal.invariant-loop-rest
invariant-loop-rest l =
    (find (λ g. bytes_eq (name_of (section l.x) g) l.name) (rest_of (section l.x) l.part l.rest) ≡ spec.group_of (section l.x) l.part l.name)
    × All (HasGroup l.x l.part) (rest_of (section l.x) l.part l.rest)

abbrev pub decreases-loop-rest : goal.decreases-loop-rest
decreases-loop-rest l = length (rest_of (section l.x) l.part l.rest)
