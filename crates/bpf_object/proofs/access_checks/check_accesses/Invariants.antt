use Rattle.std.proofs.Common.{◌≡◌, length}
use Rattle.std.specs.List.{All}
use Rattle.bpf_elf.specs.Rules.{first_broken}
use Rattle.bpf_object.specs.declared.extension.Part.TheVariants.{Relocations}
use Rattle.bpf_object.specs.Extension.{groups}
use Rattle.bpf_object.specs.Lines.{accesses_rules}
use Rattle.bpf_object.specs.private.Cursors.{rest_of}
use Rattle.bpf_object.specs.Sources.{section, HasGroup}
use Rattle.bpf_object.proofs.access_checks.check_accesses.Given as goal

abbrev pub invariant-loop-rest : goal.invariant-loop-rest
invariant-loop-rest l =
    (first_broken (accesses_rules (section l.x) (groups (section l.x) Relocations))
    ≡ first_broken (accesses_rules (section l.x) (rest_of (section l.x) Relocations l.rest)))
    × All (HasGroup l.x Relocations) (rest_of (section l.x) Relocations l.rest)

abbrev pub decreases-loop-rest : goal.decreases-loop-rest
decreases-loop-rest l = length (rest_of (section l.x) Relocations l.rest)
