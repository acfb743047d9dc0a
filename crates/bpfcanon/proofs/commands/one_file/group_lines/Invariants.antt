use Rattle.std.proofs.Common.{◌≡◌, ◌++◌, filter, take}
use Rattle.std.specs.List.{flat_map}
use Rattle.bpf_insn.specs.Groups.{all_groups, group_name, holds}
use Rattle.bpfcanon.specs.Outcome.{newline}
use Rattle.bpfcanon.proofs.commands.one_file.group_lines.Given as goal

abbrev pub invariant-loop-group : goal.invariant-loop-group
invariant-loop-group g l =
    l.lines.items ≡ flat_map (λ g. group_name g ++ newline) (filter (holds l.set) (take l.group-index all_groups))
