use Rattle.std.proofs.Common.{◌≡◌, ◌++◌, take}
use Rattle.bpf_object.specs.private.NotedStrings.{text_offset}
use Rattle.bpf_object.specs.Sources.{section}
use Rattle.bpf_object.specs.private.TypeSteps.{numbered}
use Rattle.bpf_object.specs.private.WrittenGroups.{groups_bytes}
use Rattle.bpf_object.proofs.extension_writer.push_groups.Given as goal

abbrev pub invariant-loop-k : goal.invariant-loop-k
invariant-loop-k g l = l.out.items ≡ l.initial.out.items ++ groups_bytes (section l.x) (numbered l.x.numbers.now) (text_offset l.names) l.part (take l.k l.groups)
