use Rattle.std.proofs.Common.{◌≡◌, ◌++◌}
use Rattle.bpf_object.specs.private.NotedStrings.{text_offset}
use Rattle.bpf_object.specs.Sources.{section}
use Rattle.bpf_object.specs.private.TypeSteps.{numbered}
use Rattle.bpf_object.specs.private.WrittenGroups.{records_bytes}
use Rattle.bpf_object.proofs.extension_writer.push_records.Given as goal

abbrev pub invariant-loop-k : goal.invariant-loop-k
invariant-loop-k g l = l.out.items ≡ l.initial.out.items ++ records_bytes (section l.x) (numbered l.x.numbers.now) (text_offset l.names) l.part l.group l.k
