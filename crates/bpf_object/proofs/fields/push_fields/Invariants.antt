use Rattle.std.proofs.Common.{◌≡◌, ◌++◌, take}
use Rattle.bpf_object.specs.private.Fields.{encode}
use Rattle.bpf_object.proofs.fields.push_fields.Given as goal

abbrev pub invariant-loop-field : goal.invariant-loop-field
invariant-loop-field g l = l.out.items ≡ l.initial.out.items ++ encode l.order (take l.field-index l.fields)
