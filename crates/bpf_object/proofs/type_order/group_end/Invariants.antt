-- The keys so far are of one group.
use Rattle.std.proofs.Common.{◌≡◌, ℕ, ◌<◌, ◌≤◌, slice_index_or}
use Rattle.bpf_object.specs.declared.type_keys.RecordKey.{RecordKey}
use Rattle.bpf_object.proofs.type_order.group_end.Given as goal

abbrev pub invariant-loop-index : goal.invariant-loop-index
invariant-loop-index l = (k : ℕ) (d : RecordKey) → l.start ≤ k → k < l.index → (slice_index_or l.keys k d).group ≡ (slice_index_or l.keys l.start d).group
