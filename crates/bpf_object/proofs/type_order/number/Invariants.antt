-- The first records of the group have their numbers, and other types keep theirs.
use Rattle.std.proofs.Common.{◌≡◌, ◌≢◌, ℕ, ◌+◌, ◌<◌, slice_index, slice_index_or}
use Rattle.bpf_object.specs.private.TypeSteps.{ids_in}
use Rattle.bpf_object.proofs.type_order.number.Given as goal

abbrev pub invariant-loop-k : goal.invariant-loop-k
invariant-loop-k l = record {
  placed : (j : ℕ) → j < l.k → slice_index l.numbers (slice_index (ids_in l.group) j) ≡ l.start + j + 1;
  kept : (id d : ℕ) → ((j : ℕ) → j < l.k → slice_index (ids_in l.group) j ≢ id) → slice_index_or l.numbers id d ≡ slice_index_or l.initial.numbers id d;
}
