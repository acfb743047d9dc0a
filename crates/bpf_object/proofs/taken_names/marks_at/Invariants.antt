use Rattle.std.proofs.Common.{◌≡◌, ℕ, ◌<◌, length, get_or}
use Rattle.bpf_object.specs.private.TakenNames.{IsMarked}
use Rattle.bpf_object.proofs.taken_names.marks_at.Given as goal

abbrev pub invariant-loop-k : goal.invariant-loop-k
invariant-loop-k g l = record {
  whole : length l.marks.items ≡ length l.strings;
  done : (i : ℕ) → i < l.k → IsMarked l.strings l.names l.marks.items (get_or l.offsets i 0);
}
