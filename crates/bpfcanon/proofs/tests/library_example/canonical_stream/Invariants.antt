use Rattle.std.proofs.Common.{◌≤◌}
use Rattle.bpfcanon.proofs.tests.library_example.canonical_stream.Given as goal

abbrev pub invariant-loop-piece : goal.invariant-loop-piece
invariant-loop-piece l = l.feed.fed ≤ 67108864
