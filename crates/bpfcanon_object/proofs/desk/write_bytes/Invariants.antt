use Rattle.std.proofs.Common.{length, ◌≤◌, take}
use Rattle.std.specs.Io.KnownBytes.{Appends}
use Rattle.bpfcanon_object.proofs.desk.write_bytes.Given as goal

abbrev pub invariant-loop-turn : goal.invariant-loop-turn
invariant-loop-turn g l = record {
  within : l.taken ≤ length l.bytes;
  appends : Appends (g.W.Write.contents l.fn.writer) (g.W.Write.contents l.writer) (take l.taken l.bytes);
}
