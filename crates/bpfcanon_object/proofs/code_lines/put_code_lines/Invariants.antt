use Rattle.std.proofs.Common.{◌≤◌, string_bytes}
use Rattle.bpfcanon_object.proofs.CodeLemmas.{AreStored}
use Rattle.bpfcanon_object.proofs.code_lines.put_code_lines.Given as goal

abbrev pub invariant-loop-i : goal.invariant-loop-i
invariant-loop-i g l = record {
  few : l.seen ≤ l.i;
  stored : AreStored l.format l.target l.name l.most l.object l.i l.seen (string_bytes l.stored) (g.O.Write.contents l.fn.lines) (g.O.Write.contents l.lines)
      (g.E.Write.contents l.fn.messages) (g.E.Write.contents l.messages);
}
