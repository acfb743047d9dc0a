use Rattle.std.proofs.Common.{rules}
use Rattle.bpfcanon_object.proofs.WrittenLemmas.{no_part, on_err, whole_part}
use Rattle.bpfcanon_object.proofs.desk.Desk.put.Goals as goal

pub returns-in_err-write_bytes-clause-some_messages : goal.returns-in_err-write_bytes-clause-some_messages
returns-in_err-write_bytes-clause-some_messages g c = on_err _ (no_part _ _)

pub returns-in_err-write_bytes-2-clause-some_lines : goal.returns-in_err-write_bytes-2-clause-some_lines
returns-in_err-write_bytes-2-clause-some_lines g c = on_err _ (whole_part _ _ _ (search (rules, c.in_ok-write_bytes.ensures.whole)))
