use Rattle.std.proofs.KnownBytes.{Appends-nil}
use Rattle.bpfcanon_object.proofs.WrittenLemmas.{no_part, on_err}
use Rattle.bpfcanon_object.proofs.reports.put_report.Goals as goal

pub returns-in_ok-write_bytes-in-Text-clause-lines : goal.returns-in_ok-write_bytes-in-Text-clause-lines
returns-in_ok-write_bytes-in-Text-clause-lines g c = rw c.in-Text.is (Appends-nil _)

pub returns-in_err-write_bytes-in-Text-clause-some_lines : goal.returns-in_err-write_bytes-in-Text-clause-some_lines
returns-in_err-write_bytes-in-Text-clause-some_lines g c = on_err _ (no_part _ _)

pub returns-in_ok-write_bytes-in-Json-clause-messages : goal.returns-in_ok-write_bytes-in-Json-clause-messages
returns-in_ok-write_bytes-in-Json-clause-messages g c = rw c.in-Json.is (Appends-nil _)

pub returns-in_err-write_bytes-in-Json-clause-some_messages : goal.returns-in_err-write_bytes-in-Json-clause-some_messages
returns-in_err-write_bytes-in-Json-clause-some_messages g c = on_err _ (no_part _ _)

pub returns-in_ok-write_bytes-in-Github-clause-messages : goal.returns-in_ok-write_bytes-in-Github-clause-messages
returns-in_ok-write_bytes-in-Github-clause-messages g c = rw c.in-Github.is (Appends-nil _)

pub returns-in_err-write_bytes-in-Github-clause-some_messages : goal.returns-in_err-write_bytes-in-Github-clause-some_messages
returns-in_err-write_bytes-in-Github-clause-some_messages g c = on_err _ (no_part _ _)
