use Rattle.std.proofs.Common.{refl, string_bytes}
use Rattle.std.proofs.KnownBytes.{Appends-nil}
use Rattle.bpfcanon_object.specs.{Each.IsEachPart, Written.IsPartWritten}
use Rattle.bpfcanon_object.specs.Written.IsPartWritten.{nothing, some}
use Rattle.bpfcanon_object.specs.declared.each.Each.TheVariants.{Key}
use Rattle.bpfcanon_object.proofs.WrittenLemmas.{on_err}
use Rattle.bpfcanon_object.proofs.each.Each.put.Goals as goal

pub returns-in_ok-put-in-Key-clause-whole : goal.returns-in_ok-put-in-Key-clause-whole
returns-in_ok-put-in-Key-clause-whole g c =
    let put = c.in_ok-put-in-Key.ensures in
    let answer = c.in_ok-answer-in-Key.answer in
    rw c.in-Key.is (
      _,
      (
        (
          _,
          (
            _,
            (
              (answer, (c.in_ok-answer-in-Key.ensures.answer, record { status_is = refl; lines_are = refl; messages_are = refl })),
              (put.lines, put.messages),
            ),
          ),
        ),
        put.status,
      ),
    )

pub returns-in_err-answer-in-Key-clause-part : goal.returns-in_err-answer-in-Key-clause-part
returns-in_err-answer-in-Key-clause-part g c = on_err _ (nothing (Appends-nil _) (Appends-nil _))

pub returns-in_err-put-in-Key-clause-part : goal.returns-in_err-put-in-Key-clause-part
returns-in_err-put-in-Key-clause-part g c =
    let put = c.in_err-put-in-Key.ensures in
    let answer = c.in_ok-answer-in-Key.answer in
    let part : IsPartWritten (IsEachPart g.row.A.Denot Key c.args.name.now c.args.bytes.now) _ _ _ _ =
    some (string_bytes answer.lines) (string_bytes answer.messages)
    (answer.status, (answer, (c.in_ok-answer-in-Key.ensures.answer, record { status_is = refl; lines_are = refl; messages_are = refl })))
    put.some_lines put.some_messages in
    rw c.in-Key.is (on_err _ part)

pub returns-in_ok-status-in-Check-clause-whole : goal.returns-in_ok-status-in-Check-clause-whole
returns-in_ok-status-in-Check-clause-whole g c =
    rw c.in-Check.is (c.in_ok-status-in-Check.status, (c.in_ok-status-in-Check.ensures.whole, c.worst-desk.ensures))

pub returns-in_err-status-in-Check-clause-part : goal.returns-in_err-status-in-Check-clause-part
returns-in_err-status-in-Check-clause-part g c = rw c.in-Check.is (on_err _ c.in_err-status-in-Check.ensures.part)
