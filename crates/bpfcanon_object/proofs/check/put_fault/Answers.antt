use Rattle.std.proofs.Common.{◌∙◌, refl}
use Rattle.std.proofs.KnownBytes.{Appends-nil}
use Rattle.bpfcanon_object.specs.Written.IsPartWritten.{nothing, some}
use Rattle.bpfcanon_object.proofs.WrittenLemmas.{on_err}
use Rattle.bpfcanon_object.proofs.check.put_fault.Goals as goal

pub returns-clause-whole : goal.returns-clause-whole
returns-clause-whole g c =
    let report = c.as_str-2.ensures.value ∙ c.in_ok-report.ensures in
    let lines = rw report at c.in_ok-put_report.ensures.lines in
    let messages = rw report at c.in_ok-put_report.ensures.messages in
    (_, (_, ((c.as_str.result.now, (rw (← c.as_str.ensures.value) at c.in_ok-text.ensures, (refl, (refl, refl)))), (lines, messages))))

pub returns-in_err-text-clause-part : goal.returns-in_err-text-clause-part
returns-in_err-text-clause-part g c = on_err _ (nothing (Appends-nil _) (Appends-nil _))

pub returns-in_err-report-clause-part : goal.returns-in_err-report-clause-part
returns-in_err-report-clause-part g c = on_err _ (nothing (Appends-nil _) (Appends-nil _))

pub returns-in_err-put_report-clause-part : goal.returns-in_err-put_report-clause-part
returns-in_err-put_report-clause-part g c = let report = c.as_str-2.ensures.value ∙ c.in_ok-report.ensures in
    let lines = rw report at c.in_err-put_report.ensures.some_lines in
    let messages = rw report at c.in_err-put_report.ensures.some_messages in
    on_err _ (some _ _ (c.as_str.result.now, (rw (← c.as_str.ensures.value) at c.in_ok-text.ensures, (refl, (refl, refl)))) lines messages)
