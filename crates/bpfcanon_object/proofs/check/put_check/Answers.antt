use Rattle.std.proofs.Common.{List, ℕ, subst}
use Rattle.std.proofs.KnownBytes.{Appends-nil}
use Rattle.bpfcanon_object.specs.Answers.{IsAcceptedAnswer, IsAcceptedPart, IsCheckPart}
use Rattle.bpfcanon_object.specs.Answers.IsCheckAnswer.{accepted, refused}
use Rattle.bpfcanon_object.specs.Answers.IsCheckPart.{accepted as accepted_part, refused as refused_part}
use Rattle.bpfcanon_object.specs.Written.IsPartWritten.{nothing}
use Rattle.bpfcanon_object.proofs.WrittenLemmas.{on_err, part_as}
use Rattle.bpfcanon_object.proofs.check.put_check.Goals as goal

pub returns-in_ok-status-in-Ok-clause-whole : goal.returns-in_ok-status-in-Ok-clause-whole
returns-in_ok-status-in-Ok-clause-whole g c =
    let object = c.in-Ok.ensures.found in
    let put = c.in_ok-status-in-Ok.ensures.whole in
    let status = c.in_ok-status-in-Ok.status in
    let most = c.most_sources-most in
    let IsIt = λ (n : ℕ) (b : List ℕ). IsAcceptedAnswer c.args.format c.args.target c.args.name.now n b status put.0 put.1.0 in (
      put.0,
      (
        put.1.0,
        (
          accepted object.1.0 object.1.1
              (subst (λ n. IsIt n c.args.bytes.now) most.ensures (subst (λ b. IsIt most.result b) object.0 put.1.1.0)),
          put.1.1.1,
        ),
      ),
    )

pub returns-in_err-status-in-Ok-clause-part : goal.returns-in_err-status-in-Ok-clause-part
returns-in_err-status-in-Ok-clause-part g c = let object = c.in-Ok.ensures.found in
    let most = c.most_sources-most in
    let IsIt = λ (n : ℕ) (b lines messages : List ℕ). IsAcceptedPart c.args.format c.args.target c.args.name.now n b lines messages in
    on_err _ (part_as _ (IsCheckPart c.args.format c.args.target c.args.name.now c.args.bytes.now) _ _ _ _ (λ lines messages is_it. accepted_part object.1.0 object.1.1
    (subst (λ n. IsIt n c.args.bytes.now lines messages) most.ensures (subst (λ b. IsIt most.result b lines messages) object.0 is_it)))
    c.in_err-status-in-Ok.ensures.part)

pub returns-in_ok-status-in-Err-Fault-clause-whole : goal.returns-in_ok-status-in-Err-Fault-clause-whole
returns-in_ok-status-in-Err-Fault-clause-whole g c =
    let put = rw c.in-Err-Fault.field-0-is at c.in_ok-status-in-Err-Fault.ensures.whole in
    let fault = rw c.in-Err-Fault.field-0-is at c.in-Err-Fault.ensures.fault in
    (put.0, (put.1.0, (refused c.in-Err-Fault.fault fault put.1.1.0, put.1.1.1)))

pub returns-in_err-status-in-Err-Fault-clause-part : goal.returns-in_err-status-in-Err-Fault-clause-part
returns-in_err-status-in-Err-Fault-clause-part g c = let fault = rw c.in-Err-Fault.field-0-is at c.in-Err-Fault.ensures.fault in
    on_err _ (part_as _ (IsCheckPart c.args.format c.args.target c.args.name.now c.args.bytes.now) _ _ _ _
    (λ lines messages is_it. refused_part c.in-Err-Fault.fault fault is_it) (rw c.in-Err-Fault.field-0-is at c.in_err-status-in-Err-Fault.ensures.part))

pub returns-in-Err-Memory-clause-part : goal.returns-in-Err-Memory-clause-part
returns-in-Err-Memory-clause-part g c = nothing (Appends-nil _) (Appends-nil _)
