-- The answer is that of the call in the byte order of the number, or that the number is of no order.
use Rattle.std.proofs.Common.{List, ℕ, refl, subst, sym}
use Rattle.bpfcanon_c.specs.{declared.answer.Ending.Ending, BtfEncoding.EndsBtfEncodeIn, BtfEncoding.EndsBtfEncode}
use Rattle.bpfcanon_c.proofs.Rooms.{ends_in_order}
use Rattle.bpfcanon_c.proofs.btf_encode.bpfcanon_proved_btf_encode.Goals as goal
use Rattle.bpfcanon_c.proofs.btf_encode.bpfcanon_proved_btf_encode.Goals.{in-Some, in-None}

pub returns : goal.returns
returns c =
    let types = c.args.types.now in
    let items = c.args.items.now in
    let strings = c.args.strings.now in
    let old = c.args.out.now in
    let report = c.match-order_from.report in
    let P : List ℕ → Ending → Type 0 = λ new e. EndsBtfEncode c.args.to types items strings old new e in
    elim c.match-order_from.branch [
      | in-Some w ↦
          let new = w.encoded_in.new.out in
          let ends =
          ends_in_order c.args.to w.in-Some.to (λ to. EndsBtfEncodeIn to types items strings old new) old new w.encoded_in.result w.in-Some.ensures w.encoded_in.ensures (λ h. h)
          in
          record { ending = report; answers = c.report.ensures; holds = subst (λ x. P x report) (sym w.out-is) (subst (P new) (sym w.report-is) ends) }
      | in-None w ↦ record {
        ending = report;
        answers = c.report.ensures;
        holds = subst (λ x. P x report) (sym w.out-is) (subst (P old) (sym w.report-is) (w.in-None.ensures, refl));
      }
    ]
