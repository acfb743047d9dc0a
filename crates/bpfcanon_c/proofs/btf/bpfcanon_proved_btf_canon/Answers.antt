-- The answer is that of the call in the byte order of the number, or that the number is of no order.
use Rattle.std.proofs.Common.{List, ℕ, refl, subst, sym}
use Rattle.bpfcanon_c.specs.{declared.answer.Ending.Ending, Outputs.IsBtfCode, Outputs.EndsOutput, Endings.IsCanonicalBtf, Endings.EndsBtf}
use Rattle.bpfcanon_c.proofs.Rooms.{ends_in_order}
use Rattle.bpfcanon_c.proofs.btf.bpfcanon_proved_btf_canon.Goals as goal
use Rattle.bpfcanon_c.proofs.btf.bpfcanon_proved_btf_canon.Goals.{in-Some, in-None}

pub returns : goal.returns
returns c =
    let bytes = c.args.bytes.now in
    let old = c.args.out.now in
    let report = c.match-order_from.report in
    let P : List ℕ → Ending → Type 0 = λ new e. EndsBtf c.args.to bytes old new e in
    elim c.match-order_from.branch [
      | in-Some w ↦
          let new = w.btf_in.new.out in
          let ends =
          ends_in_order c.args.to w.in-Some.to (λ to. EndsOutput (IsCanonicalBtf to bytes) (IsBtfCode bytes) old new) old new w.btf_in.result w.in-Some.ensures w.btf_in.ensures (λ h. h)
          in
          record { ending = report; answers = c.report.ensures; holds = subst (λ x. P x report) (sym w.out-is) (subst (P new) (sym w.report-is) ends) }
      | in-None w ↦ record {
        ending = report;
        answers = c.report.ensures;
        holds = subst (λ x. P x report) (sym w.out-is) (subst (P old) (sym w.report-is) (w.in-None.ensures, refl));
      }
    ]
