use Rattle.std.proofs.Common.{◌≡◌, List, Bool, length, sym, subst, arith}
use Rattle.std.specs.List.{All}
use Rattle.std.proofs.lemmas.Bool.{eqb-true}
use Rattle.std.proofs.lemmas.Result.{IfOk-weaker}
use Rattle.btf_raw.specs.KindNumbers.{VAR}
use Rattle.bpf_object.specs.private.TakenNames.{IsMarked, AreMarks}
use Rattle.bpf_object.proofs.TakenLemmas.{names_inside, marks_told, marks_of_no_var}
use Rattle.bpf_object.proofs.taken_names.taken_marks.Goals as goal

pub returns-then-is_empty : goal.returns-then-is_empty
returns-then-is_empty g c =
    let s = c.args.sections.now in
    let none : length c.in_ok-offsets.offsets.items ≡ 0 = omega (arith, c.in_ok-offsets.offsets.ok.0, eqb-true _ 0 (sym c.if-is_empty.ensures)) in
    subst (λ (marks : List Bool). AreMarks s marks) (sym c.new.ensures.items) (marks_of_no_var s c.in_ok-offsets.offsets.items c.in_ok-offsets.ensures none)

pub marks_at-requires-clause-there : goal.marks_at-requires-clause-there
marks_at-requires-clause-there g c =
    rw (c.deref.ensures.value, c.strings.ensures.is) (names_inside c.args.sections.now c.in_ok-offsets.offsets.items VAR c.strings.ensures.table c.in_ok-offsets.ensures)

pub returns : goal.returns
returns g c =
    let s = c.args.sections.now in
    IfOk-weaker c.marks_at.result (λ marks. All (IsMarked c.strings.result.now c.deref-2.result.now marks.items) c.deref.result.now) (λ marks. AreMarks s marks.items)
    (λ marks all.
    marks_told s c.strings.result.now c.in_ok-names.names.items c.deref-2.result.now marks.items c.in_ok-offsets.offsets.items c.deref.result.now c.in_ok-names.ensures c.in_ok-offsets.ensures
    c.strings.ensures.is c.deref-2.ensures.value c.deref.ensures.value all) c.marks_at.ensures
